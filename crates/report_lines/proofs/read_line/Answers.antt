-- `report_lines::read_line` meets its contract.
-- Assumes nothing.
use Rattle.std.specs.Prelude.{is_some}
use Rattle.report_lines.specs.Reading.{found_or, WordIs}
use Rattle.report_lines.proofs.Numbers.{line_none, line_found}
use mathlib.Core.Path.{subst}
use Rattle.report_lines.proofs.read_line.Goals as goal

pub returns-then-not-matches : goal.returns-then-not-matches
returns-then-not-matches c =
    let a = c.args in
    let m = c.matches in
    line_none a.key.now a.text.now a.at a.limit (subst (WordIs a.key.now a.text.now a.at) c.if-not-matches.true m.ensures)

pub returns : goal.returns
returns c =
    let a = c.args in
    let m = c.matches in
    let n = c.read_number in
    line_found a.key.now a.text.now a.at a.limit (is_some n.result) (found_or 0 (λ l. l.value) n.result) (found_or 0 (λ l. l.end) n.result)
    (subst (WordIs a.key.now a.text.now a.at) c.if-not-matches.false m.ensures) n.ensures
