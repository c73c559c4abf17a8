-- `report::read_front` meets its contract.
-- Assumes nothing.
use mathlib.Core.Path.{refl, sym, ◌∙◌}
use native.Mathlib.Omega.{arith}
use Rattle.report.proofs.Answers.{read-wrong}
use Rattle.report.proofs.read_front.Goals as goal

pub returns-then-not-sums_right : goal.returns-then-not-sums_right
returns-then-not-sums_right c =
    let a = c.args in
    let l = c.in-Some.lines in
    let f = c.in-Some.ensures in
    (read-wrong a.text.now a.at l.report l.end f (sym c.sums_right.ensures ∙ c.if-not-sums_right.true), f.place refl, λ e. absurd (omega arith))
