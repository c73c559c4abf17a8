-- `report::read_report` meets its contract.
-- Assumes nothing.
use mathlib.Core.Path.{◌≡◌, sym, ap, ◌∙◌}
use Prim.Native.Nat.{◌-◌, ◌≤◌}
use native.Mathlib.Omega.{arith}
use lib.ListN.{length, drop, length-drop, drop_of_length-le}
use Rattle.answer.specs.Number.{answered, given_or}
use Rattle.report.specs.Read.{blank}
use Rattle.report.proofs.Answers.{whole-longer, whole_all}
use Rattle.report.proofs.read_report.Goals as goal

pub returns-then-longer : goal.returns-then-longer
returns-then-longer c =
    let a = c.args in
    let r = c.read_front-read in
    let h : r.result.end ≤ length a.text.now = r.ensures.1 in
    whole-longer a.text.now (answered r.result.report) (given_or blank (λ r. r) r.result.report) (drop r.result.end a.text.now) r.ensures.0
    (λ e. let l : length a.text.now - r.result.end ≡ 0 = sym (length-drop r.result.end a.text.now) ∙ ap length e in c.if-longer.true (omega arith))

pub returns : goal.returns
returns c =
    let a = c.args in
    let r = c.read_front-read in
    whole_all a.text.now (answered r.result.report) (given_or blank (λ r. r) r.result.report) (drop r.result.end a.text.now) r.ensures.0
    (drop_of_length-le a.text.now {i = r.result.end} (omega (arith, c.if-longer.false)))
