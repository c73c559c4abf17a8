-- `pass_report::is_right` meets its contract.
-- Assumes nothing.
use mathlib.Core.Path.{sym, ap, ◌∙◌}
use Prim.Native.Nat.{ℕ}
use lib.Dec.{eqb}
use Rattle.program_io.specs.Words.{argument_count}
use Rattle.program_io.specs.declared.calls.Asked.{Asked}
use Rattle.pass_report.specs.Ends.{right_call}
use Rattle.pass_report.proofs.is_right.Goals as goal

pub returns-in-Work : goal.returns-in-Work
returns-in-Work c =
    let a = c.args in
    ap (λ (n : ℕ). eqb n 0) c.count.ensures ∙ sym (ap (λ (x : Asked). right_call x (argument_count a.arguments)) c.in-Work.is)
