-- `dvbs_send::tell_answer` meets its contract.
-- Assumes nothing.
use mathlib.Core.Path.{subst}
use mathlib.Core.List.{List}
use Prim.Native.Nat.{ℕ}
use Rattle.program_io.specs.Files.{Writes}
use Rattle.dvbs_send.proofs.Telling.{told_none, told_one}
use Rattle.dvbs_send.proofs.tell_answer.Goals as goal

pub returns-then-number-eq0 : goal.returns-then-number-eq0
returns-then-number-eq0 c = let a = c.args in told_none a.packet a.number a.told.replaced c.if-number-eq0.true

pub returns : goal.returns
returns c =
    let a = c.args in
    told_one a.packet a.number a.told.replaced c.if-number-eq0.false
    (subst (λ (l : List ℕ). Writes a.told.errors l c.write-errors.result) c.replaced_line-n.ensures.text c.write-errors.ensures)
