-- `receiver::decode_block` meets its contract.
-- Assumes nothing.
use mathlib.Core.Path.{sym, subst}
use mathlib.Core.List.{List}
use Prim.Native.Nat.{ℕ}
use Rattle.reed_solomon.specs.Marks.{DecodesMarked}
use Rattle.reed_solomon.proofs.MarkedDistance.{as_without_marks}
use Rattle.receiver.proofs.decode_block.Goals as goal

pub returns-then-none : goal.returns-then-none
returns-then-none c =
    let d = c.decode in
    subst (λ (m : List ℕ). DecodesMarked m c.args.block.now d.new.block d.result) (sym (c.requires c.if-none.true)) (as_without_marks c.args.block.now d.new.block d.result d.ensures)
