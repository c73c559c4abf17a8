-- `error_locator::find_pivot` meets its contract: the rows from k up to p are zero in column k.
-- Assumes nothing.
use native.Mathlib.Omega.{arith}
use Rattle.error_locator.proofs.KeyEquations.{looked_step, looked_found}
use borrow.Author.Rules.{rules}
use Rattle.error_locator.proofs.find_pivot.Goals as goal

pub returns-then-m-p-ne0 : goal.returns-then-m-p-ne0
returns-then-m-p-ne0 c =
    let l = c.loop-p in
    (omega arith, looked_found _ _ _ _ (search rules) c.if-m-p-ne0.true l.invariant)

pub loop-p-preserved : goal.loop-p-preserved
loop-p-preserved c = looked_step _ _ _ _ (omega arith) c.if-m-p-ne0.false c.loop-p.invariant
