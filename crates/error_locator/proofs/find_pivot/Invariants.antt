-- `error_locator::find_pivot` meets its contract: the rows from k up to p are zero in column k.
-- Assumes nothing.
use Rattle.error_locator.proofs.KeyEquations.{Looked}
use Rattle.error_locator.proofs.find_pivot.Given as goal

abbrev pub invariant-loop-p : goal.invariant-loop-p
invariant-loop-p l = Looked l.m l.size l.k l.p
