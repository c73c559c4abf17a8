-- `error_locator::clear` meets its contract: the rows below i are cleared in column k.
-- Assumes nothing.
use Rattle.error_locator.specs.Locator.{Cleared}
use Rattle.error_locator.proofs.clear.Given as goal

abbrev pub invariant-loop-i : goal.invariant-loop-i
invariant-loop-i l = Cleared l.initial.m l.m l.size l.k l.i
