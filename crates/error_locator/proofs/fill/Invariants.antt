-- `error_locator::fill` meets its contract: the first r rows are filled in.
-- Assumes nothing.
use Rattle.error_locator.proofs.KeyEquations.{FilledTo}
use Rattle.error_locator.proofs.fill.Given as goal

abbrev pub invariant-loop-r : goal.invariant-loop-r
invariant-loop-r l = FilledTo l.s l.m l.size l.r
