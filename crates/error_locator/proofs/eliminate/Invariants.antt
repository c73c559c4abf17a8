-- `error_locator::eliminate` meets its contract: the first k columns are those of d times the unit matrix.
-- Assumes nothing.
use Rattle.galois.proofs.Instance.{byte}
use Rattle.error_locator.specs.Locator.{Reduced}
use Rattle.error_locator.proofs.eliminate.Given as goal

abbrev pub invariant-loop-k : goal.invariant-loop-k
invariant-loop-k l = Reduced l.initial.m l.m l.size l.k (byte l.d)
