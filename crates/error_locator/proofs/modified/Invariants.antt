-- `error_locator::modified` meets its contract: the places from l on are done.
-- Assumes nothing.
use Rattle.error_locator.proofs.ModifiedSyndromes.{ModifiedTo}
use Rattle.error_locator.proofs.modified.Given as goal

abbrev pub invariant-loop-l : goal.invariant-loop-l
invariant-loop-l l = ModifiedTo l.initial.t l.places l.t l.l
