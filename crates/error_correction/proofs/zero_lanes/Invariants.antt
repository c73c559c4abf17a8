-- `error_correction::zero_lanes` meets its contract.
-- Assumes nothing.
use Rattle.error_correction.proofs.RootSearch.{Counted}
use Rattle.error_correction.proofs.zero_lanes.Given as goal

abbrev pub invariant-loop-j : goal.invariant-loop-j
invariant-loop-j l = Counted l.v l.n l.j
