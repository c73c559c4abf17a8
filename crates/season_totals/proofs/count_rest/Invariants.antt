-- `season_totals::count_rest` meets its contract, and ends: a report takes at least a byte.
-- Assumes nothing.
use Prim.Native.Nat.{◌-◌}
use lib.ListN.{length}
use Rattle.season_totals.proofs.Progress.{CountedTo}
use Rattle.season_totals.proofs.count_rest.Given as goal

abbrev pub invariant-loop-at : goal.invariant-loop-at
invariant-loop-at l = CountedTo l.text l.initial.totals l.totals l.at

abbrev pub decreases-loop-at : goal.decreases-loop-at
decreases-loop-at l = length l.text - l.at
