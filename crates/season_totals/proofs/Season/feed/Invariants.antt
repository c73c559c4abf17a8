-- `season_totals::Season::feed` meets its contract, and ends: each turn takes at least a byte.
-- Assumes nothing.
use Prim.Native.Nat.{◌-◌}
use lib.ListN.{length}
use Rattle.season_totals.proofs.Histories.{FedTo}
use Rattle.season_totals.proofs.Season.feed.Given as goal

abbrev pub invariant-loop-at : goal.invariant-loop-at
invariant-loop-at l = FedTo l.piece l.initial.season l.season l.at

abbrev pub decreases-loop-at : goal.decreases-loop-at
decreases-loop-at l = length l.piece - l.at
