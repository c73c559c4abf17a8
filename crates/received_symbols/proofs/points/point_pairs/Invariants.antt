-- `received_symbols::points::point_pairs` meets its contract.
-- Assumes nothing.
use Prim.Native.Nat.{◌-◌, ◌≤◌}
use lib.ListN.{length}
use Rattle.common.proofs.Each.{Each}
use Rattle.branch_metrics.proofs.Runs.{Holds}
use Rattle.received_symbols.specs.Received.{point_at}
use Rattle.received_symbols.proofs.points.point_pairs.Given as goal

abbrev pub invariant-loop-k : goal.invariant-loop-k
invariant-loop-k l = (l.k ≤ l.count) × Each (Holds (point_at l.bytes)) (length l.initial.output) l.output l.k

abbrev pub decreases-loop-k : goal.decreases-loop-k
decreases-loop-k l = l.count - l.k
