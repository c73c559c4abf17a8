-- `dvbs_reader_stream::pieces::feed_points` meets its contract.
-- Assumes nothing.
use mathlib.Core.Path.{◌≡◌}
use mathlib.Core.List.{map}
use Prim.Native.Nat.{◌-◌}
use lib.ListN.{length}
use Rattle.branch_metrics.specs.Cost.{received_of}
use Rattle.branch_metrics.specs.SoftPairs.{symbol_pair}
use Rattle.dvbs_reader_stream.proofs.Parts.{Fed}
use Rattle.dvbs_reader_stream.proofs.pieces.feed_points.Given as goal

abbrev pub invariant-loop-at : goal.invariant-loop-at
invariant-loop-at l = Fed l.initial.next (map symbol_pair (received_of l.is l.qs l.lost)) l.initial.output l.output l.next l.count l.at × (length l.pairs ≡ 1632) × (length l.bits ≡ 1632)

abbrev pub decreases-loop-at : goal.decreases-loop-at
decreases-loop-at l = length l.is - l.at
