-- `reader_stream::ReaderStream::feed` meets its contract.
-- Assumes nothing.
use mathlib.Core.Path.{◌≡◌}
use Prim.Native.Nat.{◌-◌}
use lib.ListN.{length}
use Rattle.reader_stream.proofs.Feeding.{Feeding}
use Rattle.reader_stream.proofs.ReaderStream.feed.Given as goal

abbrev pub invariant-loop-at : goal.invariant-loop-at
invariant-loop-at l =
    (Feeding l.initial.runs l.initial.carry l.initial.held l.pairs l.initial.output l.output l.runs l.carry l.held l.count l.at) × (length l.bits ≡ length l.initial.bits) × (length l.output ≡ length l.initial.output)

abbrev pub decreases-loop-at : goal.decreases-loop-at
decreases-loop-at l = length l.pairs - l.at
