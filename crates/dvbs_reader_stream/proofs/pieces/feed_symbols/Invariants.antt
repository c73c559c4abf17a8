-- `dvbs_reader_stream::pieces::feed_symbols` meets its contract.
-- Assumes nothing.
use mathlib.Core.Path.{◌≡◌}
use mathlib.Core.List.{map}
use Prim.Native.Nat.{◌-◌}
use lib.ListN.{length}
use Rattle.reader.specs.Decisions.{hard_pair}
use Rattle.dvbs_reader_stream.proofs.Parts.{Fed}
use Rattle.dvbs_reader_stream.proofs.pieces.feed_symbols.Given as goal

abbrev pub invariant-loop-at : goal.invariant-loop-at
invariant-loop-at l = Fed l.initial.next (map hard_pair l.symbols) l.initial.output l.output l.next l.count l.at × (length l.pairs ≡ 1632) × (length l.bits ≡ 1632)

abbrev pub decreases-loop-at : goal.decreases-loop-at
decreases-loop-at l = length l.symbols - l.at
