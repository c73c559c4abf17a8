-- `viterbi_decoder::trace` meets its contract.
-- Assumes nothing.
use mathlib.Core.Path.{◌≡◌}
use mathlib.Core.List.{reverse}
use Prim.Native.Nat.{◌/◌, ◌%◌, ◌≤◌, ◌<◌}
use lib.ListN.{length}
use Rattle.viterbi_decoder.specs.Lanes.{traced}
use Rattle.viterbi_decoder.proofs.Sweeps.{Whole}
use Rattle.viterbi_decoder.proofs.trace.Given as goal

abbrev pub invariant-loop-b : goal.invariant-loop-b
invariant-loop-b l = (length l.output ≡ length l.initial.output) × (l.b ≤ length l.initial.output / 6) × (l.r < 64) × Whole l.rows (length l.initial.output % 6) l.b l.r l.output (reverse (traced l.rows (length l.initial.output % 6) (length l.initial.output / 6) l.end))
