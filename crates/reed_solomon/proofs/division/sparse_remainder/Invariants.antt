-- `reed_solomon::division::sparse_remainder` meets its contract: the first i elements are written.
-- Assumes nothing.
use mathlib.Core.Path.{◌≡◌}
use Prim.Native.Nat.{◌*◌}
use lib.ListN.{length}
use Rattle.reed_solomon.specs.Steps.{SparseRemainder}
use Rattle.reed_solomon.proofs.division.sparse_remainder.Given as goal

abbrev pub invariant-loop-turn : goal.invariant-loop-turn
invariant-loop-turn l = (length l.r ≡ 96) × SparseRemainder l.m l.quotient l.r (16 * l.turn)
