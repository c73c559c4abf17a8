-- `reed_solomon::division::sparse_quotient` meets its contract: the first i coefficients are written.
-- Assumes nothing.
use mathlib.Core.Path.{◌≡◌}
use Prim.Native.Nat.{◌*◌}
use lib.ListN.{length}
use Rattle.reed_solomon.specs.Steps.{SparseQuotient}
use Rattle.reed_solomon.proofs.division.sparse_quotient.Given as goal

abbrev pub invariant-loop-turn : goal.invariant-loop-turn
invariant-loop-turn l = (length l.quotient ≡ 320) × SparseQuotient l.m l.quotient (16 * l.turn)
