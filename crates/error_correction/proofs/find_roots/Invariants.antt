-- `error_correction::find_roots` meets its contract: the roots among the first i degrees are listed, and x has the next sixteen places.
-- Assumes nothing.
use mathlib.Core.Path.{◌≡◌}
use Prim.Native.Nat.{◌*◌}
use lib.ListN.{length}
use Rattle.galois.specs.Lanes.{PowersFrom}
use Rattle.error_correction.proofs.RootSearch.{Searched}
use Rattle.error_correction.proofs.find_roots.Given as goal

abbrev pub invariant-loop-turn : goal.invariant-loop-turn
invariant-loop-turn l = (length l.x ≡ 16) × PowersFrom (16 * l.turn) l.x × Searched l.u l.q l.found.degrees l.found.places l.found.count (16 * l.turn)
