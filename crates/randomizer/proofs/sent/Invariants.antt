-- `randomizer::sent` meets its contract: k sixteens are there.
-- Assumes nothing.
use mathlib.Core.Path.{◌≡◌}
use Prim.Native.Nat.{◌*◌}
use lib.ListN.{length}
use Rattle.randomizer.specs.Masks.{Begun}
use Rattle.randomizer.proofs.sent.Given as goal

abbrev pub invariant-loop-k : goal.invariant-loop-k
invariant-loop-k g l = (length l.written ≡ 188) × Begun g.row.PLACE l.packet l.masks (16 * l.k) l.written
