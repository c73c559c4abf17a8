-- `puncturing::next_place` meets its contract.
-- Assumes nothing.
use native.Mathlib.Omega.{arith}
use Rattle.puncturing.proofs.Places.{length_le}
use Rattle.puncturing.proofs.next_place.Goals as goal

pub overflow_add-result : goal.overflow_add-result
overflow_add-result c = omega (arith, length_le c.args.rate c.requires.0)
