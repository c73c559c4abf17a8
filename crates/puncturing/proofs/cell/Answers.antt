-- `puncturing::cell` meets its contract: a pattern has at most seven bits.
-- Assumes nothing.
use native.Mathlib.Omega.{arith}
use Rattle.puncturing.proofs.Places.{length_le}
use Rattle.puncturing.proofs.cell.Goals as goal

pub returns : goal.returns
returns c = omega (arith, length_le c.args.rate c.requires.0)
