-- `reed_solomon::error_bits::ones` meets its contract.
-- Assumes nothing.
use mathlib.Core.Path.{sym}
use native.Mathlib.Omega.{arith}
use Rattle.reed_solomon.proofs.BitDistance.{bits_ones}
use Rattle.reed_solomon.proofs.error_bits.ones.Goals as goal

pub returns : goal.returns
returns c = sym (bits_ones 8 c.args.x (omega arith))
