-- `galois::times_x` meets its contract: the code's expression and `times_x` agree at each of the 256 bytes, by computation.
-- Assumes nothing.
use Prim.Native.Nat.{◌*◌, ◌/◌, ◌%◌}
use lib.Bits.{bit_xor}
use native.Mathlib.Omega.{arith}
use Rattle.galois.specs.Field256.{times_x}
use Rattle.common.proofs.Computed.{agree_at}
use Rattle.galois.proofs.times_x.Goals as goal

pub returns : goal.returns
unfolding times_x
returns c = agree_at (λ a. bit_xor ((a * 2) % 256) (a / 128 * 0x1D)) times_x 256 tt c.args.a (omega arith)
