-- `galois::mul` meets its contract: after the rounds below bit i, r and x times the bits of b from i up make the product.
-- Assumes nothing.
use mathlib.Core.Path.{◌≡◌}
use Prim.Native.Nat.{◌/◌, ◌-◌, ◌^◌, ◌<◌}
use lib.Bits.{bit_xor}
use Rattle.galois.specs.Field256.{rounds, mul}
use Rattle.galois.proofs.mul.Given as goal

abbrev pub invariant-loop-i : goal.invariant-loop-i
invariant-loop-i l = (l.x < 256) × (bit_xor l.r (rounds (8 - l.i) l.x (l.b / 2 ^ l.i)) ≡ mul l.a l.b)
