-- `bit_packing::pack_bytes` meets its contract.
-- Assumes nothing.
use mathlib.Core.Path.{refl}
use Prim.Native.Nat.{◌+◌, ◌*◌, ◌≤◌, ◌<◌}
use native.Mathlib.Omega.{arith}
use lib.ListN.{length, take}
use Rattle.bit_packing.proofs.Bytes.{packed_few}
use Rattle.bit_packing.proofs.Whole.{whole_more}
use Rattle.bit_packing.proofs.pack_bytes.Goals as goal

pub loop-k-init : goal.loop-k-init
loop-k-init c = rw (packed_few (take 0 c.args.bits.now) (omega arith)) refl

pub loop-k-preserved : goal.loop-k-preserved
loop-k-preserved c =
    let l : 8 * c.loop-k.k + 8 ≤ length c.args.bits.now = omega arith in
    let m : c.loop-k.k < length c.args.output.now = omega arith in
    whole_more c.args.bits.now c.args.output.now c.loop-k.k c.loop-k.invariant l m c.four_bits-upper.ensures.0 c.four_bits-lower.ensures.0
