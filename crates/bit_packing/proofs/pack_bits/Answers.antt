-- `bit_packing::pack_bits` meets its contract.
-- Assumes nothing.
use native.Mathlib.Omega.{arith}
use Rattle.convolutional_code.proofs.Bits.{bits_at}
use Rattle.bit_packing.proofs.Packing.{carried_length, packing_start, packing_held, packing_whole, packing_as}
use Rattle.bit_packing.proofs.pack_bits.Goals as goal
use Rattle.bit_packing.proofs.pack_bits.Goals.{then-n-eq8, else-n-eq8}

pub loop-bit-init : goal.loop-bit-init
loop-bit-init c = packing_start c.args.carry c.args.held c.args.bits.now c.args.output.now c.requires.0

pub overflow_add-byte : goal.overflow_add-byte
overflow_add-byte c = omega (arith, bits_at c.requires.1 c.loop-bit.bit-index)

pub bounds-output-k : goal.bounds-output-k
bounds-output-k c =
    omega (arith, c.loop-bit.invariant.counted, c.loop-bit.auto.output, carried_length c.args.carry c.args.held (omega arith))

pub overflow_add-k : goal.overflow_add-k
overflow_add-k c =
    omega (arith, c.loop-bit.invariant.counted, carried_length c.args.carry c.args.held (omega arith))

pub loop-bit-preserved : goal.loop-bit-preserved
loop-bit-preserved c =
    let l = c.loop-bit in
    let g = l.invariant in
    let here = c.loop-bit-test.true in
    let bit = bits_at c.requires.1 l.bit-index in
    elim c.if-n-eq8.branch [
      | then-n-eq8 w ↦
          packing_as w.output-is w.n-is w.k-is
          (packing_whole g here bit w.if-n-eq8.true (omega (arith, g.counted, carried_length c.args.carry c.args.held (omega arith))) (omega (arith, bit)))
      | else-n-eq8 w ↦ packing_as w.output-is w.n-is w.k-is (packing_held g here bit (omega (arith, g.few, w.if-n-eq8.false)))
    ]
