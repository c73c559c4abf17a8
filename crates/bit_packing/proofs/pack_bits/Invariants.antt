-- `bit_packing::pack_bits` meets its contract.
-- Assumes nothing.
use Rattle.bit_packing.specs.Packing.{carried_bits}
use Rattle.bit_packing.proofs.Packing.{Packing}
use Rattle.bit_packing.proofs.pack_bits.Given as goal

abbrev pub invariant-loop-bit : goal.invariant-loop-bit
invariant-loop-bit l = Packing (carried_bits l.carry l.held) l.bits l.initial.output l.output l.byte l.n l.k l.bit-index
