-- `bit_packing::four_bits` meets its contract.
-- Assumes nothing.
use Prim.Native.Nat.{◌+◌}
use Rattle.convolutional_code.proofs.Bits.{bits_at}
use Rattle.bit_packing.proofs.four_bits.Goals as goal

pub gathered-requires : goal.gathered-requires
gathered-requires c = let b = bits_at c.requires.0 in (b c.args.at, b (c.args.at + 1), b (c.args.at + 2), b (c.args.at + 3))
