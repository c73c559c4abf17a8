-- `convolutional_code::memory_of` meets its contract.
-- Assumes nothing.
use Prim.Native.Nat.{◌+◌}
use Rattle.convolutional_code.proofs.Bits.{bits_at}
use Rattle.convolutional_code.proofs.memory_of.Goals as goal

pub six_bits-requires : goal.six_bits-requires
six_bits-requires c =
    let b = c.requires.0 in
    let n = c.args.bits in
    (bits_at b n, bits_at b (n + 1), bits_at b (n + 2), bits_at b (n + 3), bits_at b (n + 4), bits_at b (n + 5))
