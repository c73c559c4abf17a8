-- `dvbs_lock::numbers::put_byte` meets its contract.
-- Assumes nothing.
use Rattle.convolutional_code.specs.Bits.{bits_of}
use Rattle.dvbs_lock.proofs.numbers.put_byte.Goals as goal

pub returns : goal.returns
unfolding bits_of
returns c =
    c.put.ensures
