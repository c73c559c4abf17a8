-- `convolutional_code::unpack_byte` meets its contract.
-- Assumes nothing.
use mathlib.Core.List.{[], ◌∷◌}
use lib.Seq.{sets-eq}
use Rattle.convolutional_code.specs.Bits.{bits_of}
use Rattle.convolutional_code.proofs.unpack_byte.Goals as goal

pub returns : goal.returns
unfolding bits_of
returns c = sets-eq (bits_of (c.args.b ∷ [])) c.args.output.now 0 c.requires
