-- `convolutional_code::unpack` meets its contract.
-- Assumes nothing.
use Rattle.convolutional_code.proofs.Unpacked.{Unpacked}
use Rattle.convolutional_code.proofs.unpack.Given as goal

abbrev pub invariant-loop-i : goal.invariant-loop-i
invariant-loop-i l = Unpacked l.memory l.bytes l.history l.i
