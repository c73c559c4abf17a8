-- `convolutional_code::convolve` meets its contract.
-- Assumes nothing.
use lib.ListN.{length}
use Rattle.common.proofs.Written.{Written}
use Rattle.convolutional_code.specs.Sweep.{sweep}
use Rattle.convolutional_code.proofs.convolve.Given as goal

abbrev pub invariant-loop-n : goal.invariant-loop-n
invariant-loop-n l = Written 0 l.initial.coded (sweep l.fn.taps l.history 0 (length l.initial.coded)) l.coded l.n
