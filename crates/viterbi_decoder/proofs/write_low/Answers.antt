-- `viterbi_decoder::write_low` meets its contract: the bits still to be written, then what is written, are all.
-- Assumes nothing.
use native.Mathlib.Omega.{arith}
use Rattle.viterbi_decoder.proofs.Sweeps.{lowering_none, lowering_more, lowering_all}
use Rattle.viterbi_decoder.proofs.write_low.Goals as goal

pub loop-i-init : goal.loop-i-init
loop-i-init c = lowering_none _ _ _ _

pub overflow_add-output : goal.overflow_add-output
overflow_add-output c = omega (arith, c.loop-i.invariant.most)

pub bounds-output-place : goal.bounds-output-place
bounds-output-place c = omega (arith, c.loop-i.invariant.most, c.loop-i.invariant.size)

pub loop-i-preserved : goal.loop-i-preserved
loop-i-preserved c = lowering_more c.requires (omega arith) c.loop-i.invariant

pub shape_of-output : goal.shape_of-output
shape_of-output c = c.loop-i.invariant.size

pub returns : goal.returns
returns c = lowering_all (omega arith) c.loop-i.invariant
