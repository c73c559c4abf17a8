-- `viterbi_decoder::woven` meets its contract.
-- Assumes nothing.
use mathlib.Core.Path.{refl}
use native.Mathlib.Omega.{arith}
use Rattle.viterbi_decoder.proofs.Loops.{woven_none, woven_more, woven_all}
use Rattle.viterbi_decoder.proofs.woven.Goals as goal

pub loop-i-init : goal.loop-i-init
loop-i-init c = woven_none refl

pub loop-i-preserved : goal.loop-i-preserved
loop-i-preserved c = woven_more (omega arith) c.loop-i.invariant

pub returns : goal.returns
returns c = woven_all (omega arith) c.loop-i.invariant
