-- `viterbi_decoder::write_sums` meets its contract.
-- Assumes nothing.
use Prim.Native.Nat.{◌/◌, ◌%◌}
use native.Mathlib.Omega.{arith}
use Rattle.viterbi_decoder.proofs.Butterfly.{written_none, written_more}
use Rattle.viterbi_decoder.proofs.write_sums.Goals as goal

pub loop-n-init : goal.loop-n-init
loop-n-init c = written_none c.requires.0

pub sums-requires : goal.sums-requires
sums-requires c = let n = c.loop-n.n in λ i h. c.requires.1 (n / 9) (n % 9) i (omega arith) (omega arith) h

pub loop-n-preserved : goal.loop-n-preserved
loop-n-preserved c = written_more _ (omega arith) c.sums.ensures c.loop-n.invariant

pub returns : goal.returns
returns c = let v = c.loop-n.invariant in record { size = v.len; sum = λ n h. v.done n (omega arith) }
