-- `viterbi_decoder::woven` meets its contract.
-- Assumes nothing.
use Rattle.viterbi_decoder.proofs.Loops.{Woven}
use Rattle.viterbi_decoder.proofs.woven.Given as goal

abbrev pub invariant-loop-i : goal.invariant-loop-i
invariant-loop-i l = Woven l.low l.high l.r l.i
