-- `viterbi_decoder::write_low` meets its contract: the bits still to be written, then what is written, are all.
-- Assumes nothing.
use Rattle.viterbi_decoder.proofs.Sweeps.{Lowering}
use Rattle.viterbi_decoder.proofs.write_low.Given as goal

abbrev pub invariant-loop-i : goal.invariant-loop-i
invariant-loop-i l = Lowering l.lane l.n l.place l.initial.output l.r l.i l.output
