-- `viterbi_decoder::first_least` meets its contract: the first of the memories so far with the least metric.
-- Assumes nothing.
use Rattle.convolutional_code.specs.Costs.{at}
use Rattle.viterbi_decoder.specs.Metric.{FirstLeast}
use Rattle.viterbi_decoder.proofs.first_least.Given as goal

abbrev pub invariant-loop-s : goal.invariant-loop-s
invariant-loop-s l = FirstLeast (at l.metrics) l.s l.best
