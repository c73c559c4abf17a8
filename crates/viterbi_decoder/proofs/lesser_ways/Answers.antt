-- `viterbi_decoder::lesser_ways` meets its contract.
-- Assumes nothing.
use Rattle.std.proofs.Common.{arith}
use Rattle.std.proofs.lemmas.Grind.{common_steps}
use Rattle.viterbi_decoder.proofs.lesser_ways.Goals as goal

pub returns : goal.returns
returns c = λ i h. let e = c.array_of.ensures i h in grind (arith, common_steps, e)
