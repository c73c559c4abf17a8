-- `viterbi_decoder::ways_chosen` meets its contract.
-- Assumes nothing.
use borrow.Author.Rules.{rules}
use Rattle.viterbi_decoder.proofs.ways_chosen.Goals as goal

pub returns : goal.returns
returns c = λ i h. let e = c.array_of.ensures i h in search rules
