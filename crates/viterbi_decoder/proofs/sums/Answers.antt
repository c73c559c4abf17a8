-- `viterbi_decoder::sums` meets its contract.
-- Assumes nothing.
use borrow.Author.Rules.{rules}
use Rattle.viterbi_decoder.proofs.sums.Goals as goal

pub returns : goal.returns
returns c = λ i h. let e = c.array_of.ensures i h in search rules
