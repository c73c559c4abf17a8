-- `viterbi_decoder::ordered` meets its contract.
-- Assumes nothing.
use borrow.Author.Rules.{rules}
use Rattle.viterbi_decoder.proofs.ordered.Goals as goal

pub returns : goal.returns
returns c = λ s h. let e = c.array_of.ensures s h in search rules
