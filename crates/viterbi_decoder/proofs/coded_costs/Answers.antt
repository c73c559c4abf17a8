-- `viterbi_decoder::coded_costs` meets its contract.
-- Assumes nothing.
use borrow.Author.Rules.{rules}
use Rattle.viterbi_decoder.proofs.coded_costs.Goals as goal

pub returns : goal.returns
returns c = λ i h. let e = c.array_of.ensures i h in search rules
