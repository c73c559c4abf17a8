-- `viterbi_decoder::halves` meets its contract.
-- Assumes nothing.
use borrow.Author.Rules.{rules}
use Rattle.viterbi_decoder.proofs.halves.Goals as goal

pub returns : goal.returns
returns c = (λ i h. let e = c.array_of.ensures i h in search rules, λ i h. let e = c.array_of-2.ensures i h in search rules)
