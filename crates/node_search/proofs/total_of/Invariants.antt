-- `node_search::total_of` meets its contract.
-- Assumes nothing.
use Rattle.node_search.proofs.Tables.{Summing}
use Rattle.node_search.proofs.total_of.Given as goal

abbrev pub invariant-loop-p : goal.invariant-loop-p
invariant-loop-p l = Summing l.table l.pairs l.sum l.p-index
