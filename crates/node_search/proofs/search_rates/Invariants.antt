-- `node_search::search_rates` meets its contract.
-- Assumes nothing.
use Rattle.node_search.specs.Hypotheses.{hypotheses_below}
use Rattle.node_search.specs.Search.{Searches}
use Rattle.node_search.proofs.search_rates.Given as goal

abbrev pub invariant-loop-rate : goal.invariant-loop-rate
invariant-loop-rate l = Searches l.window (hypotheses_below l.rate) l.found
