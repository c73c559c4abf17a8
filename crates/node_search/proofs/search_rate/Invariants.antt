-- `node_search::search_rate` meets its contract.
-- Assumes nothing.
use mathlib.Core.Path.{◌≡◌}
use Rattle.node_search.specs.Hypotheses.{hypothesis_count}
use Rattle.node_search.proofs.Verdicts.{Searching}
use Rattle.node_search.proofs.search_rate.Given as goal

abbrev pub invariant-loop-k : goal.invariant-loop-k
invariant-loop-k l = (l.count ≡ hypothesis_count l.rate) × Searching l.rate l.window l.initial.found l.found l.k
