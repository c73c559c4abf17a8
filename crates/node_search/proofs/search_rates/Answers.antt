-- `node_search::search_rates` meets its contract.
-- Assumes nothing.
use Rattle.node_search.proofs.Verdicts.{rates_none, rates_more}
use Rattle.node_search.proofs.search_rates.Goals as goal

pub loop-rate-init : goal.loop-rate-init
loop-rate-init c = rates_none c.args.window.now

pub loop-rate-preserved : goal.loop-rate-preserved
loop-rate-preserved c = rates_more c.args.window.now c.loop-rate.rate c.loop-rate.invariant c.search_rate-found.ensures
