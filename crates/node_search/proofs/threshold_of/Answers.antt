-- `node_search::threshold_of` meets its contract.
-- Assumes nothing.
use borrow.Author.Rules.{rules}
use lib.ListN.{get_or}
use Rattle.common.proofs.Computed.{agree_at}
use Rattle.node_search.specs.Weight.{threshold}
use Rattle.node_search.specs.declared.TheConstants.{TRIALS}
use Rattle.node_search.proofs.threshold_of.Goals as goal

pub returns : goal.returns
unfolding threshold
returns c = agree_at (λ r. (get_or TRIALS r (record { turns = 0; symbols = 0; threshold = 0 })).threshold) threshold 5 tt c.args.rate (search rules)
