-- `node_search::tried_symbols` meets its contract.
-- Assumes nothing.
use borrow.Author.Rules.{rules}
use lib.ListN.{get_or}
use Rattle.common.proofs.Computed.{agree_at}
use Rattle.puncturing.specs.Mode.{mode_of}
use Rattle.reader.specs.Read.{symbols_per_pattern}
use Rattle.reader_stream.specs.Runs.{run_patterns}
use Rattle.free_start.specs.Lead.{lead_patterns}
use Rattle.node_search.specs.Weight.{tried_symbols}
use Rattle.node_search.specs.declared.TheConstants.{TRIALS}
use Rattle.node_search.proofs.tried_symbols.Goals as goal

pub returns : goal.returns
unfolding tried_symbols run_patterns lead_patterns symbols_per_pattern mode_of
returns c = agree_at (λ r. (get_or TRIALS r (record { turns = 0; symbols = 0; threshold = 0 })).symbols) tried_symbols 5 tt c.args.rate (search rules)
