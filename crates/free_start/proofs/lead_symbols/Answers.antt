-- `free_start::lead_symbols` meets its contract: the table has the numbers of the definition.
-- Assumes nothing.
use lib.ListN.{get_or}
use Rattle.common.proofs.Computed.{agree_at}
use Rattle.puncturing.specs.Mode.{mode_of}
use Rattle.reader.specs.Read.{symbols_per_pattern}
use Rattle.free_start.specs.Lead.{lead_patterns, lead_symbols}
use Rattle.free_start.specs.declared.TheConstants.{LEADS}
use borrow.Author.Rules.{rules}
use Rattle.free_start.proofs.lead_symbols.Goals as goal

pub returns : goal.returns
unfolding lead_symbols lead_patterns symbols_per_pattern mode_of
returns c = agree_at (λ r. (get_or LEADS r (record { symbols = 0; bits = 0 })).symbols) lead_symbols 5 tt c.args.rate (search rules)
