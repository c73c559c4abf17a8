-- `free_start::lead_bits` meets its contract: the table has the numbers of the definition.
-- Assumes nothing.
use lib.ListN.{get_or}
use Rattle.common.proofs.Computed.{agree_at}
use Rattle.puncturing.specs.Mode.{mode_of}
use Rattle.free_start.specs.Lead.{lead_patterns, bits_of_lead}
use Rattle.free_start.specs.declared.TheConstants.{LEADS}
use borrow.Author.Rules.{rules}
use Rattle.free_start.proofs.lead_bits.Goals as goal

pub returns : goal.returns
unfolding bits_of_lead lead_patterns mode_of
returns c = agree_at (λ r. (get_or LEADS r (record { symbols = 0; bits = 0 })).bits) bits_of_lead 5 tt c.args.rate (search rules)
