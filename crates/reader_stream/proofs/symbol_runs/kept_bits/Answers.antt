-- `reader_stream::symbol_runs::kept_bits` meets its contract: the table has the numbers of the definition.
-- Assumes nothing.
use lib.ListN.{get_or}
use Rattle.common.proofs.Computed.{agree_at}
use Rattle.puncturing.specs.Mode.{mode_of, qpsk_count}
use Rattle.reader.specs.Read.{symbols_per_pattern}
use Rattle.reader_stream.specs.Runs.{run_patterns, kept_patterns, kept_bits}
use Rattle.reader_stream.specs.declared.symbol_runs.TheConstants.{LONGEST_RUNS}
use borrow.Author.Rules.{rules}
use Rattle.reader_stream.proofs.symbol_runs.kept_bits.Goals as goal

pub returns : goal.returns
unfolding kept_bits run_patterns kept_patterns symbols_per_pattern mode_of
returns c = agree_at (λ r. (get_or LONGEST_RUNS r (record { symbols = 0; kept = 0; bits = 0 })).bits) kept_bits qpsk_count tt c.args.rate (search rules)
