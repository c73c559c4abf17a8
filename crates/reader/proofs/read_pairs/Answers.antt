-- `reader::read_pairs` meets its contract.
-- Assumes nothing.
use Rattle.reader.proofs.Patterns.{some_symbols}
use Rattle.reader.proofs.read_pairs.Goals as goal

pub nonzero_div-count : goal.nonzero_div-count
nonzero_div-count c = rw c.symbol_count-pattern.ensures (some_symbols _ c.requires.known)
