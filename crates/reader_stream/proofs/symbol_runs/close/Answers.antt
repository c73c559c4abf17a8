-- `reader_stream::symbol_runs::close` meets its contract.
-- Assumes nothing.
use native.Mathlib.Omega.{arith}
use Rattle.reader.proofs.Patterns.{some_symbols}
use Rattle.reader_stream.proofs.Runs.{mod_le, end_le, end_readable, closes}
use Rattle.reader_stream.proofs.symbol_runs.close.Goals as goal

pub nonzero_rem-rest : goal.nonzero_rem-rest
nonzero_rem-rest c = rw c.symbol_count.ensures (some_symbols _ c.requires.0.known)

pub overflow_sub-end : goal.overflow_sub-end
overflow_sub-end c = mod_le _ _

pub slice_bounds-read_pairs-end : goal.slice_bounds-read_pairs-end
slice_bounds-read_pairs-end c = omega (arith, c.requires.0.size, end_le c.args.runs c.requires.0 _ c.symbol_count.ensures)

pub read_pairs-read-requires : goal.read_pairs-read-requires
read_pairs-read-requires c = end_readable c.args.runs c.requires.0 _ c.symbol_count.ensures c.args.output.now c.requires.1

pub returns : goal.returns
returns c = closes c.args.runs c.requires.0 _ c.symbol_count.ensures c.args.output.now c.read_pairs-read.ensures
