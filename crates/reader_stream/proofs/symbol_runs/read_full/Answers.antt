-- `reader_stream::symbol_runs::read_full` meets its contract.
-- Assumes nothing.
use mathlib.Core.Path.{ap, ◌∙◌}
use Rattle.convolutional_code.specs.Code.{memory_after}
use Rattle.reader_stream.proofs.Runs.{full_readable, front}
use Rattle.reader_stream.proofs.symbol_runs.read_full.Goals as goal

pub read_pairs-requires : goal.read_pairs-requires
read_pairs-requires c = full_readable c.args.rate c.args.memory c.requires.0 c.requires.1 c.args.pairs.now c.args.output.now c.requires.2 c.requires.3 c.requires.4

pub slice_bounds-memory_after-end : goal.slice_bounds-memory_after-end
slice_bounds-memory_after-end c = (front c.args.rate c.args.memory c.requires.0 c.requires.1 c.args.pairs.now c.args.output.now c.requires.2 c.read_pairs.ensures _ c.kept_bits-kept.ensures).2

pub memory_after-requires : goal.memory_after-requires
memory_after-requires c = (c.requires.1, (front c.args.rate c.args.memory c.requires.0 c.requires.1 c.args.pairs.now c.args.output.now c.requires.2 c.read_pairs.ensures _ c.kept_bits-kept.ensures).1)

pub returns : goal.returns
returns c =
    let r = c.read_pairs in
    record {
      total = r.result.cost;
      last = r.result.memory;
      count = r.result.count;
      out = r.ensures;
      leaves = c.memory_after.ensures ∙ ap (memory_after c.args.memory) (front c.args.rate c.args.memory c.requires.0 c.requires.1 c.args.pairs.now c.args.output.now c.requires.2 c.read_pairs.ensures _ c.kept_bits-kept.ensures).0;
    }
