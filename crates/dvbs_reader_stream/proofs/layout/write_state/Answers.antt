-- `dvbs_reader_stream::layout::write_state` meets its contract.
-- Assumes nothing.
use native.Mathlib.Omega.{arith}
use Rattle.reader_stream.proofs.Runs.{numbers}
use Rattle.dvbs_reader_stream.proofs.States.{fields_put}
use Rattle.dvbs_reader_stream.proofs.layout.write_state.Goals as goal

pub cleared_pairs-pairs-requires : goal.cleared_pairs-pairs-requires
cleared_pairs-pairs-requires c = (c.requires.0.runs_ready.size, omega (arith, c.requires.0.runs_ready.below, (numbers c.args.stream.runs.rate c.requires.0.runs_ready.known).full_most))

pub overflow_cast-numbers-2 : goal.overflow_cast-numbers-2
overflow_cast-numbers-2 c = record { fits = omega (arith, c.requires.0.runs_ready.below, (numbers c.args.stream.runs.rate c.requires.0.runs_ready.known).full_most) }

pub returns : goal.returns
returns c = fields_put c.args.stream c.cleared_pairs-pairs.result c.put_fields.new.bytes c.cleared_carry-carry.result c.cleared_pairs-pairs.ensures c.cleared_carry-carry.ensures c.put_fields.ensures
