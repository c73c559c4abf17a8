-- `acquisition_state::write_state` meets its contract.
-- Assumes nothing.
use mathlib.Core.Path.{refl, sym, ap, ◌∙◌}
use lib.ListN.{length}
use Rattle.reader_state.proofs.Cleared.{padded_length}
use Rattle.acquisition_state.specs.State.{flags_byte}
use Rattle.acquisition_state.proofs.Table.{fields_put}
use Rattle.acquisition_state.proofs.write_state.Goals as goal

pub slice_bounds-put_fields-end-3 : goal.slice_bounds-put_fields-end-3
slice_bounds-put_fields-end-3 c = sym c.requires.0.bits_size

pub put_fields-requires : goal.put_fields-requires
put_fields-requires c = (c.requires.0.pending_size, ap length c.cleared_pairs-pairs.ensures ∙ padded_length 1632 c.args.state.reading.runs.count c.args.state.reading.runs.held c.requires.0.pairs_size c.requires.0.count_fits, c.requires.0.bits_size, refl, refl, c.requires.1)

pub returns : goal.returns
returns c = fields_put c.args.state c.cleared_pairs-pairs.result c.put_fields.new.bytes c.flags_byte.result c.flags_byte-2.result c.cleared_pairs-pairs.ensures (c.flags_byte.ensures ∙ ap (flags_byte c.args.state.rate c.args.state.mirrored) c.is_reading.ensures) c.flags_byte-2.ensures c.put_fields.ensures
