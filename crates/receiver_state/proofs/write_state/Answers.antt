-- `receiver_state::write_state` meets its contract.
-- Assumes nothing.
use Rattle.receiver_state.proofs.States.{fields_put}
use Rattle.receiver_state.proofs.write_state.Goals as goal

pub returns : goal.returns
returns c =
    let receiver = c.args.receiver in
    let place_byte = c.place_byte in
    let put-counts = c.put_counts in
    let put-fields = c.put_fields in
    fields_put receiver place_byte.result put-counts.new.output put-fields.new.bytes place_byte.ensures put-counts.ensures put-fields.ensures
