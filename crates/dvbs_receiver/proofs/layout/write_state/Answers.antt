-- `dvbs_receiver::layout::write_state` meets its contract.
-- Assumes nothing.
use Rattle.dvbs_receiver.proofs.States.{fields_put}
use Rattle.dvbs_receiver.proofs.layout.write_state.Goals as goal

pub returns : goal.returns
returns c = fields_put c.args.stream c.write_state.new.bytes c.put_fields.new.bytes c.write_state.ensures c.put_fields.ensures
