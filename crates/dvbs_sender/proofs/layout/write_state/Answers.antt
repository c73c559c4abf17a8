-- `dvbs_sender::layout::write_state` meets its contract.
-- Assumes nothing.
use Rattle.dvbs_sender.proofs.States.{fields_put}
use Rattle.dvbs_sender.proofs.layout.write_state.Goals as goal

pub returns : goal.returns
returns c = fields_put c.args.sender c.put_fields.new.bytes c.put_fields.ensures
