-- `receiver::Receiver::in_range` meets its contract.
-- Assumes nothing.
use Rattle.receiver.proofs.Calls.{parts_range}
use Rattle.receiver.proofs.Receiver.in_range.Goals as goal

pub returns : goal.returns
returns c = parts_range c.args.self _ _ c.largest_of.ensures c.parts_in_range.ensures
