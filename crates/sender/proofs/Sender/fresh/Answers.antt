-- `sender::Sender::fresh` meets its contract.
-- Assumes nothing.
use Rattle.sender.specs.Send.{fresh_sender}
use Rattle.sender.proofs.Sender.fresh.Goals as goal

pub returns : goal.returns
unfolding fresh_sender
returns c = λ i. record { place = 0; interleaver = record { branches = c.new.ensures i }; coder = c.fresh.ensures i }
