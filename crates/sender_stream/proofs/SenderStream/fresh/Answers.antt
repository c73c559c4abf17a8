-- `sender_stream::SenderStream::fresh` meets its contract.
-- Assumes nothing.
use Rattle.sender_stream.specs.Feed.{fresh_sender_stream}
use lib.ListN.{replicate}
use Rattle.sender_stream.proofs.SenderStream.fresh.Goals as goal

pub returns : goal.returns
unfolding fresh_sender_stream
returns c = λ i. record { sender = c.fresh.ensures i; pending = replicate 188 0; held = 0 }
