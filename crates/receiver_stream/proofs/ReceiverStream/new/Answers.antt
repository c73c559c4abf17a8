-- `receiver_stream::ReceiverStream::new` meets its contract.
-- Assumes nothing.
use mathlib.Core.Path.{ap}
use lib.ListN.{replicate}
use Rattle.receiver.specs.declared.Receiver.{Receiver}
use Rattle.receiver_stream.specs.declared.ReceiverStream.{ReceiverStream}
use Rattle.receiver_stream.specs.Feed.{fresh_receiver_stream}
use Rattle.receiver_stream.proofs.ReceiverStream.new.Goals as goal

pub returns : goal.returns
unfolding fresh_receiver_stream
returns c = ap from c.new.ensures
  where
    from : Receiver → ReceiverStream
    from s = record { receiver = s; pending = replicate 204 0; marks = replicate 204 0; held = 0 }
