-- `losses::LossStream::new` meets its contract.
-- Assumes nothing.
use mathlib.Core.Path.{ap}
use lib.ListN.{replicate}
use Rattle.receiver.specs.declared.Receiver.{Receiver}
use Rattle.losses.specs.Feed.{fresh_loss_stream}
use Rattle.losses.specs.declared.Certainty.TheVariants.{Unsure}
use Rattle.losses.specs.declared.LossStream.{LossStream}
use Rattle.losses.proofs.LossStream.new.Goals as goal

pub returns : goal.returns
unfolding fresh_loss_stream
returns c = ap from c.new.ensures
  where
    from : Receiver → LossStream
    from s = record { receiver = s; certainty = Unsure 0; pending = replicate 204 0; marks = replicate 204 0; held = 0 }
