-- `lock_receiver::LockReceiver::new` meets its contract.
-- Assumes nothing.
use mathlib.Core.Path.{ap}
use lib.ListN.{replicate}
use Rattle.receiver.specs.declared.Receiver.{Receiver}
use Rattle.losses.specs.declared.Certainty.TheVariants.{Unsure}
use Rattle.lock_receiver.specs.Take.{fresh_lock}
use Rattle.lock_receiver.specs.declared.LockReceiver.{LockReceiver}
use Rattle.lock_receiver.proofs.LockReceiver.new.Goals as goal

pub returns : goal.returns
unfolding fresh_lock
returns c = ap from c.new.ensures
  where
    from : Receiver → LockReceiver
    from s = record { receiver = s; certainty = Unsure 0; packets = replicate 1316 0 }
