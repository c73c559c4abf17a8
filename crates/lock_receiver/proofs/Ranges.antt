-- What a value in its ranges rests on.
-- Assumes nothing.
use mathlib.Core.Path.{◌≡◌}
use mathlib.Core.Bool.{true}
use Prim.Native.Nat.{◌-◌, ◌≤◌}
use Rattle.common.proofs.Choice.{both_true}
use Rattle.reception_counts.proofs.Ranges.{counts_range}
use Rattle.receiver.specs.Receive.{receiver_in_range}
use Rattle.receiver.proofs.Calls.{state_range}
use Rattle.losses.specs.Watch.{waiting_of, most_waiting}
use Rattle.losses.specs.Block.{Watched}
use Rattle.losses.proofs.Decisions.{range_fits}
use Rattle.lock_receiver.specs.Take.{lock_in_range}
use Rattle.lock_receiver.specs.declared.LockReceiver.{LockReceiver}

pub record LockRange (v : LockReceiver) : Type 0 where
  pub receiver : receiver_in_range v.receiver ≡ true
  pub watched : Watched v.receiver v.certainty
  pub waiting : (waiting_of v.certainty ≤ most_waiting v.receiver.sync.place) × (waiting_of v.certainty ≤ v.receiver.counts.taken - 11)

pub lock_range : (v : LockReceiver) → lock_in_range v ≡ true → LockRange v
lock_range v e =
    let a = both_true _ _ e in
    record {
      receiver = a.0;
      watched = record { range = a.1; most = (counts_range v.receiver.counts (state_range v.receiver a.0).counts).most };
      waiting = range_fits v.certainty v.receiver.sync.place v.receiver.counts.taken a.1;
    }
