-- `lock_stream::progress::LockProgress::new` meets its contract.
-- Assumes nothing.
use mathlib.Core.Path.{◌≡◌, sym, ap, subst}
use mathlib.Core.Bool.{true, false}
use Rattle.lock_receiver.specs.Take.{lock_in_range}
use Rattle.lock_receiver.specs.declared.LockReceiver.{LockReceiver}
use Rattle.lock_stream.specs.Progress.{fresh_progress}
use Rattle.lock_stream.specs.declared.progress.LockProgress.{LockProgress}
use Rattle.lock_stream.proofs.Taking.{fresh_range}
use Rattle.lock_stream.proofs.progress.LockProgress.new.Goals as goal

pub returns : goal.returns
unfolding fresh_progress
returns c = (
  ap {B = LockProgress} (λ (v : LockReceiver). record { found = false; locked = false; receiver = v; skipped = 0; end = 0 }) c.new-receiver.ensures,
  subst (λ (v : LockReceiver). lock_in_range v ≡ true) (sym c.new-receiver.ensures) fresh_range,
)
