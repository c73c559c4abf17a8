-- `lock_stream::LockStream::new` meets its contract.
-- Assumes nothing.
use mathlib.Core.Path.{ap₂}
use Rattle.lock_stream.specs.Stream.{fresh_stream}
use Rattle.lock_stream.specs.declared.LockStream.{LockStream}
use Rattle.lock_stream.specs.declared.progress.LockProgress.{LockProgress}
use Rattle.lock_stream.specs.declared.source.LockSource.{LockSource}
use Rattle.lock_stream.proofs.LockStream.new.Goals as goal

pub returns : goal.returns
unfolding fresh_stream
returns c =
    let a = c.new-source.ensures in
    let d = c.new-progress.ensures in
    (ap₂ {C = LockStream} (λ (x : LockSource) (y : LockProgress). record { source = x; progress = y }) a.0 d.0, record { source = a.1; receiver = d.1 })
