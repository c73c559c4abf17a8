-- `lock_stream::LockStream::close` meets its contract.
-- Assumes nothing.
use mathlib.Core.Path.{ap}
use Prim.Native.Nat.{ℕ}
use Rattle.report_lines.proofs.Lines.{restated}
use Rattle.lock_stream.specs.Progress.{closing_text}
use Rattle.lock_stream.proofs.LockStream.close.Goals as goal

pub returns : goal.returns
returns c =
    let a = c.args in
    let f = c.put_closing.ensures in
    restated 1024 f (ap (λ (k : ℕ). closing_text a.self.source.bits a.self.progress k a.left a.bytes) c.came.ensures) f.bound
