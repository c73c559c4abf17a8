-- `lock_stream::progress::put_lost_lock` meets its contract.
-- Assumes nothing.
use mathlib.Core.Path.{refl}
use Prim.Native.Nat.{◌+◌}
use native.Mathlib.Omega.{arith}
use Rattle.report_lines.proofs.Lines.{joined_appended, restated}
use Rattle.lock_stream.proofs.Taking.{range_counts}
use Rattle.lock_stream.proofs.progress.put_lost_lock.Goals as goal

pub put_report-requires : goal.put_report-requires
put_report-requires c =
    let f = c.put_lost-middle.ensures in
    (range_counts c.args.progress.receiver c.requires.0, c.requires.1, omega (arith, f.bound, f.same, c.requires.2))

pub returns : goal.returns
returns c =
    let a = c.args in
    let f = c.put_lost-middle in
    let g = c.put_report in
    restated (a.at + 384) (joined_appended _ _ a.text.now f.new.text g.new.text a.at f.result g.result _ _ f.ensures g.ensures) refl
    (omega (arith, f.ensures.bound, g.ensures.bound))
