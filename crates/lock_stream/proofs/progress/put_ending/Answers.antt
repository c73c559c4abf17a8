-- `lock_stream::progress::put_ending` meets its contract.
-- Assumes nothing.
use mathlib.Core.Path.{refl, sym, ap}
use mathlib.Core.Bool.{Bool}
use mathlib.Core.List.{[], ◌++◌}
use native.Mathlib.Omega.{arith}
use Rattle.common.specs.Choice.{pick}
use Rattle.report_lines.specs.Line.{Appended}
use Rattle.report_lines.proofs.Lines.{joined_appended, restated}
use Rattle.lock_stream.specs.Progress.{waiting_text, lost_lines}
use Rattle.lock_stream.proofs.progress.put_ending.Goals as goal

pub returns-then-not-locked : goal.returns-then-not-locked
returns-then-not-locked c =
    let a = c.args in
    let none : Appended [] a.text.now a.text.now 0 0 0 = record { place = refl; bound = omega arith; same = refl; text = refl } in
    restated 896 none (ap (λ (t : Bool). pick t (waiting_text a.progress.receiver ++ lost_lines a.bits a.progress 0) []) (sym c.if-not-locked.true)) (omega arith)

pub returns : goal.returns
returns c =
    let a = c.args in
    let f = c.put_waiting-middle in
    let g = c.put_lost_lock in
    restated 896 (joined_appended _ _ a.text.now f.new.text g.new.text 0 f.result g.result _ _ f.ensures g.ensures)
    (ap (λ (t : Bool). pick t (waiting_text a.progress.receiver ++ lost_lines a.bits a.progress 0) []) (sym c.if-not-locked.false))
    (omega (arith, f.ensures.bound, g.ensures.bound))
