-- `lock_stream::progress::put_closing` meets its contract.
-- Assumes nothing.
use mathlib.Core.Path.{sym, ap, ◌∙◌}
use mathlib.Core.Bool.{Bool}
use mathlib.Core.List.{◌++◌}
use Prim.Native.Nat.{ℕ, ◌+◌, ◌-◌, ◌/◌}
use native.Mathlib.Omega.{arith}
use Rattle.common.specs.Choice.{pick}
use Rattle.lock_lines.specs.Lines.{end_text}
use Rattle.report_lines.proofs.Lines.{joined_appended, restated}
use Rattle.lock_stream.specs.Progress.{waiting_text, lost_lines}
use Rattle.lock_stream.proofs.progress.put_closing.Goals as goal

pub returns-then-not-locked : goal.returns-then-not-locked
returns-then-not-locked c =
    let a = c.args in
    let p = a.progress in
    let f = c.put_end.ensures in
    restated 1024 f
    (ap (λ (k : ℕ). end_text a.bits p.found a.came k a.bytes) c.between-skipped.ensures
    ∙ ap (λ (t : Bool). pick t (waiting_text p.receiver ++ end_text a.bits p.found a.came (a.came - p.end) a.bytes ++ lost_lines a.bits p (a.left / 8))
    (end_text a.bits p.found a.came (a.came - p.end) a.bytes)) (sym c.if-not-locked.true))
    (omega (arith, f.bound))

pub returns : goal.returns
returns c =
    let a = c.args in
    let p = a.progress in
    let f = c.put_waiting-middle in
    let g = c.put_end-last in
    let h = c.put_lost_lock in
    let e = restated (f.result + 92) g.ensures (ap (λ (k : ℕ). end_text a.bits p.found a.came k a.bytes) c.between-skipped.ensures) g.ensures.bound in
    let q = joined_appended _ _ a.text.now f.new.text g.new.text 0 f.result g.result _ _ f.ensures e in
    restated 1024 (joined_appended _ _ a.text.now g.new.text h.new.text 0 g.result h.result _ _ q h.ensures)
    (ap (λ (t : Bool). pick t (waiting_text p.receiver ++ end_text a.bits p.found a.came (a.came - p.end) a.bytes ++ lost_lines a.bits p (a.left / 8))
    (end_text a.bits p.found a.came (a.came - p.end) a.bytes)) (sym c.if-not-locked.false))
    (omega (arith, f.ensures.bound, g.ensures.bound, h.ensures.bound))
