-- `lock_stream::progress::begin_lock` meets its contract.
-- Assumes nothing.
use mathlib.Core.Path.{◌≡◌, sym, ap, subst}
use mathlib.Core.Bool.{true}
use Prim.Native.Nat.{ℕ, ◌<◌}
use native.Mathlib.Omega.{arith}
use lib.ListN.{take}
use Rattle.lock_receiver.specs.Take.{lock_in_range}
use Rattle.lock_receiver.specs.declared.LockReceiver.{LockReceiver}
use Rattle.report_lines.proofs.Lines.{joined_appended}
use Rattle.lock_stream.specs.Progress.{Takes, lock_begins}
use Rattle.lock_stream.specs.declared.progress.LockProgress.{LockProgress}
use Rattle.lock_stream.proofs.Taking.{fresh_range, fresh_more}
use Rattle.lock_stream.proofs.progress.begin_lock.Goals as goal

pub take_block-taken-requires : goal.take_block-taken-requires
take_block-taken-requires c =
    let n = c.new-fresh.ensures in
    let e = c.put_ending-ended.ensures in
    let f = c.put_found_lock-told.ensures in
    (subst (λ (v : LockReceiver). lock_in_range v ≡ true) (sym n) fresh_range, subst (λ (v : LockReceiver). v.receiver.counts.taken < 4294967295) (sym n) fresh_more, c.requires.3, omega (arith, e.bound, e.same, f.bound, f.same, c.requires.4))

pub returns : goal.returns
returns c =
    let a = c.args in
    let n = c.new-fresh.ensures in
    let e = c.put_ending-ended in
    let f = c.put_found_lock-told in
    let t = c.take_block-taken in
    let q = joined_appended _ _ a.text.now e.new.text f.new.text 0 e.result f.result _ _ e.ensures f.ensures in
    let w = joined_appended _ _ a.text.now f.new.text t.new.text 0 f.result t.result.text _ _ q t.ensures.told in
    record {
      tells =
          lock_begins a.block t.ensures.lines t.result.receiver c.requires.1
          (subst (λ (v : LockReceiver). Takes v a.block.bytes (take t.result.packets t.new.packets) t.ensures.lines t.result.receiver) n t.ensures.takes) w.text
          (ap {B = LockProgress} (λ (k : ℕ). record { found = true; locked = true; receiver = t.result.receiver; skipped = k; end = a.block.end }) c.between.ensures);
      packets_fit = t.ensures.fits;
      text_fits = omega (arith, e.ensures.bound, f.ensures.bound, t.ensures.told.bound);
      ready = t.ensures.ready;
    }
