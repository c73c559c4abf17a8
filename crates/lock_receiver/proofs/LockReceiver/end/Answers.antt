-- `lock_receiver::LockReceiver::end` meets its contract.
-- Assumes nothing.
use mathlib.Core.Path.{◌≡◌, sym, ◌∙◌}
use mathlib.Core.Bool.{true}
use native.Mathlib.Omega.{arith}
use Rattle.losses.proofs.Decisions.{writes_none, most_seven}
use Rattle.lock_receiver.specs.Take.{lock_in_range}
use Rattle.lock_receiver.proofs.Ranges.{lock_range}
use Rattle.lock_receiver.proofs.LockReceiver.end.Goals as goal

pub returns-then-not-in_range : goal.returns-then-not-in_range
returns-then-not-in_range c =
    let e = sym c.in_range.ensures ∙ c.if-not-in_range.true in
    (simp e, simp e (writes_none c.args.lines.now))

pub tell_waiting-requires : goal.tell_waiting-requires
tell_waiting-requires c =
    let good : lock_in_range c.args.self ≡ true = sym c.in_range.ensures ∙ c.if-not-in_range.false in
    let v = c.args.self in
    let r = lock_range v (good) in
    (omega (arith, r.waiting.0, most_seven v.receiver.sync.place), r.waiting.1, r.watched.most)

pub returns : goal.returns
returns c =
    let good : lock_in_range c.args.self ≡ true = sym c.in_range.ensures ∙ c.if-not-in_range.false in
    let e = good in
    let t = c.tell_waiting.ensures in
    (t.0 ∙ sym (simp e), simp e t.1)
