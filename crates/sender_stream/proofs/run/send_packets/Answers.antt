-- `sender_stream::run::send_packets` meets its contract.
-- Assumes nothing.
use mathlib.Core.Path.{◌≡◌, refl, subst}
use mathlib.Core.List.{List}
use Prim.Native.Nat.{ℕ, ◌+◌, ◌*◌}
use native.Mathlib.Omega.{arith}
use Rattle.answer.proofs.Positive.{number_positive}
use Rattle.sender.specs.declared.Sender.{Sender}
use Rattle.sender_stream.proofs.Buffers.{begins, ends}
use Rattle.sender_stream.proofs.RunProgress.{Progress, progress_start, progress_end, progress_length, progress_fits, progress_total, progress_more, progress_sent}
use Rattle.sender_stream.proofs.run.send_packets.Goals as goal

moved : {rate : ℕ} {bytes before output : List ℕ} {s : Sender} {a b n : ℕ} → a ≡ b → Progress rate bytes before output s a n → Progress rate bytes before output s b n
moved {rate} {bytes} {before} {output} {s} {a} {b} {n} e p = subst (λ (at : ℕ). Progress rate bytes before output s at n) e p

pub loop-k-init : goal.loop-k-init
loop-k-init c =
    progress_start _ _ _ _ c.requires.sent c.requires.whole c.fresh-sender.ensures

pub slice_bounds-send-count-in-loop-k : goal.slice_bounds-send-count-in-loop-k
slice_bounds-send-count-in-loop-k c = progress_fits c.requires c.loop-k.invariant

pub slice_bounds-send-start-in-loop-k : goal.slice_bounds-send-start-in-loop-k
slice_bounds-send-start-in-loop-k c = progress_fits c.requires c.loop-k.invariant

pub returns-in_err-sent : goal.returns-in_err-sent
returns-in_err-sent c =
    let r = c.in_err-sent.ensures in
    absurd (progress_sent c.requires c.loop-k.invariant (begins _ _ c.loop-k-test.true) r.sends (number_positive c.in_err-sent.field-0.0) r.refused)

pub overflow_add-count : goal.overflow_add-count
overflow_add-count c =
    omega (arith, progress_total c.requires c.loop-k.invariant (begins _ _ c.loop-k-test.true) c.in_ok-sent.ensures.sends)

pub loop-k-preserved : goal.loop-k-preserved
loop-k-preserved c =
    let l = c.loop-k in
    let e : 188 * l.k + 188 ≡ 188 * (l.k + 1) = omega arith in
    moved e
    (progress_more c.requires l.invariant (begins _ _ c.loop-k-test.true) c.in_ok-sent.ensures.sends)

pub shape_of-output : goal.shape_of-output
shape_of-output c =
    progress_length c.requires c.loop-k.invariant

pub returns : goal.returns
returns c =
    let e = progress_end c.requires c.loop-k.invariant (ends _ _ c.requires.whole c.loop-k-test.false) in
    (refl, e.0, e.1)
