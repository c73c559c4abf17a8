-- `dvbs_lock_stream::dvbs_lock_feed` meets its contract.
-- Assumes nothing.
use mathlib.Core.Path.{◌≡◌, refl, sym, ap, ap₂, subst, ◌∙◌}
use mathlib.Core.Bool.{Bool, true}
use Prim.Native.Nat.{ℕ, ◌≤◌}
use native.Mathlib.Omega.{arith}
use lib.ListN.{length, set, length-set}
use Rattle.state_bytes.specs.Calls.{no_answer, wrong_length}
use Rattle.lock_stream.specs.Source.{came_of}
use Rattle.lock_stream.specs.declared.LockStream.{LockStream}
use Rattle.lock_state.specs.State.{in_range}
use Rattle.lock_state.specs.Reading.{state_of}
use Rattle.dvbs_lock_stream.specs.Calls.{short_room, points_due, LeavesStep}
use Rattle.dvbs_lock_stream.proofs.Feeding.{points_pass, room_enough, none_called, refused_points, none_points, stepped_points}
use Rattle.dvbs_lock_stream.proofs.dvbs_lock_feed.Goals as goal

pub returns-then-answer-lt1 : goal.returns-then-answer-lt1
returns-then-answer-lt1 c = no_answer c.if-answer-lt1.true (refl, refl, refl, refl) refl refl

pub returns-then-state-ne-STATE_LENGTH : goal.returns-then-state-ne-STATE_LENGTH
returns-then-state-ne-STATE_LENGTH c = wrong_length c.if-answer-lt1.false c.if-state-ne-STATE_LENGTH.true (refl, refl, refl, refl) refl (ap (set c.args.answer.now 0) c.number.ensures)

pub returns-then-not-is_in_range : goal.returns-then-not-is_in_range
returns-then-not-is_in_range c =
    let tested : in_range (state_of c.args.state.now) ≡ c.is_in_range.result = ap in_range (sym c.read_state-before.ensures.0) ∙ sym c.is_in_range.ensures in
    none_called c.args.state.now c.args.answer.now c.if-answer-lt1.false c.if-state-ne-STATE_LENGTH.false (set c.args.answer.now 0 c.number-then-not-is_in_range.result) (tested ∙ c.if-not-is_in_range.true) (refl, refl, refl, refl) (ap (set c.args.answer.now 0) c.number-then-not-is_in_range.ensures)

pub returns-then-number-ne0 : goal.returns-then-number-ne0
returns-then-number-ne0 c =
    let tested : in_range (state_of c.args.state.now) ≡ c.is_in_range.result = ap in_range (sym c.read_state-before.ensures.0) ∙ sym c.is_in_range.ensures in
    let clear : in_range (state_of c.args.state.now) ≡ true = tested ∙ c.if-not-is_in_range.false in
    let read_due : c.answered-number.result ≡ points_due (came_of c.read_state-before.result.source) c.args.i.now c.args.q.now c.args.lost.now (short_room (length c.args.packets.now) (length c.args.text.now) (length c.args.counts.now)) = c.answered-number.ensures ∙ c.points_due-due.ensures
    ∙ ap₂ (λ (k : ℕ) (b : Bool). points_due k c.args.i.now c.args.q.now c.args.lost.now b) c.came.ensures c.is_short-short.ensures in
    let due : c.answered-number.result ≡ points_due (came_of (state_of c.args.state.now).source) c.args.i.now c.args.q.now c.args.lost.now (short_room (length c.args.packets.now) (length c.args.text.now) (length c.args.counts.now)) = read_due ∙ ap (λ (s : LockStream). points_due (came_of s.source) c.args.i.now c.args.q.now c.args.lost.now (short_room (length c.args.packets.now) (length c.args.text.now) (length c.args.counts.now))) c.read_state-before.ensures.0 in
    refused_points c.args.state.now c.args.answer.now c.if-answer-lt1.false c.if-state-ne-STATE_LENGTH.false (λ i. (c.slice_known-1.given i).fits) (clear)
    c.args.packets.now c.args.text.now c.args.counts.now c.answered-number.result (set c.args.answer.now 0 c.answered-number.result) refl
    c.args.i.now c.args.q.now c.args.lost.now (due) c.if-number-ne0.true

pub bounds-counts-0 : goal.bounds-counts-0
bounds-counts-0 c =
    let read_due : c.answered-number.result ≡ points_due (came_of c.read_state-before.result.source) c.args.i.now c.args.q.now c.args.lost.now (short_room (length c.args.packets.now) (length c.args.text.now) (length c.args.counts.now)) = c.answered-number.ensures ∙ c.points_due-due.ensures
    ∙ ap₂ (λ (k : ℕ) (b : Bool). points_due k c.args.i.now c.args.q.now c.args.lost.now b) c.came.ensures c.is_short-short.ensures in
    let due : c.answered-number.result ≡ points_due (came_of (state_of c.args.state.now).source) c.args.i.now c.args.q.now c.args.lost.now (short_room (length c.args.packets.now) (length c.args.text.now) (length c.args.counts.now)) = read_due ∙ ap (λ (s : LockStream). points_due (came_of s.source) c.args.i.now c.args.q.now c.args.lost.now (short_room (length c.args.packets.now) (length c.args.text.now) (length c.args.counts.now))) c.read_state-before.ensures.0 in
    let lent : 2 ≤ length c.args.counts.now = let short = short_room (length c.args.packets.now) (length c.args.text.now) (length c.args.counts.now) in
    (room_enough (length c.args.packets.now) (length c.args.text.now) (length c.args.counts.now) (points_pass (came_of (state_of c.args.state.now).source) c.args.i.now c.args.q.now c.args.lost.now short (sym (due) ∙ c.if-number-ne0.false)).1).2 in
    omega (arith, lent)

pub bounds-counts-1 : goal.bounds-counts-1
bounds-counts-1 c =
    let read_due : c.answered-number.result ≡ points_due (came_of c.read_state-before.result.source) c.args.i.now c.args.q.now c.args.lost.now (short_room (length c.args.packets.now) (length c.args.text.now) (length c.args.counts.now)) = c.answered-number.ensures ∙ c.points_due-due.ensures
    ∙ ap₂ (λ (k : ℕ) (b : Bool). points_due k c.args.i.now c.args.q.now c.args.lost.now b) c.came.ensures c.is_short-short.ensures in
    let due : c.answered-number.result ≡ points_due (came_of (state_of c.args.state.now).source) c.args.i.now c.args.q.now c.args.lost.now (short_room (length c.args.packets.now) (length c.args.text.now) (length c.args.counts.now)) = read_due ∙ ap (λ (s : LockStream). points_due (came_of s.source) c.args.i.now c.args.q.now c.args.lost.now (short_room (length c.args.packets.now) (length c.args.text.now) (length c.args.counts.now))) c.read_state-before.ensures.0 in
    let lent : 2 ≤ length c.args.counts.now = let short = short_room (length c.args.packets.now) (length c.args.text.now) (length c.args.counts.now) in
    (room_enough (length c.args.packets.now) (length c.args.text.now) (length c.args.counts.now) (points_pass (came_of (state_of c.args.state.now).source) c.args.i.now c.args.q.now c.args.lost.now short (sym (due) ∙ c.if-number-ne0.false)).1).2 in
    simp length-set (omega (arith, lent))

pub returns-then-i-eq0 : goal.returns-then-i-eq0
returns-then-i-eq0 c =
    let tested : in_range (state_of c.args.state.now) ≡ c.is_in_range.result = ap in_range (sym c.read_state-before.ensures.0) ∙ sym c.is_in_range.ensures in
    let clear : in_range (state_of c.args.state.now) ≡ true = tested ∙ c.if-not-is_in_range.false in
    let read_due : c.answered-number.result ≡ points_due (came_of c.read_state-before.result.source) c.args.i.now c.args.q.now c.args.lost.now (short_room (length c.args.packets.now) (length c.args.text.now) (length c.args.counts.now)) = c.answered-number.ensures ∙ c.points_due-due.ensures
    ∙ ap₂ (λ (k : ℕ) (b : Bool). points_due k c.args.i.now c.args.q.now c.args.lost.now b) c.came.ensures c.is_short-short.ensures in
    let due : c.answered-number.result ≡ points_due (came_of (state_of c.args.state.now).source) c.args.i.now c.args.q.now c.args.lost.now (short_room (length c.args.packets.now) (length c.args.text.now) (length c.args.counts.now)) = read_due ∙ ap (λ (s : LockStream). points_due (came_of s.source) c.args.i.now c.args.q.now c.args.lost.now (short_room (length c.args.packets.now) (length c.args.text.now) (length c.args.counts.now))) c.read_state-before.ensures.0 in
    none_points c.args.state.now c.args.answer.now c.if-answer-lt1.false c.if-state-ne-STATE_LENGTH.false (λ i. (c.slice_known-1.given i).fits) (clear)
    c.args.packets.now c.args.text.now c.args.counts.now c.answered-number.result (set c.args.answer.now 0 c.answered-number.result) refl
    c.args.i.now c.args.q.now c.args.lost.now (due) c.if-number-ne0.false c.if-i-eq0.true

pub step_points-requires : goal.step_points-requires
step_points-requires c =
    let read_due : c.answered-number.result ≡ points_due (came_of c.read_state-before.result.source) c.args.i.now c.args.q.now c.args.lost.now (short_room (length c.args.packets.now) (length c.args.text.now) (length c.args.counts.now)) = c.answered-number.ensures ∙ c.points_due-due.ensures
    ∙ ap₂ (λ (k : ℕ) (b : Bool). points_due k c.args.i.now c.args.q.now c.args.lost.now b) c.came.ensures c.is_short-short.ensures in
    let r = c.read_state-before in
    (r.ensures.1, sym c.is_in_range.ensures ∙ c.if-not-is_in_range.false, c.if-state-ne-STATE_LENGTH.false, omega (arith, c.if-i-eq0.false), sym (read_due) ∙ c.if-number-ne0.false)

pub returns : goal.returns
returns c =
    let tested : in_range (state_of c.args.state.now) ≡ c.is_in_range.result = ap in_range (sym c.read_state-before.ensures.0) ∙ sym c.is_in_range.ensures in
    let clear : in_range (state_of c.args.state.now) ≡ true = tested ∙ c.if-not-is_in_range.false in
    let read_due : c.answered-number.result ≡ points_due (came_of c.read_state-before.result.source) c.args.i.now c.args.q.now c.args.lost.now (short_room (length c.args.packets.now) (length c.args.text.now) (length c.args.counts.now)) = c.answered-number.ensures ∙ c.points_due-due.ensures
    ∙ ap₂ (λ (k : ℕ) (b : Bool). points_due k c.args.i.now c.args.q.now c.args.lost.now b) c.came.ensures c.is_short-short.ensures in
    let due : c.answered-number.result ≡ points_due (came_of (state_of c.args.state.now).source) c.args.i.now c.args.q.now c.args.lost.now (short_room (length c.args.packets.now) (length c.args.text.now) (length c.args.counts.now)) = read_due ∙ ap (λ (s : LockStream). points_due (came_of s.source) c.args.i.now c.args.q.now c.args.lost.now (short_room (length c.args.packets.now) (length c.args.text.now) (length c.args.counts.now))) c.read_state-before.ensures.0 in
    let p = c.step_points in
    let l = subst (λ (t : LockStream). LeavesStep t c.args.i.now c.args.q.now c.args.lost.now c.args.packets.now c.args.text.now c.args.counts.now p.result p.new.state p.new.packets p.new.text p.new.counts) c.read_state-before.ensures.0 p.ensures in
    stepped_points c.args.state.now c.args.answer.now c.if-answer-lt1.false c.if-state-ne-STATE_LENGTH.false (λ i. (c.slice_known-1.given i).fits) (clear)
    c.args.packets.now c.args.text.now c.args.counts.now c.answered-number.result (set c.args.answer.now 0 c.answered-number.result) refl
    c.args.i.now c.args.q.now c.args.lost.now (due) c.if-number-ne0.false p.result p.new.state p.new.packets p.new.text p.new.counts l
