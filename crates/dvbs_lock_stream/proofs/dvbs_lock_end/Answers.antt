-- `dvbs_lock_stream::dvbs_lock_end` meets its contract.
-- Assumes nothing.
use mathlib.Core.Path.{◌≡◌, refl, sym, ap, subst, ◌∙◌}
use mathlib.Core.Bool.{true}
use lib.ListN.{length, set}
use Rattle.state_bytes.specs.Calls.{no_answer, wrong_length}
use Rattle.lock_stream.specs.declared.LockStream.{LockStream}
use Rattle.lock_state.specs.State.{in_range}
use Rattle.lock_state.specs.Reading.{state_of}
use Rattle.dvbs_lock_stream.specs.Calls.{short_room, end_due, LeavesEnd}
use Rattle.dvbs_lock_stream.proofs.Feeding.{none_called, refused_ends, stepped_end}
use Rattle.dvbs_lock_stream.proofs.dvbs_lock_end.Goals as goal

pub returns-then-answer-lt1 : goal.returns-then-answer-lt1
returns-then-answer-lt1 c = no_answer c.if-answer-lt1.true (refl, refl, refl, refl) refl refl

pub returns-then-state-ne-STATE_LENGTH : goal.returns-then-state-ne-STATE_LENGTH
returns-then-state-ne-STATE_LENGTH c = wrong_length c.if-answer-lt1.false c.if-state-ne-STATE_LENGTH.true (refl, refl, refl, refl) refl (ap (set c.args.answer.now 0) c.number.ensures)

pub returns-then-not-is_in_range : goal.returns-then-not-is_in_range
returns-then-not-is_in_range c =
    let tested : in_range (state_of c.args.state.now) ≡ c.is_in_range.result = ap in_range (sym c.read_state-before.ensures.0) ∙ sym c.is_in_range.ensures in
    none_called c.args.state.now c.args.answer.now c.if-answer-lt1.false c.if-state-ne-STATE_LENGTH.false (set c.args.answer.now 0 c.number-then-not-is_in_range.result) (tested ∙ c.if-not-is_in_range.true) (refl, refl, refl, refl) (ap (set c.args.answer.now 0) c.number-then-not-is_in_range.ensures)

pub returns-then-number-ne0 : goal.returns-then-number-ne0
returns-then-number-ne0 c =
    let tested : in_range (state_of c.args.state.now) ≡ c.is_in_range.result = ap in_range (sym c.read_state-before.ensures.0) ∙ sym c.is_in_range.ensures in
    let clear : in_range (state_of c.args.state.now) ≡ true = tested ∙ c.if-not-is_in_range.false in
    let due : c.answered-number.result ≡ end_due (short_room (length c.args.packets.now) (length c.args.text.now) (length c.args.counts.now)) = c.answered-number.ensures ∙ c.end_due-due.ensures ∙ ap end_due c.is_short-short.ensures in
    refused_ends c.args.state.now c.args.answer.now c.if-answer-lt1.false c.if-state-ne-STATE_LENGTH.false (λ i. (c.slice_known-1.given i).fits) (clear)
    c.args.packets.now c.args.text.now c.args.counts.now c.answered-number.result (set c.args.answer.now 0 c.answered-number.result) refl
    c.args.rest (due) c.if-number-ne0.true

pub step_end-requires : goal.step_end-requires
step_end-requires c =
    let due : c.answered-number.result ≡ end_due (short_room (length c.args.packets.now) (length c.args.text.now) (length c.args.counts.now)) = c.answered-number.ensures ∙ c.end_due-due.ensures ∙ ap end_due c.is_short-short.ensures in
    let r = c.read_state-before in
    (r.ensures.1, sym c.is_in_range.ensures ∙ c.if-not-is_in_range.false, c.if-state-ne-STATE_LENGTH.false, sym (due) ∙ c.if-number-ne0.false)

pub returns : goal.returns
returns c =
    let tested : in_range (state_of c.args.state.now) ≡ c.is_in_range.result = ap in_range (sym c.read_state-before.ensures.0) ∙ sym c.is_in_range.ensures in
    let clear : in_range (state_of c.args.state.now) ≡ true = tested ∙ c.if-not-is_in_range.false in
    let due : c.answered-number.result ≡ end_due (short_room (length c.args.packets.now) (length c.args.text.now) (length c.args.counts.now)) = c.answered-number.ensures ∙ c.end_due-due.ensures ∙ ap end_due c.is_short-short.ensures in
    let p = c.step_end in
    let l = subst (λ (t : LockStream). LeavesEnd c.args.rest t c.args.packets.now c.args.text.now c.args.counts.now p.result p.new.state p.new.packets p.new.text p.new.counts) c.read_state-before.ensures.0 p.ensures in
    stepped_end c.args.state.now c.args.answer.now c.if-answer-lt1.false c.if-state-ne-STATE_LENGTH.false (λ i. (c.slice_known-1.given i).fits) (clear)
    c.args.packets.now c.args.text.now c.args.counts.now c.answered-number.result (set c.args.answer.now 0 c.answered-number.result) refl
    c.args.rest (due) c.if-number-ne0.false p.result p.new.state p.new.packets p.new.text p.new.counts l
