-- `dvbs::dvbs_receive_run_marked` meets its contract.
-- Assumes nothing.
use mathlib.Core.Path.{◌≡◌, refl, sym, ap, subst, ◌∙◌}
use mathlib.Core.Bool.{true}
use Prim.Native.Nat.{ℕ, ◌<◌}
use native.Mathlib.Omega.{arith}
use borrow.Author.Tests.{lt-ltb, le-ltb}
use lib.ListN.{set}
use Rattle.answer.specs.Number.{answered, given_or}
use Rattle.receiver.specs.Receive.{fresh_receiver}
use Rattle.receiver.proofs.Reached.{sound_range, sound_fresh}
use Rattle.recording.specs.Recording.{AnswersRecording, marks_for, marked_number}
use Rattle.dvbs.specs.ReceiveRun.{marked_run_number, untold, refused}
use Rattle.dvbs.proofs.Runs.{run_exported}
use Rattle.dvbs.proofs.dvbs_receive_run_marked.Goals as goal

pub returns-then-answer-lt1 : goal.returns-then-answer-lt1
returns-then-answer-lt1 c = untold c.if-answer-lt1.true refl refl refl refl

pub returns-then-not-are_marks_for : goal.returns-then-not-are_marks_for
returns-then-not-are_marks_for c =
    let a = c.args in
    let e : 20 ≡ marked_run_number a.blocks.now a.marks.now a.output.now a.counts.now = sym (simp (sym c.are_marks_for.ensures ∙ c.if-not-are_marks_for.true)) in
    refused c.if-answer-lt1.false (subst (λ (n : ℕ). 0 < n) e (omega arith)) refl refl refl (ap (set a.answer.now 0) e)

pub returns-then-counts-lt64 : goal.returns-then-counts-lt64
returns-then-counts-lt64 c =
    let marked : marks_for c.args.blocks.now c.args.marks.now ≡ true = sym c.are_marks_for.ensures ∙ c.if-not-are_marks_for.false in
    let a = c.args in
    let e : 4 ≡ marked_run_number a.blocks.now a.marks.now a.output.now a.counts.now = sym (simp (marked, lt-ltb _ _ c.if-counts-lt64.true)) in
    refused c.if-answer-lt1.false (subst (λ (n : ℕ). 0 < n) e (omega arith)) refl refl refl (ap (set a.answer.now 0) e)

pub returns : goal.returns
returns c =
    let marked : marks_for c.args.blocks.now c.args.marks.now ≡ true = sym c.are_marks_for.ensures ∙ c.if-not-are_marks_for.false in
    let a = c.args in
    let k = c.receive_marked_run in
    let p = c.put_recorded in
    let e : marked_number fresh_receiver a.blocks.now a.marks.now a.output.now ≡ marked_run_number a.blocks.now a.marks.now a.output.now a.counts.now
    = simp (sound_range fresh_receiver sound_fresh, marked, le-ltb _ _ c.if-counts-lt64.false) in
    run_exported a.blocks.now a.marks.now a.output.now k.new.output a.counts.now p.new.counts a.answer.now p.new.answer _ _ c.if-answer-lt1.false k.result
    p.ensures.0 p.ensures.1 p.ensures.2
    (subst (λ (n : ℕ). AnswersRecording fresh_receiver a.blocks.now a.marks.now a.output.now n (answered k.result) (given_or 0 (λ x. x.count) k.result) (given_or fresh_receiver (λ x. x.receiver) k.result) k.new.output) e k.ensures.receives)
