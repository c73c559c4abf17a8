-- `dvbs::dvbs_receive_run` meets its contract.
-- Assumes nothing.
use mathlib.Core.Path.{◌≡◌, refl, sym, ap, subst}
use mathlib.Core.Bool.{Bool}
use mathlib.Core.List.{[]}
use Prim.Native.Nat.{ℕ, ◌<◌}
use native.Mathlib.Omega.{arith}
use borrow.Author.Tests.{lt-ltb, le-ltb}
use lib.ListN.{set}
use Rattle.common.specs.Choice.{pick}
use Rattle.answer.specs.Number.{answered, given_or}
use Rattle.receiver.specs.Receive.{fresh_receiver}
use Rattle.recording.specs.Recording.{AnswersRecording, recording_number}
use Rattle.dvbs.specs.ReceiveRun.{receive_run_number, untold, refused}
use Rattle.dvbs.proofs.Runs.{run_exported}
use Rattle.dvbs.proofs.dvbs_receive_run.Goals as goal

pub returns-then-answer-lt1 : goal.returns-then-answer-lt1
returns-then-answer-lt1 c = untold c.if-answer-lt1.true refl refl refl refl

pub returns-then-counts-lt64 : goal.returns-then-counts-lt64
returns-then-counts-lt64 c =
    let a = c.args in
    let e : 4 ≡ receive_run_number a.blocks.now a.output.now a.counts.now
    = sym (ap (λ (t : Bool). pick t 4 (recording_number fresh_receiver a.blocks.now a.output.now)) (lt-ltb _ _ c.if-counts-lt64.true)) in
    refused c.if-answer-lt1.false (subst (λ (n : ℕ). 0 < n) e (omega arith)) refl refl refl (ap (set a.answer.now 0) e)

pub returns : goal.returns
returns c =
    let a = c.args in
    let k = c.receive_run in
    let p = c.put_recorded in
    let e : recording_number fresh_receiver a.blocks.now a.output.now ≡ receive_run_number a.blocks.now a.output.now a.counts.now
    = sym (ap (λ (t : Bool). pick t 4 (recording_number fresh_receiver a.blocks.now a.output.now)) (le-ltb _ _ c.if-counts-lt64.false)) in
    run_exported a.blocks.now [] a.output.now k.new.output a.counts.now p.new.counts a.answer.now p.new.answer _ _ c.if-answer-lt1.false k.result
    p.ensures.0 p.ensures.1 p.ensures.2
    (subst (λ (n : ℕ). AnswersRecording fresh_receiver a.blocks.now [] a.output.now n (answered k.result) (given_or 0 (λ x. x.count) k.result) (given_or fresh_receiver (λ x. x.receiver) k.result) k.new.output) e k.ensures.receives_recording)
