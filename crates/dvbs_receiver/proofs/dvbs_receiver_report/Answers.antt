-- `dvbs_receiver::dvbs_receiver_report` meets its contract.
-- Assumes nothing.
use mathlib.Core.Path.{◌≡◌, refl, sym, ap, subst, ◌∙◌}
use mathlib.Core.Bool.{false}
use lib.Dec.{ltb}
use lib.ListN.{set}
use Rattle.common.specs.Choice.{pick}
use Rattle.state_bytes.specs.Calls.{no_answer, wrong_length}
use Rattle.answer.specs.Number.{number_of}
use Rattle.receiver_stream.specs.Reporting.{Reports}
use Rattle.receiver_stream.specs.declared.ReceiverStream.{ReceiverStream}
use Rattle.dvbs_receiver.specs.State.{is_clear}
use Rattle.dvbs_receiver.specs.Reading.{state_of}
use Rattle.dvbs_receiver.proofs.Feeding.{unclear, reports_state}
use Rattle.dvbs_receiver.proofs.dvbs_receiver_report.Goals as goal

pub returns-then-answer-lt1 : goal.returns-then-answer-lt1
returns-then-answer-lt1 c = no_answer c.if-answer-lt1.true (refl, refl) refl refl

pub returns-then-state-ne-STATE_LENGTH : goal.returns-then-state-ne-STATE_LENGTH
returns-then-state-ne-STATE_LENGTH c = wrong_length c.if-answer-lt1.false c.if-state-ne-STATE_LENGTH.true (refl, refl) refl (ap (set c.args.answer.now 0) c.number.ensures)

pub returns-then-not-is_clear : goal.returns-then-not-is_clear
returns-then-not-is_clear c =
    let tested : let i = state_of c.args.state.now in pick (ltb i.held 204) (is_clear i) false ≡ c.is_clear.result = ap (λ (i : ReceiverStream). pick (ltb i.held 204) (is_clear i) false) (sym c.read_state-stream.ensures) ∙ sym c.is_clear.ensures in
    let a = c.args in
    unclear a.state.now a.answer.now c.if-answer-lt1.false c.if-state-ne-STATE_LENGTH.false
    (set a.answer.now 0 c.number-then-not-is_clear.result) (tested ∙ c.if-not-is_clear.true) (refl, refl) (ap (set a.answer.now 0) c.number-then-not-is_clear.ensures)

pub returns-in-Ok : goal.returns-in-Ok
returns-in-Ok c =
    let tested : let i = state_of c.args.state.now in pick (ltb i.held 204) (is_clear i) false ≡ c.is_clear.result = ap (λ (i : ReceiverStream). pick (ltb i.held 204) (is_clear i) false) (sym c.read_state-stream.ensures) ∙ sym c.is_clear.ensures in
    let a = c.args in
    let exit = c.report.new.output in
    reports_state a.state.now a.answer.now c.if-answer-lt1.false c.if-state-ne-STATE_LENGTH.false (λ i. (c.shared_slice_known-1.given i).fits)
    (tested ∙ c.if-not-is_clear.false) a.output.now 0 c.in-Ok.length exit
    (set a.answer.now 0 0)
    (subst (λ (i : ReceiverStream). Reports i a.output.now 0 c.in-Ok.length exit) c.read_state-stream.ensures c.in-Ok.ensures)
    refl

pub returns-in-Err : goal.returns-in-Err
returns-in-Err c =
    let tested : let i = state_of c.args.state.now in pick (ltb i.held 204) (is_clear i) false ≡ c.is_clear.result = ap (λ (i : ReceiverStream). pick (ltb i.held 204) (is_clear i) false) (sym c.read_state-stream.ensures) ∙ sym c.is_clear.ensures in
    let a = c.args in
    let exit = c.report.new.output in
    reports_state a.state.now a.answer.now c.if-answer-lt1.false c.if-state-ne-STATE_LENGTH.false (λ i. (c.shared_slice_known-1.given i).fits)
    (tested ∙ c.if-not-is_clear.false) a.output.now (number_of c.in-Err.refusal) 0 exit
    (set a.answer.now 0 c.number-in-Err.result)
    (subst (λ (i : ReceiverStream). Reports i a.output.now (number_of c.in-Err.refusal) 0 exit) c.read_state-stream.ensures c.in-Err.ensures)
    (ap (set a.answer.now 0) c.number-in-Err.ensures)
