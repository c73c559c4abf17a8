-- `dvbs_receiver::dvbs_receiver_feed` meets its contract.
-- Assumes nothing.
use mathlib.Core.Path.{◌≡◌, refl, sym, ap, subst, ◌∙◌}
use mathlib.Core.Bool.{true, false}
use native.Mathlib.Omega.{arith}
use lib.Dec.{ltb}
use lib.ListN.{set}
use Rattle.answer.proofs.Positive.{number_positive}
use Rattle.common.specs.Choice.{pick}
use Rattle.state_bytes.specs.Calls.{no_answer, wrong_length}
use Rattle.answer.specs.Number.{number_of}
use Rattle.receiver_stream.specs.Feed.{FeedsReceiver}
use Rattle.receiver_stream.specs.declared.ReceiverStream.{ReceiverStream}
use Rattle.dvbs_receiver.specs.State.{is_clear}
use Rattle.dvbs_receiver.specs.Reading.{state_of}
use Rattle.dvbs_receiver.proofs.Feeding.{unclear, refused_feeds, taken_feeds, held_few}
use Rattle.dvbs_receiver.proofs.dvbs_receiver_feed.Goals as goal

pub returns-then-answer-lt1 : goal.returns-then-answer-lt1
returns-then-answer-lt1 c = no_answer c.if-answer-lt1.true (refl, refl) refl refl

pub returns-then-state-ne-STATE_LENGTH : goal.returns-then-state-ne-STATE_LENGTH
returns-then-state-ne-STATE_LENGTH c = wrong_length c.if-answer-lt1.false c.if-state-ne-STATE_LENGTH.true (refl, refl) refl (ap (set c.args.answer.now 0) c.number.ensures)

pub returns-then-not-is_clear : goal.returns-then-not-is_clear
returns-then-not-is_clear c =
    let tested : let i = state_of c.args.state.now in pick (ltb i.held 204) (is_clear i) false ≡ c.is_clear.result = ap (λ (i : ReceiverStream). pick (ltb i.held 204) (is_clear i) false) (sym c.read_state-before.ensures) ∙ sym c.is_clear.ensures in
    let a = c.args in
    unclear a.state.now a.answer.now c.if-answer-lt1.false c.if-state-ne-STATE_LENGTH.false
    (set a.answer.now 0 c.number-then-not-is_clear.result) (tested ∙ c.if-not-is_clear.true) (refl, refl) (ap (set a.answer.now 0) c.number-then-not-is_clear.ensures)

pub returns-in-Err : goal.returns-in-Err
returns-in-Err c =
    let tested : let i = state_of c.args.state.now in pick (ltb i.held 204) (is_clear i) false ≡ c.is_clear.result = ap (λ (i : ReceiverStream). pick (ltb i.held 204) (is_clear i) false) (sym c.read_state-before.ensures) ∙ sym c.is_clear.ensures in
    let clear : let i = state_of c.args.state.now in pick (ltb i.held 204) (is_clear i) false ≡ true = tested ∙ c.if-not-is_clear.false in
    let a = c.args in
    let e = c.in-Err in
    let exit = c.feed.new.output in
    refused_feeds a.state.now a.answer.now c.if-answer-lt1.false c.if-state-ne-STATE_LENGTH.false (λ i. (c.slice_known-1.given i).fits) (clear)
    a.piece.now a.marks.now a.output.now (number_of e.refusal) 0 c.read_state-before.result exit
    (set a.answer.now 0 c.number-in-Err.result)
    (subst (λ (i : ReceiverStream). FeedsReceiver i a.piece.now a.marks.now a.output.now (number_of e.refusal) 0 c.read_state-before.result exit)
    c.read_state-before.ensures e.ensures)
    (ap (set a.answer.now 0) c.number-in-Err.ensures) (λ z. omega (arith, number_positive e.refusal, z))

pub write_state-requires : goal.write_state-requires
write_state-requires c =
    let a = c.args in
    let f = c.in-Ok in
    let few = held_few c.read_state-before.result a.piece.now a.marks.now a.output.now 0 f.fed.count f.fed.stream c.feed.new.output f.ensures refl in
    (omega (arith, few), c.if-state-ne-STATE_LENGTH.false)

pub returns-in-Ok : goal.returns-in-Ok
returns-in-Ok c =
    let tested : let i = state_of c.args.state.now in pick (ltb i.held 204) (is_clear i) false ≡ c.is_clear.result = ap (λ (i : ReceiverStream). pick (ltb i.held 204) (is_clear i) false) (sym c.read_state-before.ensures) ∙ sym c.is_clear.ensures in
    let clear : let i = state_of c.args.state.now in pick (ltb i.held 204) (is_clear i) false ≡ true = tested ∙ c.if-not-is_clear.false in
    let a = c.args in
    let f = c.in-Ok in
    let exit = c.feed.new.output in
    taken_feeds a.state.now a.answer.now c.if-answer-lt1.false c.if-state-ne-STATE_LENGTH.false (λ i. (c.slice_known-1.given i).fits) (clear)
    a.piece.now a.marks.now a.output.now 0 f.fed.count f.fed.stream exit
    (set a.answer.now 0 0)
    (subst (λ (i : ReceiverStream). FeedsReceiver i a.piece.now a.marks.now a.output.now 0 f.fed.count f.fed.stream exit)
    c.read_state-before.ensures f.ensures)
    refl refl c.write_state.new.bytes c.write_state.ensures
