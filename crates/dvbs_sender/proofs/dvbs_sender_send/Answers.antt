-- `dvbs_sender::dvbs_sender_send` meets its contract.
-- Assumes nothing.
use mathlib.Core.Path.{refl, ap, subst}
use mathlib.Core.Path.{◌≡◌}
use mathlib.Core.Bool.{true}
use Prim.Native.Nat.{ℕ, ◌<◌}
use native.Mathlib.Omega.{arith}
use borrow.Author.Rules.{rules}
use borrow.Author.Tests.{ne_eqb}
use lib.ListN.{set}
use Rattle.answer.proofs.Positive.{number_positive}
use Rattle.common.specs.Choice.{pick}
use Rattle.common.specs.Lists.{ByteEntries}
use Rattle.dvbs_sender.specs.Reading.{state_of}
use Rattle.answer.specs.Number.{number_of}
use Rattle.puncturing.specs.Mode.{mode_of}
use Rattle.sender.specs.Send.{Sends}
use Rattle.sender.specs.declared.Sender.{Sender}
use Rattle.state_bytes.specs.Calls.{no_answer, wrong_length}
use Rattle.dvbs_sender.specs.Calls.{refuses}
use Rattle.dvbs_sender.proofs.Sends.{refused_sends, sent_sends}
use Rattle.dvbs_sender.proofs.dvbs_sender_send.Goals as goal

pub returns-then-answer-lt1 : goal.returns-then-answer-lt1
returns-then-answer-lt1 c = no_answer c.if-answer-lt1.true (refl, refl) refl refl

pub returns-then-state-ne-STATE_LENGTH : goal.returns-then-state-ne-STATE_LENGTH
returns-then-state-ne-STATE_LENGTH c = wrong_length c.if-answer-lt1.false c.if-state-ne-STATE_LENGTH.true (refl, refl) refl (ap (set c.args.answer.now 0) c.number.ensures)

-- a number from 1 to 14 is a refusal
refusing : (n : ℕ) → 0 < n → n < 15 → refuses n ≡ true
refusing n h l = simp (ne_eqb n 0 (λ e. omega arith), ne_eqb n 15 (λ e. omega arith))

pub returns-in-Err : goal.returns-in-Err
returns-in-Err c =
    let a = c.args in
    let e = c.in-Err.ensures in
    let n : ℕ = number_of c.in-Err.refusal in
    let bytes : ByteEntries a.state.now = search rules in
    let sends : Sends mode_of (state_of a.state.now) a.packet.now a.output.now n 0 (state_of a.state.now) c.send.new.output
    = subst (λ (s : Sender). Sends mode_of s a.packet.now a.output.now n 0 s c.send.new.output) c.read_state.ensures e.sends in
    refused_sends a.state.now a.packet.now a.output.now a.answer.now c.if-answer-lt1.false c.if-state-ne-STATE_LENGTH.false bytes
    n 0 _ c.send.new.output _ sends (ap (set a.answer.now 0) c.number-in-Err.ensures) (refusing n (number_positive c.in-Err.refusal) e.refused)

pub returns-in-Ok : goal.returns-in-Ok
returns-in-Ok c =
    let a = c.args in
    let sent = c.in-Ok.sent in
    let n : ℕ = pick sent.replaced 15 0 in
    let bytes : ByteEntries a.state.now = search rules in
    let sends : Sends mode_of (state_of a.state.now) a.packet.now a.output.now n sent.count sent.sender c.send.new.output
    = subst (λ (s : Sender). Sends mode_of s a.packet.now a.output.now n sent.count sent.sender c.send.new.output) c.read_state.ensures c.in-Ok.ensures.sends in
    sent_sends a.state.now a.packet.now a.output.now a.answer.now c.if-answer-lt1.false c.if-state-ne-STATE_LENGTH.false bytes
    n sent.count sent.sender c.send.new.output _ sends (ap (set a.answer.now 0) c.number-in-Ok.ensures) c.write_state.new.bytes c.write_state.ensures
