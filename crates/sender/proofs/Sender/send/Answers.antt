-- `sender::Sender::send` meets its contract.
-- Assumes nothing.
use mathlib.Core.Path.{◌≡◌, refl, ap, sym, ◌∙◌}
use mathlib.Core.Bool.{true, false}
use Prim.Native.Nat.{◌≤◌}
use borrow.Author.Tests.{eqb-true, lt-ltb, le-ltb}
use lib.ListN.{length, get_or}
use Rattle.puncturing.specs.Mode.{mode_of}
use Rattle.inner_code.specs.Encode.{symbol_count}
use Rattle.sender.specs.Input.{is_input, is_synced, packet_for}
use Rattle.sender.specs.Send.{sender_in_range, is_sent, send_refusal}
use Rattle.sender.proofs.Inputs.{packet_kept, packet_replaced, packet_size, packet_sync}
use Rattle.sender.proofs.Stages.{refused, answered}
use Rattle.sender.proofs.Sender.send.Goals as goal

pub returns-then-not-in_range-clause-sends : goal.returns-then-not-in_range-clause-sends
returns-then-not-in_range-clause-sends c =
    refused mode_of c.args.self c.args.input.now c.args.output.now 5 (simp (sym c.in_range.ensures ∙ c.if-not-in_range.true)) refl

pub returns-then-not-is_sent-clause-sends : goal.returns-then-not-is_sent-clause-sends
returns-then-not-is_sent-clause-sends c =
    let good : sender_in_range mode_of c.args.self ≡ true = sym c.in_range.ensures ∙ c.if-not-in_range.false in
    refused mode_of c.args.self c.args.input.now c.args.output.now 6 (simp (good, sym c.is_sent.ensures ∙ c.if-not-is_sent.true)) refl

pub returns-then-not-is_input-clause-sends : goal.returns-then-not-is_input-clause-sends
returns-then-not-is_input-clause-sends c =
    let good : sender_in_range mode_of c.args.self ≡ true = sym c.in_range.ensures ∙ c.if-not-in_range.false in
    let sent : is_sent mode_of c.args.self ≡ true = sym c.is_sent.ensures ∙ c.if-not-is_sent.false in
    refused mode_of c.args.self c.args.input.now c.args.output.now 1
    (simp (good, sent, sym c.is_input.ensures ∙ c.if-not-is_input.true)) refl

pub returns-then-output-symbol_count-clause-sends : goal.returns-then-output-symbol_count-clause-sends
returns-then-output-symbol_count-clause-sends c =
    let sized : is_input c.args.input.now ≡ true = sym c.is_input.ensures ∙ c.if-not-is_input.false in
    let good : sender_in_range mode_of c.args.self ≡ true = sym c.in_range.ensures ∙ c.if-not-in_range.false in
    let ranged : sender_in_range mode_of c.args.self ≡ true = good in
    let sent : is_sent mode_of c.args.self ≡ true = sym c.is_sent.ensures ∙ c.if-not-is_sent.false in
    let on : is_sent mode_of c.args.self ≡ true = sent in
    refused mode_of c.args.self c.args.input.now c.args.output.now 4
    (simp (ranged, on, sized, lt-ltb _ _ (rw c.symbol_count.ensures at c.if-output-symbol_count.true))) refl

pub transmit-requires : goal.transmit-requires
transmit-requires c =
    let sized : is_input c.args.input.now ≡ true = sym c.is_input.ensures ∙ c.if-not-is_input.false in
    let good : sender_in_range mode_of c.args.self ≡ true = sym c.in_range.ensures ∙ c.if-not-in_range.false in
    let ranged : sender_in_range mode_of c.args.self ≡ true = good in
    let sent : is_sent mode_of c.args.self ≡ true = sym c.is_sent.ensures ∙ c.if-not-is_sent.false in
    let on : is_sent mode_of c.args.self ≡ true = sent in
    let long : let a = c.args in symbol_count a.self.coder ≤ length a.output.now = rw c.symbol_count.ensures at c.if-output-symbol_count.false in
    let synced : is_synced c.args.input.now ≡ true = sym c.is_synced.ensures ∙ c.if-is_synced.true in
    let y : get_or c.args.input.now 0 0 ≡ 0x47 = eqb-true _ _ (synced) in
    (ranged, on, ap length (sym (packet_kept c.args.input.now y)) ∙ packet_size c.args.input.now (sized), y, long)

pub returns-then-is_synced-clause-sends : goal.returns-then-is_synced-clause-sends
returns-then-is_synced-clause-sends c =
    let sized : is_input c.args.input.now ≡ true = sym c.is_input.ensures ∙ c.if-not-is_input.false in
    let good : sender_in_range mode_of c.args.self ≡ true = sym c.in_range.ensures ∙ c.if-not-in_range.false in
    let ranged : sender_in_range mode_of c.args.self ≡ true = good in
    let sent : is_sent mode_of c.args.self ≡ true = sym c.is_sent.ensures ∙ c.if-not-is_sent.false in
    let on : is_sent mode_of c.args.self ≡ true = sent in
    let long : let a = c.args in symbol_count a.self.coder ≤ length a.output.now = rw c.symbol_count.ensures at c.if-output-symbol_count.false in
    let taken : let a = c.args in send_refusal mode_of a.self a.input.now a.output.now ≡ 0 = simp (ranged, on, sized, le-ltb _ _ (long)) in
    let synced : is_synced c.args.input.now ≡ true = sym c.is_synced.ensures ∙ c.if-is_synced.true in
    let p = c.transmit.ensures in
    answered mode_of c.args.self c.args.input.now c.args.output.now (taken)
    (sym (packet_kept c.args.input.now (eqb-true _ _ (synced)))) (p.1 ∙ sym (simp (synced))) p.2 p.3 p.4

pub transmit-requires-2 : goal.transmit-requires-2
transmit-requires-2 c =
    let sized : is_input c.args.input.now ≡ true = sym c.is_input.ensures ∙ c.if-not-is_input.false in
    let good : sender_in_range mode_of c.args.self ≡ true = sym c.in_range.ensures ∙ c.if-not-in_range.false in
    let ranged : sender_in_range mode_of c.args.self ≡ true = good in
    let sent : is_sent mode_of c.args.self ≡ true = sym c.is_sent.ensures ∙ c.if-not-is_sent.false in
    let on : is_sent mode_of c.args.self ≡ true = sent in
    let long : let a = c.args in symbol_count a.self.coder ≤ length a.output.now = rw c.symbol_count.ensures at c.if-output-symbol_count.false in
    let replaced : is_synced c.args.input.now ≡ false = sym c.is_synced.ensures ∙ c.if-is_synced.false in
    let null : c.null_packet-null.result ≡ packet_for c.args.input.now = c.null_packet-null.ensures ∙ sym (packet_replaced _ (replaced)) in
    let input = c.args.input.now in
    (ranged, on, ap length (null) ∙ packet_size input (sized), ap (λ l. get_or l 0 0) (null) ∙ packet_sync input, long)

pub returns-clause-sends : goal.returns-clause-sends
returns-clause-sends c =
    let sized : is_input c.args.input.now ≡ true = sym c.is_input.ensures ∙ c.if-not-is_input.false in
    let good : sender_in_range mode_of c.args.self ≡ true = sym c.in_range.ensures ∙ c.if-not-in_range.false in
    let ranged : sender_in_range mode_of c.args.self ≡ true = good in
    let sent : is_sent mode_of c.args.self ≡ true = sym c.is_sent.ensures ∙ c.if-not-is_sent.false in
    let on : is_sent mode_of c.args.self ≡ true = sent in
    let long : let a = c.args in symbol_count a.self.coder ≤ length a.output.now = rw c.symbol_count.ensures at c.if-output-symbol_count.false in
    let taken : let a = c.args in send_refusal mode_of a.self a.input.now a.output.now ≡ 0 = simp (ranged, on, sized, le-ltb _ _ (long)) in
    let replaced : is_synced c.args.input.now ≡ false = sym c.is_synced.ensures ∙ c.if-is_synced.false in
    let null : c.null_packet-null.result ≡ packet_for c.args.input.now = c.null_packet-null.ensures ∙ sym (packet_replaced _ (replaced)) in
    let q = c.transmit-2.ensures in
    answered mode_of c.args.self c.args.input.now c.args.output.now (taken) (null) (q.1 ∙ sym (simp (replaced))) q.2 q.3 q.4
