-- From the promise of `receive` to histories of calls: calls that keep it are calls of a history, so demand 2 holds of them.
-- Assumes nothing.
use mathlib.Core.Path.{◌≡◌, refl, sym, ap, ap₂, subst, ◌∙◌}
use mathlib.Core.List.{List, [], ◌∷◌, ◌++◌}
use Prim.Native.Nat.{ℕ, ◌-◌, ◌≤◌}
use Prim.{tt}
use lib.Dec.{eqb}
use lib.ListN.{length, take, replicate}
use Rattle.common.specs.Choice.{pick}
use Rattle.common.specs.Lists.{All}
use Rattle.reed_solomon.specs.Marks.{no_marks}
use Rattle.randomizer.specs.Stream.{Packet}
use Rattle.sent_blocks.specs.Blocks.{interleaved_blocks}
use Rattle.receiver.specs.Receive.{fresh_receiver}
use Rattle.receiver.specs.Run.{Call, after_calls, DecodedCalls, packets_given, lent_blocks, answers, Plain, OutputFits}
use Rattle.receiver.specs.Kept.{Kept, none, call}
use Rattle.receiver.specs.declared.Receiver.{Receiver}
use Rattle.receiver.proofs.Reached.{call_decoded}
use Rattle.receiver.proofs.Reception.{stream_received}

-- calls of a history with these blocks, answers, packets and this state after them
pub record CallsOf (s : Receiver) (blocks : List (List ℕ)) (numbers : List ℕ) (packets : List (List ℕ)) (last : Receiver) : Type 0 where
  pub calls : List Call
  pub lent : lent_blocks calls ≡ blocks
  pub plain : All Plain calls
  pub output_fits : All OutputFits calls
  pub decodes : DecodedCalls s calls
  pub answered : answers s calls ≡ numbers
  pub given : packets_given s calls ≡ packets
  pub state : after_calls s calls ≡ last

pub kept_calls : {s last : Receiver} {blocks : List (List ℕ)} {numbers : List ℕ} {packets : List (List ℕ)} → Kept s blocks numbers packets last
    → CallsOf s blocks numbers packets last
kept_calls none = record { calls = []; lent = refl; plain = tt; output_fits = tt; decodes = tt; answered = refl; given = refl; state = refl }
kept_calls {s} (call block output exit number next h v k) =
    let p = call_decoded v in
    let c : Call = record { block = block; marks = no_marks; output = output; left = p.left; decoded = p.decoded } in
    let m = kept_calls k in
    let t = m.calls in
    record {
      calls = c ∷ t;
      lent = ap (λ (l : List (List ℕ)). block ∷ l) m.lent;
      plain = (refl, m.plain);
      output_fits = (h, m.output_fits);
      decodes = (p.decodes, subst (λ (x : Receiver). DecodedCalls x t) p.state m.decodes);
      answered = ap₂ (λ (x : ℕ) (l : List ℕ). x ∷ l) (sym p.number) (ap (λ (x : Receiver). answers x t) (sym p.state) ∙ m.answered);
      given =
          ap₂ (λ (x : List (List ℕ)) (l : List (List ℕ)). x ++ l)
          (ap₂ (λ (n : ℕ) (x : List ℕ). pick (eqb n 0) (take 188 x ∷ []) []) (sym p.number) (sym p.written))
          (ap (λ (x : Receiver). packets_given x t) (sym p.state) ∙ m.given);
      state = ap (λ (x : Receiver). after_calls x t) (sym p.state) ∙ m.state;
    }

-- demand 2, receiving, of the promise of `receive`
pub promised_received : (packets : List (List ℕ)) → All Packet packets → length packets ≤ 4294967295 → (numbers : List ℕ) (given : List (List ℕ)) (last : Receiver)
    → Kept fresh_receiver (interleaved_blocks packets) numbers given last
    → (numbers ≡ take (length packets) (replicate 11 9 ++ replicate (length packets) 0)) × (given ≡ take (length packets - 11) packets)
promised_received packets ws l numbers given last k =
    let m = kept_calls k in
    let r = stream_received packets ws l m.calls m.lent m.plain m.output_fits m.decodes in
    (sym m.answered ∙ r.0, sym m.given ∙ r.1)
