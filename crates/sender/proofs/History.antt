-- Every history of calls that keep the promise of `send`, from a fresh sender, is what the standard says, in any mode that is well formed.
-- Assumes nothing.
use mathlib.Core.Path.{◌≡◌, refl, ap, ap₂, sym, subst, ◌∙◌}
use mathlib.Core.Bool.{true}
use mathlib.Core.Logic.{inr}
use mathlib.Core.List.{List, [], ◌∷◌, ◌++◌, flatten, append_assoc}
use Prim.Native.Nat.{ℕ, ◌≤◌}
use native.Mathlib.Nat.{le_refl}
use borrow.Author.Tests.{le-ltb}
use lib.ListN.{length, take, drop, replicate, length-replicate}
use lib.Seq.{take_at}
use Rattle.common.specs.Lists.{All, Length}
use Rattle.common.proofs.Lists.{All-map, All-append}
use Rattle.randomizer.specs.Stream.{Packet}
use Rattle.puncturing.specs.Mode.{Mode, mode_of}
use Rattle.puncturing.specs.WellFormed.{WellFormed}
use Rattle.puncturing.proofs.Places.{sent_known}
use Rattle.puncturing.proofs.WellFormed.{well_formed_lem}
use Rattle.sender.specs.Standard.{on_air}
use Rattle.sender.specs.Input.{Input, is_input, packet_for, packets_for, sent_number}
use Rattle.sender.specs.Send.{fresh_sender, sent_symbols, sent_count, sender_after, send_refusal, send_number, send_count, send_sender, send_output, Sends}
use Rattle.sender.specs.Calls.{calls_symbols, calls_sender, sender_of, SendCalls, none, call}
use Rattle.sender.specs.declared.Sender.{Sender}
use Rattle.sender.proofs.Inputs.{input_test, packets_kept, packet_size, packet_lengths}
use Rattle.sender.proofs.Stages.{range_test, symbol_count_lem}
use Rattle.sender.proofs.Ready.{Ready, ready_range, ready_fresh, ready_after}
use Rattle.sender.proofs.Stream.{calls_on_air, calls_sender_lem}

-- a call with a sender that is ready, an input and room enough sends the packet for it
pub record Answered (t : ℕ → Mode) (s : Sender) (input output : List ℕ) : Type 0 where
  pub number : send_number t s input output ≡ sent_number input
  pub count : send_count t s input output ≡ sent_count t s
  pub sender : send_sender t s input output ≡ sender_after t s (packet_for input)
  pub written : send_output t s input output ≡ sent_symbols t s (packet_for input) ++ drop (sent_count t s) output

pub input_sent : {t : ℕ → Mode} (s : Sender) (input output : List ℕ) → Ready t s → is_input input ≡ true → sent_count t s ≤ length output
    → Answered t s input output
input_sent {t} s input output g p h =
    let r = range_test t s (ready_range s g) in
    let n : send_refusal t s input output ≡ 0 = simp (r, g.sent, p, le-ltb _ _ h) in
    record { number = simp n; count = simp n; sender = simp n; written = simp n }

-- what the calls of a history wrote, and the sender that they left
record Told (t : ℕ → Mode) (s : Sender) (packets : List (List ℕ)) (sent : List ℕ) (last : Sender) : Type 0 where
  symbols : sent ≡ flatten (calls_symbols t s packets)
  sender : last ≡ calls_sender t s packets

told : {t : ℕ → Mode} {s last : Sender} {inputs : List (List ℕ)} {symbols : List ℕ} → Ready t s → All Input inputs → SendCalls t s inputs symbols last
    → Told t s (packets_for inputs) symbols last
unfolding calls_symbols calls_sender flatten
told g ps none = record { symbols = refl; sender = refl }
told {t} {s} {last} g ps (call {next = next} {input = x} {inputs = rest} output left number count h m c) =
    let p = packet_for x in
    let i = input_test x ps.0 in
    let a = input_sent s x output g i h in
    let e : next ≡ sender_after t s p = m.sender ∙ a.sender in
    let r = told (subst (Ready t) (sym e) (ready_after s p g)) ps.1 c in
    let k : count ≡ sent_count t s = m.counted ∙ a.count in
    record {
      symbols =
          ap₂ (λ (a b : List ℕ). a ++ b)
          (ap₂ take k (m.written ∙ a.written)
          ∙ take_at (sent_symbols t s p) (drop (sent_count t s) output) (sent_count t s) (symbol_count_lem s p (ready_range s g) (packet_size x i) g.formed))
          (r.symbols ∙ ap (λ (x : Sender). flatten (calls_symbols t x (packets_for rest))) e);
      sender = r.sender ∙ ap (λ (x : Sender). calls_sender t x (packets_for rest)) e;
    }

-- there is such a history for every list of inputs
pub history : {t : ℕ → Mode} (s : Sender) (inputs : List (List ℕ)) → Ready t s → All Input inputs
    → SendCalls t s inputs (flatten (calls_symbols t s (packets_for inputs))) (calls_sender t s (packets_for inputs))
unfolding calls_symbols calls_sender flatten
history {t} s [] g ps = none
history {t} s (x ∷ rest) g ps = go (history (sender_after t s (packet_for x)) rest (ready_after s (packet_for x) g) ps.1)
  where
    p : List ℕ
    p = packet_for x

    i : is_input x ≡ true
    i = input_test x ps.0

    n : ℕ
    n = sent_count t s

    output : List ℕ
    output = replicate n 0

    long : n ≤ length output
    long = rw (length-replicate {A = ℕ} n 0) (le_refl n)

    a : Answered t s x output
    a = input_sent s x output g i long

    sent : Sends t s x output (sent_number x) n (sender_after t s p) (sent_symbols t s p ++ drop n output)
    sent = record { answered = sym a.number; counted = sym a.count; sender = sym a.sender; written = sym a.written }

    later : List ℕ
    later = flatten (calls_symbols t (sender_after t s p) (packets_for rest))

    last : Sender
    last = calls_sender t (sender_after t s p) (packets_for rest)

    go : SendCalls t (sender_after t s p) rest later last → SendCalls t s (x ∷ rest) (sent_symbols t s p ++ later) last
    go c =
        subst (λ (l : List ℕ). SendCalls t s (x ∷ rest) (l ++ later) last)
        (take_at (sent_symbols t s p) (drop n output) n (symbol_count_lem s p (ready_range s g) (packet_size x i) g.formed))
        (call output (sent_symbols t s p ++ drop n output) (sent_number x) n long sent c)

-- ---- one list of packets after another

module _ (t : ℕ → Mode) where
  symbols_append : (s : Sender) (ps qs : List (List ℕ))
      → flatten (calls_symbols t s (ps ++ qs)) ≡ flatten (calls_symbols t s ps) ++ flatten (calls_symbols t (calls_sender t s ps) qs)
  unfolding calls_symbols calls_sender flatten
  symbols_append s [] qs = refl
  symbols_append s (p ∷ ps) qs =
      ap (λ (l : List ℕ). sent_symbols t s p ++ l) (symbols_append (sender_after t s p) ps qs) ∙ sym (append_assoc (sent_symbols t s p) _ _)

  sender_append : (s : Sender) (ps qs : List (List ℕ)) → calls_sender t s (ps ++ qs) ≡ calls_sender t (calls_sender t s ps) qs
  unfolding calls_sender
  sender_append s [] qs = refl
  sender_append s (p ∷ ps) qs = sender_append (sender_after t s p) ps qs

pub ready_calls : {t : ℕ → Mode} (s : Sender) (packets : List (List ℕ)) → Ready t s → Ready t (calls_sender t s packets)
unfolding calls_sender
ready_calls s [] g = g
ready_calls {t} s (p ∷ ps) g = ready_calls (sender_after t s p) ps (ready_after s p g)

-- ---- demand 2, of the sending side

-- In any mode that is well formed and is sent, at whatever number of whatever table of modes: whatever inputs a fresh sender is given, call after call, the
-- symbols are the standard's for the list with null packets put in, and the sender left is the one that has sent it.
pub sent_on_air_by : (m : Mode) → WellFormed m → m.sent ≡ true → (t : ℕ → Mode) (rate : ℕ) → t rate ≡ m
    → {inputs : List (List ℕ)} {symbols : List ℕ} {last : Sender} → All Input inputs → SendCalls t (fresh_sender rate) inputs symbols last
    → (symbols ≡ on_air m (packets_for inputs)) × (last ≡ sender_of t rate (packets_for inputs))
sent_on_air_by m w q t rate e {inputs} g c =
    let f : WellFormed (t rate) = subst WellFormed (sym e) w in
    let told-all = told (ready_fresh rate f (ap (λ (x : Mode). x.sent) e ∙ q)) g c in
    let l = packet_lengths inputs g in (
      told-all.symbols ∙ calls_on_air (packets_for inputs) l t rate f ∙ ap (λ (x : Mode). on_air x (packets_for inputs)) e,
      told-all.sender ∙ calls_sender_lem (packets_for inputs) l t rate f,
    )

-- In a mode of the product: the symbols of a fresh sender are those on air.
pub sent_on_air : (rate : ℕ) → (mode_of rate).sent ≡ true → {inputs : List (List ℕ)} {symbols : List ℕ} {last : Sender} → All Input inputs
    → SendCalls mode_of (fresh_sender rate) inputs symbols last
    → (symbols ≡ on_air (mode_of rate) (packets_for inputs)) × (last ≡ sender_of mode_of rate (packets_for inputs))
sent_on_air rate q = sent_on_air_by (mode_of rate) (well_formed_lem rate (sent_known rate q)) q mode_of rate refl

-- where all of them are packets, none is put in
pub packets_on_air : (m : Mode) → WellFormed m → m.sent ≡ true → (t : ℕ → Mode) (rate : ℕ) → t rate ≡ m
    → {packets : List (List ℕ)} {symbols : List ℕ} {last : Sender} → All Packet packets → SendCalls t (fresh_sender rate) packets symbols last
    → (symbols ≡ on_air m packets) × (last ≡ sender_of t rate packets)
packets_on_air m w q t rate e {packets} g c =
    rw (packets_kept packets g) at (sent_on_air_by m w q t rate e (All-map Packet Input (λ p a. inr a.size) packets g) c)

-- a sender that has sent packets since it was fresh is ready for more, and goes on where they end
module _ {t : ℕ → Mode} (rate : ℕ) (w : WellFormed (t rate)) (q : (t rate).sent ≡ true) (sent : List (List ℕ)) (f : All (Length 188) sent) where
  pub ready_sent : Ready t (sender_of t rate sent)
  ready_sent = subst (Ready t) (calls_sender_lem sent f t rate w) (ready_calls (fresh_sender rate) sent (ready_fresh rate w q))

  pub sent_further : {inputs : List (List ℕ)} {symbols : List ℕ} {last : Sender} → All Input inputs → SendCalls t (sender_of t rate sent) inputs symbols last
      → (on_air (t rate) sent ++ symbols ≡ on_air (t rate) (sent ++ packets_for inputs)) × (last ≡ sender_of t rate (sent ++ packets_for inputs))
  sent_further {inputs} g c =
      let packets = packets_for inputs in
      let e = calls_sender_lem sent f t rate w in
      let told-all = told ready_sent g c in
      let l = All-append (Length 188) sent packets f (packet_lengths inputs g) in (
        ap₂ (λ (a b : List ℕ). a ++ b) (sym (calls_on_air sent f t rate w))
            (told-all.symbols ∙ ap (λ (s : Sender). flatten (calls_symbols t s packets)) (sym e))
            ∙ sym (symbols_append t (fresh_sender rate) sent packets)
            ∙ calls_on_air (sent ++ packets) l t rate w,
        told-all.sender ∙ ap (λ (s : Sender). calls_sender t s packets) (sym e) ∙ sym (sender_append t (fresh_sender rate) sent packets) ∙ calls_sender_lem (sent ++ packets) l t rate w,
      )
