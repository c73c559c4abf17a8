-- A call of the sender on the state that is read, and its bytes after it, are what a call on the bytes promises.
-- Assumes nothing.
use mathlib.Core.Path.{◌≡◌, refl, sym, ap, subst, ◌∙◌}
use mathlib.Core.Bool.{Bool, true, false}
use mathlib.Core.List.{List}
use Prim.Native.Nat.{ℕ, ◌≤◌}
use lib.Dec.{eqb}
use lib.ListN.{length, set}
use Rattle.common.specs.Choice.{pick}
use Rattle.common.specs.Lists.{ByteEntries}
use Rattle.common.proofs.Choice.{false_true}
use Rattle.state_bytes.proofs.Calls.{read_call, kept_call}
use Rattle.puncturing.specs.Mode.{mode_of}
use Rattle.sender.specs.Input.{is_synced}
use Rattle.sender.specs.Send.{send_refusal, Sends}
use Rattle.sender.specs.declared.Sender.{Sender}
use Rattle.dvbs_sender.specs.State.{state_length, state_bytes, in_range, StandsFor}
use Rattle.dvbs_sender.specs.Reading.{state_of}
use Rattle.dvbs_sender.specs.Calls.{refuses, SendsPacket}
use Rattle.dvbs_sender.proofs.States.{reads, stands_next}

-- a refusal of the sender tells of no symbols, and leaves it and the output as they were
pub refused_same : (s : Sender) (packet output : List ℕ) (number count : ℕ) (next : Sender) (exit : List ℕ) → Sends mode_of s packet output number count next exit
    → refuses number ≡ true → (count ≡ 0) × (next ≡ s) × (exit ≡ output)
refused_same s packet output number count next exit g h = by (eqb (send_refusal mode_of s packet output) 0) refl
  where
    sent : (t : Bool) → refuses (pick t 0 15) ≡ false
    sent true = refl
    sent false = refl

    by : (t : Bool) → eqb (send_refusal mode_of s packet output) 0 ≡ t → (count ≡ 0) × (next ≡ s) × (exit ≡ output)
    by true e =
        let q : number ≡ pick (is_synced packet) 0 15 = g.answered ∙ simp e in
        false_true (sym (sent (is_synced packet)) ∙ ap refuses (sym q) ∙ h)
    by false e = (g.counted ∙ simp e, g.sender ∙ simp e, g.written ∙ simp e)

module _ (state packet output answer : List ℕ) (one : 1 ≤ length answer) (n : length state ≡ state_length) (e : ByteEntries state) (number count : ℕ) (next : Sender)
    (exit told : List ℕ) (g : Sends mode_of (state_of state) packet output number count next exit) (q : told ≡ set answer 0 number) where
  outside : in_range (state_of state) ≡ false → ((count ≡ 0) × (exit ≡ output)) × (number ≡ 5) × (next ≡ state_of state)
  outside f = ((g.counted ∙ simp f, g.written ∙ simp f), g.answered ∙ simp f, g.sender ∙ simp f)

  -- where it is refused, the bytes of the state are left alone
  pub refused_sends : refuses number ≡ true → SendsPacket state packet output answer 0 state exit told
  refused_sends h =
      let k = refused_same (state_of state) packet output number count next exit g h in
      subst (λ (r : ℕ). SendsPacket state packet output answer r state exit told) k.0 (kept_call reads one n e number next g q outside k.1 refl)

  -- and else those of the sender after it are written
  pub sent_sends : (after : List ℕ) → after ≡ state_bytes next → SendsPacket state packet output answer count after exit told
  sent_sends after w =
      read_call reads one n e number next g q outside
      (λ h. subst (λ (s : Sender). StandsFor (state_bytes s) s) (sym g.sender) (stands_next state (state_of state) h packet output)) w
