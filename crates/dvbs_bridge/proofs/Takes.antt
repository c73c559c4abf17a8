-- A call of the receiver on the state that is read, and its bytes after it, are what a call of the bridge promises.
-- Assumes nothing.
use mathlib.Core.Path.{◌≡◌, refl, sym, ap, subst, ◌∙◌}
use mathlib.Core.Bool.{Bool, true, false}
use mathlib.Core.List.{List}
use mathlib.Core.Logic.{◌⊎◌, inl, inr}
use Prim.Native.Nat.{ℕ}
use lib.ListN.{length}
use Rattle.common.specs.Lists.{ByteEntries}
use Rattle.common.proofs.Choice.{false_true}
use Rattle.state_bytes.proofs.States.{written_read, stands_read, none_stands}
use Rattle.reed_solomon.specs.Marks.{no_marks}
use Rattle.group_sync.specs.declared.Outcome.{Outcome}
use Rattle.group_sync.specs.declared.Outcome.TheVariants.{Filling, Delivered, Lost, Waiting, OutOfStep}
use Rattle.reception_counts.specs.Counts.{outcome_number}
use Rattle.receiver.specs.Receive.{receiver_in_range, step_of, Ready, Receives}
use Rattle.receiver.specs.Run.{Call}
use Rattle.receiver.specs.declared.Receiver.{Receiver}
use Rattle.receiver.proofs.Calls.{ready_number}
use Rattle.receiver.proofs.Reached.{Sound, sound_call, Refused, ready_or_refused, refused_state, refused_written, call_decoded}
use Rattle.receiver_state.specs.State.{state_length, state_bytes, StandsFor}
use Rattle.receiver_state.specs.Reading.{state_of}
use Rattle.dvbs_bridge.specs.Calls.{refuses, BridgeTakes, no_state, as_receiver}
use Rattle.receiver_state.proofs.States.{reads, stands_written, stands_sound}

-- ---- refusals

-- a block that comes to something is taken
outcome_taken : (o : Outcome) → refuses (outcome_number o) ≡ false
outcome_taken Filling = refl
outcome_taken (Delivered place) = refl
outcome_taken Lost = refl
outcome_taken Waiting = refl
outcome_taken OutOfStep = refl

-- a refusal of the receiver leaves it and the output as they were
pub refused_same : (s : Receiver) (block output : List ℕ) (number : ℕ) (next : Receiver) (exit : List ℕ) → Receives s block output number next exit
    → refuses number ≡ true → (next ≡ s) × (exit ≡ output)
refused_same s block output number next exit g h = by (ready_or_refused s block no_marks output)
  where
    by : Ready s block no_marks output ⊎ Refused s block no_marks output → (next ≡ s) × (exit ≡ output)
    by (inl y) =
        let o = (step_of s g.left g.decoded).outcome in
        let e = g.number ∙ ready_number s block no_marks output y g.left g.decoded in
        false_true (sym (outcome_taken o) ∙ sym (ap refuses e) ∙ h)
    by (inr f) = (
      g.state ∙ refused_state s block no_marks output g.left g.decoded f,
      g.written ∙ refused_written s block no_marks output g.left g.decoded f,
    )

-- ---- the call

module _ (state block output : List ℕ) (n : length state ≡ state_length) (e : ByteEntries state) (exit : List ℕ) where
  stands : receiver_in_range (state_of state) ≡ true → StandsFor state (state_of state)
  stands t = stands_read reads state n e t

  -- a call that is refused, where the bytes of the state are left alone
  pub refused_takes : (r : ℕ) → Receives (state_of state) block output r (state_of state) exit → BridgeTakes state block output r state exit
  refused_takes r g = by (receiver_in_range (state_of state)) refl
    where
      by : (t : Bool) → receiver_in_range (state_of state) ≡ t → BridgeTakes state block output r state exit
      by false f = no_state n (none_stands reads state f) (g.number ∙ simp f) refl (g.written ∙ simp f)
      by true t = as_receiver (state_of state) (stands t) (state_of state) g (sym (written_read reads state n e)) (stands t)

  -- a call that is not, where the bytes of the receiver after it are written
  pub taken_takes : (o : Outcome) (next : Receiver) → Receives (state_of state) block output (outcome_number o) next exit
      → BridgeTakes state block output (outcome_number o) (state_bytes next) exit
  taken_takes o next g = by (receiver_in_range (state_of state)) refl
    where
      by : (t : Bool) → receiver_in_range (state_of state) ≡ t → BridgeTakes state block output (outcome_number o) (state_bytes next) exit
      by false f = absurd (false_true (sym (outcome_taken o) ∙ ap refuses (let h : outcome_number o ≡ 5 = g.number ∙ simp f in h)))
      by true t =
          let d = call_decoded g in
          let c : Call = record { block = block; marks = no_marks; output = output; left = d.left; decoded = d.decoded } in
          let sound = subst Sound (sym d.state) (sound_call (state_of state) c (stands_sound state (state_of state) (stands t)) d.decodes) in
          as_receiver (state_of state) (stands t) next g refl (stands_written next sound)
