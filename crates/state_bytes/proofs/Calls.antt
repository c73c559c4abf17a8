-- Laws of calls on the bytes of a state: the part's own call on the state that is read is what a call promises; on bytes that stand for a state it is the part's
-- own call; and what a refusal leaves.
-- Assumes nothing.
use mathlib.Core.Path.{◌≡◌, refl, sym, ap, subst, ◌∙◌}
use mathlib.Core.Bool.{Bool, true, false}
use mathlib.Core.List.{List}
use Prim.Native.Nat.{ℕ, ◌≤◌}
use native.Mathlib.Omega.{arith}
use lib.ListN.{length, get_or, set}
use lib.Seq.{get_or-set_same}
use Rattle.common.specs.Lists.{ByteEntries}
use Rattle.state_bytes.specs.Table.{Field, fields_of, StandsFor}
use Rattle.state_bytes.specs.Calls.{CallsOn, no_answer, wrong_length, no_state, as_own}
use Rattle.state_bytes.proofs.States.{Reads, written_read, stands_read, stands_length, none_stands, one_state}

-- the number of an answer that was told
told_number : (answer told : List ℕ) (number : ℕ) → 1 ≤ length answer → told ≡ set answer 0 number → number ≡ get_or told 0 0
told_number answer told number one q = sym (ap (λ (l : List ℕ). get_or l 0 0) q ∙ get_or-set_same answer 0 number 0 one)

-- the part's own call from a state, with the number that was told, and a state after it for which the bytes stand
pub record OwnCall {S : Type 0} (layout : List (Field S)) (in_range : S → Bool) (Own : S → ℕ → S → Type 0) (s : S) (after told : List ℕ) : Type 0 where
  pub next : S
  pub own : Own s (get_or told 0 0) next
  pub stands : StandsFor layout in_range after next

module _ {S : Type 0} {layout : List (Field S)} {end : ℕ} {in_range : S → Bool} {read : List ℕ → S} (g : Reads layout end in_range read)
    {Nothing : Type 0} {Own : S → ℕ → S → Type 0} {state answer after told : List ℕ} where
  -- on bytes that stand for a state, with a byte lent for the answer
  pub own_call : (s : S) → StandsFor layout in_range state s → 1 ≤ length answer → CallsOn layout end in_range Nothing Own state answer after told
      → OwnCall layout in_range Own s after told
  own_call s h one (no_answer k e a q) = absurd (omega arith)
  own_call s h one (wrong_length k n e a q) = absurd (n (stands_length g state s h))
  own_call s h one (no_state k n f e a q) = absurd (f s h)
  own_call s h one (as_own k t m number next o q a z) = record {
    next = next;
    own = subst (λ (x : S). Own x (get_or told 0 0) next) (one_state g state t s m h) (subst (λ (n : ℕ). Own t n next) (told_number answer told number k q) o);
    stands = z;
  }

  -- after a number with which the part's own call does nothing, and where no byte is lent for it
  pub call_refused : (Refusal : ℕ → Type 0) → ((s : S) (number : ℕ) (next : S) → Own s number next → Refusal number → Nothing × (next ≡ s))
      → CallsOn layout end in_range Nothing Own state answer after told → (1 ≤ length answer → Refusal (get_or told 0 0)) → Nothing × (after ≡ state)
  call_refused Refusal same (no_answer k e a q) f = (e, a)
  call_refused Refusal same (wrong_length k n e a q) f = (e, a)
  call_refused Refusal same (no_state k n z e a q) f = (e, a)
  call_refused Refusal same (as_own one s h number next o q a z) f =
      let k = same s number next o (subst Refusal (sym (told_number answer told number one q)) (f one)) in
      (k.0, a ∙ ap (fields_of layout) k.1 ∙ sym h.written)

  -- The own call on the state that is read. Where that is out of range, it must have been refused with 5; else the bytes of the state after it must stand for it.
  module _ (one : 1 ≤ length answer) (n : length state ≡ end) (e : ByteEntries state) (number : ℕ) (next : S) (o : Own (read state) number next)
      (q : told ≡ set answer 0 number) (outside : in_range (read state) ≡ false → Nothing × (number ≡ 5) × (next ≡ read state)) where
    pub read_call : (StandsFor layout in_range state (read state) → StandsFor layout in_range (fields_of layout next) next) → after ≡ fields_of layout next
        → CallsOn layout end in_range Nothing Own state answer after told
    read_call stay w = by (in_range (read state)) refl
      where
        by : (t : Bool) → in_range (read state) ≡ t → CallsOn layout end in_range Nothing Own state answer after told
        by false f =
            let k = outside f in
            no_state one n (none_stands g state f) k.0 (w ∙ ap (fields_of layout) k.2 ∙ written_read g state n e) (q ∙ ap (set answer 0) k.1)
        by true t =
            let h = stands_read g state n e t in
            as_own one (read state) h number next o q w (subst (λ (bytes : List ℕ). StandsFor layout in_range bytes next) (sym w) (stay h))

    -- where it leaves the state, the bytes are left alone
    pub kept_call : next ≡ read state → after ≡ state → CallsOn layout end in_range Nothing Own state answer after told
    kept_call k w =
        read_call
        (λ h. subst (λ (s : S). StandsFor layout in_range (fields_of layout s) s) (sym k) (record { written = refl; sized = h.sized; range = h.range }))
        (w ∙ sym (written_read g state n e) ∙ ap (fields_of layout) (sym k))
