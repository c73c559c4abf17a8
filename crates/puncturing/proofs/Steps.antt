-- The puncturing of one bit.
-- Assumes nothing.
use mathlib.Core.Path.{◌≡◌, refl, ◌∙◌}
use Prim.Native.Nat.{ℕ, zero, suc, ◌*◌, ◌≤◌, ◌<◌}
use native.Mathlib.Omega.{arith}
use lib.Dec.{eqb}
use Rattle.common.specs.Choice.{pick}
use Rattle.puncturing.specs.Mode.{mode_of, mode_count, qpsk_count}
use Rattle.puncturing.specs.Step.{pattern_length, place_next, held_count, held_after, held_by, held_count_by}
use Rattle.puncturing.proofs.Places.{up, end, ◌&◌, EverywhereOf, everywhere_of}
use Rattle.puncturing.proofs.WellFormed.{well_formed_lem, next_by_lt, held_by_le}

pub some_bits : (r : ℕ) → r < qpsk_count → 0 < pattern_length r
some_bits r h = (well_formed_lem r (up r h)).some_bits

pub next_lt : (r p : ℕ) → p < pattern_length r → place_next r p < pattern_length r
next_lt r p h = next_by_lt (mode_of r) (omega arith) p

pub held_le : (r p : ℕ) → r < mode_count → p < pattern_length r → held_count r p ≤ 1
held_le r p h k = held_by_le (well_formed_lem r h) p k

-- what is held is Y of the last bit
abbrev Holds : ℕ → ℕ → Type 0
Holds r p = (x y h : ℕ) → held_after r p x y h ≡ pick (eqb (held_count r (place_next r p)) 1) y 0

holds : EverywhereOf mode_count Holds
unfolding held_by held_count_by mode_of
holds =
    ((λ x y h. refl) & end)
    & ((λ x y h. refl) & (λ x y h. refl) & (λ x y h. refl) & (λ x y h. refl) & (λ x y h. refl) & (λ x y h. refl) & (λ x y h. refl) & end)
    & ((λ x y h. refl) & (λ x y h. refl) & (λ x y h. refl) & (λ x y h. refl) & (λ x y h. refl) & end)
    & ((λ x y h. refl) & (λ x y h. refl) & (λ x y h. refl) & end)
    & ((λ x y h. refl) & (λ x y h. refl) & (λ x y h. refl) & (λ x y h. refl) & end)
    & ((λ x y h. refl) & end)
    & end

times : (n y : ℕ) → n ≤ 1 → pick (eqb n 1) y 0 ≡ y * n
times zero y h = omega arith
times (suc zero) y h = omega arith
times (suc (suc n)) y h = absurd (omega arith)

times_le : (n y : ℕ) → n ≤ 1 → y < 2 → y * n ≤ n
times_le zero y h k = omega arith
times_le (suc zero) y h k = omega arith
times_le (suc (suc n)) y h k = absurd (omega arith)

module _ (r p x y h : ℕ) (hr : r < mode_count) (hp : p < pattern_length r) where
  pub held_is : held_after r p x y h ≡ y * held_count r (place_next r p)
  held_is = everywhere_of mode_count Holds holds r p hr hp x y h ∙ times (held_count r (place_next r p)) y (held_le r (place_next r p) hr (next_lt r p hp))

  pub held_in_range : y < 2 → held_after r p x y h ≤ held_count r (place_next r p)
  held_in_range k = rw held_is (times_le (held_count r (place_next r p)) y (held_le r (place_next r p) hr (next_lt r p hp)) k)
