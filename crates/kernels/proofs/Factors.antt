-- A loop that multiplies by one factor after the other.
-- Assumes nothing.
use mathlib.Core.Path.{◌≡◌, refl, ap, ap₂, sym, ◌∙◌}
use mathlib.Core.List.{List}
use Prim.Native.Nat.{ℕ, ◌+◌, ◌≤◌, ◌<◌}
use native.Mathlib.Numerals.{add-one}
use native.Mathlib.Omega.{arith}
use lib.ListN.{length, get_or, drop, drop_of_length-le}
use lib.Seq.{drop-cons}
use Rattle.galois.specs.Field256.{scaled}
use Rattle.kernels.specs.Scale.{scaled_by}

-- the factors from i on give, of what there is now, what all of them give of the first
pub record Scaling (factors first a : List ℕ) (i : ℕ) : Type 0 where
  pub within : i ≤ length factors
  pub further : scaled_by (drop i factors) a ≡ scaled_by factors first

pub scaling_none : (factors first : List ℕ) → Scaling factors first first 0
scaling_none factors first = record { within = omega arith; further = refl }

pub scaling_more : {factors first a next : List ℕ} {i : ℕ} → Scaling factors first a i → i < length factors → next ≡ scaled (get_or factors i 0) a
    → Scaling factors first next (i + 1)
unfolding scaled_by
scaling_more {factors} {first} {a} {next} {i} s h e = record {
  within = omega arith;
  further =
      ap₂ (λ (n : ℕ) (l : List ℕ). scaled_by (drop n factors) l) (add-one i) e
      ∙ ap (λ (l : List ℕ). scaled_by l a) (sym (drop-cons factors i 0 h))
      ∙ s.further;
}

pub scaling_all : {factors first a : List ℕ} {i : ℕ} → Scaling factors first a i → length factors ≤ i → a ≡ scaled_by factors first
unfolding scaled_by
scaling_all {factors} {first} {a} {i} s h = ap (λ (l : List ℕ). scaled_by l a) (sym (drop_of_length-le factors {i = i} h)) ∙ s.further
