-- The first place where two sequences of numbers differ.
-- Assumes nothing.
use mathlib.Core.Path.{◌≡◌, sym, ◌∙◌, ap}
use mathlib.Core.Logic.{◌⊎◌, inl, inr}
use Prim.Native.Nat.{ℕ, zero, suc, ◌<◌}
use native.Mathlib.Decide.{ℕ_discrete}
use native.Mathlib.Omega.{arith}

-- two lists of numbers agree below n, or differ first at a place
pub record First (f g : ℕ → ℕ) (n : ℕ) : Type 0 where
  pub place : ℕ
  pub below : place < n
  pub unlike_there : f place ≡ g place → ⊥
  pub alike_before : (i : ℕ) → i < place → f i ≡ g i

pub first_or : (f g : ℕ → ℕ) (n : ℕ) → ((i : ℕ) → i < n → f i ≡ g i) ⊎ (First f g n)
first_or f g zero = inl (λ i h. absurd (omega arith))
first_or f g (suc n) = by (first_or f g n) (ℕ_discrete (f n) (g n))
  where
    all : ((i : ℕ) → i < n → f i ≡ g i) → f n ≡ g n → (i : ℕ) → i < suc n → f i ≡ g i
    all h e i l = at (ℕ_discrete i n)
      where
        at : Dec (i ≡ n) → f i ≡ g i
        at (yes q) = ap f q ∙ e ∙ ap g (sym q)
        at (no q) = h i (omega arith)

    by : ((i : ℕ) → i < n → f i ≡ g i) ⊎ (First f g n) → Dec (f n ≡ g n) → ((i : ℕ) → i < suc n → f i ≡ g i) ⊎ (First f g (suc n))
    by (inr d) e = inr (record { place = d.place; below = omega (arith, d.below); unlike_there = d.unlike_there; alike_before = d.alike_before })
    by (inl h) (yes e) = inl (all h e)
    by (inl h) (no e) = inr (record { place = n; below = omega arith; unlike_there = e; alike_before = h })
