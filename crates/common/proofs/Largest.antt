-- The largest number of a list.
-- Assumes nothing.
use mathlib.Core.Path.{◌≡◌, refl, ap, ap₂, ◌∙◌}
use mathlib.Core.List.{List, [], ◌∷◌, ◌++◌}
use Prim.Native.Nat.{ℕ, zero, suc, ◌+◌, ◌≤◌, ◌<◌, max}
use native.Mathlib.Numerals.{add-one}
use native.Mathlib.Omega.{arith}
use lib.ListN.{length, get_or, take, replicate}
use lib.Seq.{take-suc, take_all}
use Rattle.common.specs.Lists.{largest}

largest_append : (a b : List ℕ) → largest (a ++ b) ≡ max (largest a) (largest b)
unfolding largest
largest_append [] b = omega arith
largest_append (x ∷ a) b = omega (arith, largest_append a b)

-- one element more
pub largest_more : (l : List ℕ) (i : ℕ) → i < length l → largest (take (i + 1) l) ≡ max (largest (take i l)) (get_or l i 0)
unfolding largest
largest_more l i h = ap (λ (k : ℕ). largest (take k l)) (add-one i) ∙ ap largest (take-suc l i 0 h) ∙ largest_append (take i l) (get_or l i 0 ∷ []) ∙ omega arith

pub largest_whole : (l : List ℕ) (i : ℕ) → length l ≤ i → largest (take i l) ≡ largest l
largest_whole l i h = ap largest (take_all i l h)

pub largest_least : (l : List ℕ) (i : ℕ) → get_or l i 0 ≤ largest l
unfolding largest
largest_least [] i = omega arith
largest_least (x ∷ l) zero = omega arith
largest_least (x ∷ l) (suc i) = omega (arith, largest_least l i)

pub largest_most : (l : List ℕ) (n : ℕ) → ((i : ℕ) → i < length l → get_or l i 0 ≤ n) → largest l ≤ n
unfolding largest
largest_most [] n h = omega arith
largest_most (x ∷ l) n h = omega (arith, h zero (omega arith), largest_most l n (λ i b. h (suc i) (omega arith)))

-- where the largest is zero, all are
pub largest_none : (l : List ℕ) → largest l ≡ 0 → l ≡ replicate (length l) 0
unfolding largest
largest_none [] h = refl
largest_none (x ∷ l) h = let e : x ≡ 0 = omega arith in ap₂ (λ (a : ℕ) (b : List ℕ). a ∷ b) e (largest_none l (omega arith))

pub largest_zeros : (n : ℕ) → largest (replicate n 0) ≡ 0
unfolding largest
largest_zeros zero = refl
largest_zeros (suc n) = omega (arith, largest_zeros n)
