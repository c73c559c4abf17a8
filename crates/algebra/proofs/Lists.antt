-- Lists whose elements differ.
-- Assumes nothing.
use mathlib.Core.Path.{◌≡◌, sym}
use mathlib.Core.List.{List, [], ◌∷◌, ◌++◌}
use Prim.Native.Nat.{ℕ, zero, suc, ◌<◌}
use native.Mathlib.Omega.{arith}
use lib.ListN.{length, get_or}
use Prim.{Unit, tt}
use Rattle.common.specs.Lists.{All}
use Rattle.common.proofs.Lists.{All-of}

-- no element of the list is x; the elements differ
abbrev pub Away : {A : Type 0} → A → List A → Type 0
Away x xs = All (λ y. y ≡ x → ⊥) xs

abbrev pub Distinct : {A : Type 0} → List A → Type 0
Distinct [] = Unit {0}
Distinct (x ∷ xs) = Away x xs × Distinct xs

Away-member : {A : Type 0} (x y : A) (xs ys : List A) → Away x (xs ++ y ∷ ys) → y ≡ x → ⊥
Away-member x y [] ys h = h.0
Away-member x y (z ∷ xs) ys h = Away-member x y xs ys h.1

-- an element of a list whose elements differ is none of the others
pub Distinct-away : {A : Type 0} (x : A) (xs ys : List A) → Distinct (xs ++ x ∷ ys) → Away x (xs ++ ys)
Distinct-away x [] ys h = h.0
Distinct-away x (y ∷ xs) ys h = ((λ e. Away-member y x xs ys h.0 (sym e)), Distinct-away x xs ys h.1)

pub Distinct-of : {A : Type 0} (xs : List A) (d : A) → ((i j : ℕ) → i < j → j < length xs → get_or xs j d ≡ get_or xs i d → ⊥) → Distinct xs
Distinct-of [] d h = tt
Distinct-of (x ∷ xs) d h = (All-of (λ y. y ≡ x → ⊥) xs d (λ j l. h zero (suc j) (omega arith) (omega arith)), Distinct-of xs d (λ i j k l. h (suc i) (suc j) (omega arith) (omega arith)))
