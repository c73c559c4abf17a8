-- Whether two texts are the same, byte by byte.
-- Assumes nothing.
use Rattle.std.proofs.Common.{◌≡◌, ℕ, suc, Bool, true, false, ◌&&◌, eqb, List, [], ◌∷◌, length, sym, refl, arith, ne_eqb}
use Rattle.std.specs.Cmp.Lexicographic.{pointwise}
use Rattle.common.specs.Choice.{pick}
use Rattle.program_io.specs.Words.{same_bytes}

-- what the library says of two lists of bytes
pub same_pointwise : (xs ys : List ℕ) → pointwise eqb xs ys ≡ same_bytes xs ys
same_pointwise [] [] = refl
same_pointwise [] (y ∷ ys) = refl
same_pointwise (x ∷ xs) [] = refl
same_pointwise (x ∷ xs) (y ∷ ys) = by (eqb x y) (same_pointwise xs ys)
  where
    by : (b : Bool) {s t : Bool} → s ≡ t → (b && s) ≡ pick b t false
    by true e = e
    by false e = refl

pub same_none : (ys : List ℕ) → same_bytes [] ys ≡ eqb (length ys) 0
same_none [] = refl
same_none (y ∷ ys) = sym (ne_eqb (suc (length ys)) 0 (λ e. omega (arith, e)))
