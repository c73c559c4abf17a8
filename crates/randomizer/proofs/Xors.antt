-- Laws of the xor of two lists, byte by byte.
-- Assumes nothing.
use mathlib.Core.Path.{◌≡◌, refl, ap, ap₂}
use mathlib.Core.List.{List, [], ◌∷◌, zip_with}
use Prim.Native.Nat.{ℕ, zero, suc, ◌≤◌, ◌<◌}
use native.Mathlib.Nat.{le_of_suc-le-suc, not-suc-le-zero}
use lib.Bits.{bit_xor, xor_lt}
use lib.ListN.{length, get_or, take}
use native.Mathlib.Omega.{arith}
use Rattle.common.specs.Lists.{ByteEntries}
use Rattle.common.proofs.Xor.{xor_undo}

pub length_xors : (xs ys : List ℕ) → length xs ≤ length ys → length (zip_with bit_xor xs ys) ≡ length xs
unfolding zip_with
length_xors [] ys h = refl
length_xors (x ∷ xs) [] h = absurd (not-suc-le-zero h)
length_xors (x ∷ xs) (y ∷ ys) h = ap suc (length_xors xs ys (le_of_suc-le-suc h))

pub get_d_xors : (xs ys : List ℕ) (i : ℕ) → i < length xs → i < length ys
    → get_or (zip_with bit_xor xs ys) i 0 ≡ bit_xor (get_or xs i 0) (get_or ys i 0)
unfolding zip_with
get_d_xors [] ys i h k = absurd (not-suc-le-zero h)
get_d_xors (x ∷ xs) [] i h k = absurd (not-suc-le-zero k)
get_d_xors (x ∷ xs) (y ∷ ys) zero h k = refl
get_d_xors (x ∷ xs) (y ∷ ys) (suc i) h k = get_d_xors xs ys i (le_of_suc-le-suc h) (le_of_suc-le-suc k)

pub bytes_xors : (xs ys : List ℕ) → ByteEntries xs → ByteEntries ys → ByteEntries (zip_with bit_xor xs ys)
unfolding zip_with
bytes_xors [] ys a b i = omega arith
bytes_xors (x ∷ xs) [] a b i = omega arith
bytes_xors (x ∷ xs) (y ∷ ys) a b zero = xor_lt 8 x y (a 0) (b 0)
bytes_xors (x ∷ xs) (y ∷ ys) a b (suc i) = bytes_xors xs ys (λ k. a (suc k)) (λ k. b (suc k)) i

-- applied twice, it gives the list back
pub xors_undo : (xs ys : List ℕ) → length xs ≤ length ys → zip_with bit_xor (zip_with bit_xor xs ys) ys ≡ xs
unfolding zip_with
xors_undo [] ys h = refl
xors_undo (x ∷ xs) [] h = absurd (not-suc-le-zero h)
xors_undo (x ∷ xs) (y ∷ ys) h = ap₂ (λ (a : ℕ) (l : List ℕ). a ∷ l) (xor_undo x y) (xors_undo xs ys (le_of_suc-le-suc h))

-- the second list counts only as far as the first goes
pub xors_take : (xs ys : List ℕ) → zip_with bit_xor xs (take (length xs) ys) ≡ zip_with bit_xor xs ys
unfolding zip_with
xors_take [] ys = refl
xors_take (x ∷ xs) [] = refl
xors_take (x ∷ xs) (y ∷ ys) = ap (λ (l : List ℕ). bit_xor x y ∷ l) (xors_take xs ys)
