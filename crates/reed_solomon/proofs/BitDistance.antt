-- The bit distance of blocks: how it stands to the Hamming distance, and to the bits of an error.
-- Assumes nothing.
use mathlib.Core.Path.{◌≡◌, refl, sym, ap, ap₂, ◌∙◌}
use mathlib.Core.List.{List, [], ◌∷◌}
use Prim.Native.Nat.{ℕ, zero, suc, ◌+◌, ◌*◌, ◌/◌, ◌%◌, ◌^◌, ◌≤◌, ◌<◌}
use native.Mathlib.Decide.{ℕ_discrete}
use native.Mathlib.Nat.{pow-suc}
use native.Mathlib.Omega.{arith}
use lib.Bits.{bit_xor}
use lib.Count.{ones, ones_step}
use lib.ListN.{length}
use Rattle.common.proofs.Xor.{xor_half, xor_low}
use Rattle.common.specs.Choice.{unequal}
use Rattle.common.proofs.Choice.{unequal_le}
use Rattle.reed_solomon.specs.Code.{unequal_bits, distance, differ, differ_bits, changes, no_change}
use Rattle.reed_solomon.proofs.Distance.{unequal_same, unequal_other, unequal_xor, distance_none, differ_none}

-- ---- of two numbers of n bits

pub bits_same : (n x : ℕ) → unequal_bits n x x ≡ 0
unfolding unequal_bits
bits_same zero x = refl
bits_same (suc zero) x = unequal_same x x refl
bits_same (suc (suc n)) x = omega (arith, unequal_same (x % 2) (x % 2) refl, bits_same (suc n) (x / 2))

-- an error changes the bits that are set in it
pub bits_xor : (n x e : ℕ) → unequal_bits n x (bit_xor x e) ≡ unequal_bits n e 0
unfolding unequal_bits
bits_xor zero x e = refl
bits_xor (suc zero) x e = unequal_xor x e
bits_xor (suc (suc n)) x e =
    ap₂ (λ (l u : ℕ). unequal (x % 2) l + unequal_bits (suc n) (x / 2) u) (xor_low x e) (xor_half x e)
    ∙ ap₂ ◌+◌ (unequal_xor (x % 2) (e % 2)) (bits_xor (suc n) (x / 2) (e / 2))

-- numbers that are equal in each bit
bits_equal : (n x y : ℕ) → unequal_bits (suc n) x y ≡ 0 → x ≡ y
unfolding unequal_bits
bits_equal zero x y e = go (ℕ_discrete x y)
  where
    go : Dec (x ≡ y) → x ≡ y
    go (yes l) = l
    go (no l) = absurd (omega (arith, unequal_other x y l))
bits_equal (suc n) x y e = go (ℕ_discrete (x % 2) (y % 2)) (bits_equal n (x / 2) (y / 2))
  where
    go : Dec (x % 2 ≡ y % 2) → (unequal_bits (suc n) (x / 2) (y / 2) ≡ 0 → x / 2 ≡ y / 2) → x ≡ y
    go (yes l) r = let u = r (omega arith) in omega arith
    go (no l) r = absurd (omega (arith, unequal_other (x % 2) (y % 2) l))

pub bits_most : (n x y : ℕ) → unequal_bits n x y ≤ n
unfolding unequal_bits
bits_most zero x y = omega arith
bits_most (suc zero) x y = unequal_le x y
bits_most (suc (suc n)) x y = omega (arith, unequal_le (x % 2) (y % 2), bits_most (suc n) (x / 2) (y / 2))

-- the bits of a number of n bits that are set
pub bits_ones : (n e : ℕ) → e < 2 ^ n → unequal_bits n e 0 ≡ ones e
unfolding unequal_bits ones
bits_ones zero e h = let z : 0 ≡ e = omega arith in ap ones z
bits_ones (suc zero) e h = go (ℕ_discrete e 0)
  where
    go : Dec (e ≡ 0) → unequal e 0 ≡ ones e
    go (yes z) = unequal_same e 0 z ∙ ap ones (sym z)
    go (no z) = let o : 1 ≡ e = omega arith in unequal_other e 0 z ∙ ap ones o
bits_ones (suc (suc n)) e h =
    ap₂ ◌+◌ (low (ℕ_discrete (e % 2) 0)) (bits_ones (suc n) (e / 2) (omega (arith, pow-suc 2 (suc n)))) ∙ sym (ones_step e)
  where
    low : Dec (e % 2 ≡ 0) → unequal (e % 2) 0 ≡ e % 2
    low (yes z) = unequal_same (e % 2) 0 z ∙ sym z
    low (no z) = omega (arith, unequal_other (e % 2) 0 z)

-- ---- of two bytes: none where they are equal, else one to eight

byte_least : (x y : ℕ) → unequal x y ≤ unequal_bits 8 x y
byte_least x y = go (ℕ_discrete x y) (ℕ_discrete (unequal_bits 8 x y) 0)
  where
    go : Dec (x ≡ y) → Dec (unequal_bits 8 x y ≡ 0) → unequal x y ≤ unequal_bits 8 x y
    go (yes e) d = omega (arith, unequal_same x y e)
    go (no e) (yes z) = absurd (e (bits_equal 7 x y z))
    go (no e) (no z) = omega (arith, unequal_other x y e)

byte_most : (x y : ℕ) → unequal_bits 8 x y ≤ 8 * unequal x y
byte_most x y = go (ℕ_discrete x y)
  where
    go : Dec (x ≡ y) → unequal_bits 8 x y ≤ 8 * unequal x y
    go (yes e) = omega (arith, ap (unequal_bits 8 x) (sym e) ∙ bits_same 8 x)
    go (no e) = omega (arith, unequal_other x y e, bits_most 8 x y)

-- ---- of two blocks: at least the bytes, at most eight times them, and zero exactly for equal ones

pub bits_least : (a b : List ℕ) → differ a b ≤ differ_bits a b
unfolding differ differ_bits distance
bits_least [] b = omega arith
bits_least (x ∷ a) [] = omega arith
bits_least (x ∷ a) (y ∷ b) = omega (arith, byte_least x y, bits_least a b)

pub bits_eightfold : (a b : List ℕ) → differ_bits a b ≤ 8 * differ a b
unfolding differ differ_bits distance
bits_eightfold [] b = omega arith
bits_eightfold (x ∷ a) [] = omega arith
bits_eightfold (x ∷ a) (y ∷ b) = omega (arith, byte_most x y, bits_eightfold a b)

pub bits_none : (a : List ℕ) → differ_bits a a ≡ 0
unfolding differ_bits
bits_none a = distance_none (unequal_bits 8) (bits_same 8) a

pub bits_none_equal : (a b : List ℕ) → length a ≡ length b → differ_bits a b ≡ 0 → a ≡ b
unfolding differ_bits distance
bits_none_equal [] [] n e = refl
bits_none_equal [] (y ∷ b) n e = absurd (omega arith)
bits_none_equal (x ∷ a) [] n e = absurd (omega arith)
bits_none_equal (x ∷ a) (y ∷ b) n e =
    ap₂ (λ (z : ℕ) (l : List ℕ). z ∷ l) (bits_equal 7 x y (omega arith)) (bits_none_equal a b (omega arith) (omega arith))

-- where a block is left as it came nothing is changed
pub changes_none : (a : List ℕ) → changes a a ≡ no_change
changes_none a = ap₂ (λ (x y : ℕ). record { bytes = x; bits = y }) (differ_none a) (bits_none a)
