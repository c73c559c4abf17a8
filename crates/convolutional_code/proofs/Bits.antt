-- Lists of bits, and the bits of bytes.
-- Assumes nothing.
use mathlib.Core.Path.{◌≡◌, refl, ap}
use mathlib.Core.List.{List, [], ◌∷◌, ◌++◌}
use Prim.Native.Nat.{ℕ, zero, suc, ◌*◌, ◌/◌, ◌%◌, ◌<◌}
use native.Mathlib.Omega.{arith}
use lib.ListN.{length, get_or, take, drop, replicate}
use Rattle.common.specs.Lists.{total}
use Rattle.convolutional_code.specs.Bits.{bits_of, Bits, none, more}
use Rattle.convolutional_code.specs.Code.{recent, next_memory, mother_of, coded, memory_after}
use Rattle.convolutional_code.specs.Sweep.{oldest}

pub bits_at : {l : List ℕ} → Bits l → (k : ℕ) → get_or l k 0 < 2
bits_at none k = omega arith
bits_at (more h t) zero = h
bits_at (more h t) (suc k) = bits_at t k

pub bits_append : {a b : List ℕ} → Bits a → Bits b → Bits (a ++ b)
bits_append none t = t
bits_append (more h s) t = more h (bits_append s t)

pub bits_take : (n : ℕ) {l : List ℕ} → Bits l → Bits (take n l)
bits_take zero t = none
bits_take (suc n) none = none
bits_take (suc n) (more h t) = more h (bits_take n t)

pub bits_drop : (n : ℕ) {l : List ℕ} → Bits l → Bits (drop n l)
bits_drop zero t = t
bits_drop (suc n) none = none
bits_drop (suc n) (more h t) = bits_drop n t

pub zero_bits : (n : ℕ) → Bits (replicate n 0)
zero_bits zero = none
zero_bits (suc n) = more {b = 0} (omega arith) (zero_bits n)

-- ---- the mother code

pub coded_lt : (taps : List ℕ) (m b : ℕ) → coded taps m b < 2
coded_lt taps m b = omega arith

pub next_lt : (m b : ℕ) → m < 64 → b < 2 → next_memory m b < 64
next_lt m b h k = omega arith

pub memory_snoc : (m : ℕ) (xs : List ℕ) (b : ℕ) → memory_after m (xs ++ (b ∷ [])) ≡ next_memory (memory_after m xs) b
unfolding memory_after
memory_snoc m [] b = refl
memory_snoc m (x ∷ xs) b = memory_snoc (next_memory m x) xs b

pub bits_tail : {b : ℕ} {l : List ℕ} → Bits (b ∷ l) → Bits l
bits_tail (more h t) = t

digit : (n : ℕ) → n % 2 < 2
digit n = omega arith

pub bits_bits : (l : List ℕ) → Bits (bits_of l)
unfolding bits_of
bits_bits [] = none
bits_bits (b ∷ bs) =
    more (digit (b / 128)) (more (digit (b / 64)) (more (digit (b / 32)) (more (digit (b / 16))
    (more (digit (b / 8)) (more (digit (b / 4)) (more (digit (b / 2)) (more (digit b) (bits_bits bs))))))))

pub bits_oldest : (memory : ℕ) → Bits (oldest memory)
bits_oldest m =
    more (digit m) (more (digit (m / 2)) (more (digit (m / 4)) (more (digit (m / 8))
    (more (digit (m / 16)) (more (digit (m / 32)) none)))))

pub bits_mother : (taps : List ℕ) (memory : ℕ) (l : List ℕ) → Bits (mother_of taps memory l)
unfolding mother_of
bits_mother taps m [] = none
bits_mother taps m (b ∷ bs) = more (digit (total (λ t. get_or (b ∷ recent m) t 0) taps)) (bits_mother taps (next_memory m b) bs)

pub length_mother : (taps : List ℕ) (memory : ℕ) (l : List ℕ) → length (mother_of taps memory l) ≡ length l
unfolding mother_of
length_mother taps m [] = refl
length_mother taps m (b ∷ bs) = ap suc (length_mother taps (next_memory m b) bs)

pub length_bits : (l : List ℕ) → length (bits_of l) ≡ 8 * length l
unfolding bits_of
length_bits [] = refl
length_bits (b ∷ bs) = let e = length_bits bs in omega arith

-- a block of 204 bytes has 1,632 bits
pub block_bits_lem : (block : List ℕ) → length block ≡ 204 → length (bits_of block) ≡ 1632
block_bits_lem block h = let e = length_bits block in omega arith

pub bits_split : (a b : List ℕ) → bits_of (a ++ b) ≡ bits_of a ++ bits_of b
unfolding bits_of
bits_split [] b = refl
bits_split (x ∷ a) b =
    ap
    (λ (t : List ℕ). x / 128 % 2 ∷ x / 64 % 2 ∷ x / 32 % 2 ∷ x / 16 % 2 ∷ x / 8 % 2 ∷ x / 4 % 2 ∷ x / 2 % 2 ∷ x % 2 ∷ t)
    (bits_split a b)
