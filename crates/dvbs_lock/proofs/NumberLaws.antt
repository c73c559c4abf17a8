-- The numbers of bytes: their range, and those of bytes behind bytes.
-- Assumes nothing.
use mathlib.Core.Path.{◌≡◌, refl, ap}
use mathlib.Core.Bool.{Bool, true, false}
use mathlib.Core.List.{List, [], ◌∷◌, ◌++◌, map}
use Prim.Native.Nat.{ℕ, ◌%◌, ◌≤◌, ◌<◌}
use native.Mathlib.Omega.{arith}
use lib.ListN.{length}
use Rattle.common.specs.Lists.{All}
use Rattle.branch_metrics.specs.SoftPairs.{symbol_pair}
use Rattle.branch_metrics.specs.Cost.{ReceivedSymbol}
use Rattle.branch_metrics.proofs.Numbers.{symbol_lt}
use Rattle.convolutional_code.specs.Bits.{bits_of, Bits, none, more}
use Rattle.convolutional_code.proofs.Bits.{length_bits, bits_bits, bits_split}
use Rattle.received_symbols.specs.Received.{points_of, pairs_of}
use Rattle.received_symbols.proofs.SoftInput.{pairs_append, pairs_length}
use Rattle.dvbs_lock.specs.Numbers.{numbers_of, read_size}

pairs_small : (l : List ReceivedSymbol) → All (λ p. p < 81) (map symbol_pair l)
pairs_small [] = tt
pairs_small (x ∷ l) = (symbol_lt x, pairs_small l)

bits_small : {l : List ℕ} → Bits l → All (λ p. p < 81) l
bits_small none = tt
bits_small (more h b) = (omega arith, bits_small b)

pub numbers_small : (bits : Bool) (bytes : List ℕ) → All (λ p. p < 81) (numbers_of bits bytes)
numbers_small true bytes = bits_small (bits_bits bytes)
numbers_small false bytes = pairs_small (points_of bytes)

pub numbers_append : (bits : Bool) (a c : List ℕ) → length a % 8 ≡ 0 → numbers_of bits (a ++ c) ≡ numbers_of bits a ++ numbers_of bits c
numbers_append true a c e = bits_split a c
numbers_append false a c e = pairs_append a c e

pub numbers_none : (bits : Bool) → numbers_of bits [] ≡ []
unfolding bits_of
numbers_none true = refl
numbers_none false = empty (pairs_of []) (pairs_length [])
  where
    empty : (l : List ℕ) → length l ≡ 0 → l ≡ []
    empty [] z = refl
    empty (x ∷ l) z = absurd (omega arith)

-- ---- a whole read

-- it fits its buffer, its bits fit theirs, and it ends with a whole point
pub size_fits : (bits : Bool) → read_size bits ≤ 104448
size_fits true = omega arith
size_fits false = omega arith

pub size_bits : {bits : Bool} → bits ≡ true → read_size bits ≡ 1632
size_bits e = ap read_size e

pub size_whole : (bits : Bool) → read_size bits % 8 ≡ 0
size_whole true = refl
size_whole false = refl

-- it has numbers
pub numbers_some : (bits : Bool) (bytes : List ℕ) → length bytes ≡ read_size bits → 0 < length (numbers_of bits bytes)
numbers_some true bytes e = omega (arith, length_bits bytes)
numbers_some false bytes e = omega (arith, pairs_length bytes)
