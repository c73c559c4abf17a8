-- Numbers as bytes, and back.
-- Assumes nothing.
use mathlib.Core.Path.{◌≡◌, refl, sym, ap, ap₂, ◌∙◌}
use mathlib.Core.List.{List, [], ◌∷◌, ◌++◌, append_assoc, append-nil, map, flatten}
use Prim.Native.Nat.{ℕ, zero, suc, ◌+◌, ◌*◌, ◌/◌, ◌%◌, ◌<◌}
use native.Mathlib.Omega.{arith}
use lib.ListN.{length, get_or, length-append}
use Rattle.common.specs.Lists.{ByteEntries}
use Rattle.common.specs.Bytes.{byte_at}
use Rattle.reception_counts.specs.Bytes.{to_bytes, from_bytes}

low_byte : (b m : ℕ) → b < 256 → (b + 256 * m) % 256 ≡ b
low_byte b m h = omega arith

high_bytes : (b m : ℕ) → b < 256 → (b + 256 * m) / 256 ≡ m
high_bytes b m h = omega arith

-- bytes, as a number and back
pub to_from : (size : ℕ) (bytes : List ℕ) → ByteEntries bytes → length bytes ≡ size → to_bytes size (from_bytes bytes) ≡ bytes
unfolding to_bytes from_bytes
to_from zero [] e n = refl
to_from zero (b ∷ bytes) e n = absurd (omega arith)
to_from (suc size) [] e n = absurd (omega arith)
to_from (suc size) (b ∷ bytes) e n =
    ap₂ (λ (x y : ℕ). x ∷ to_bytes size y) (low_byte b (from_bytes bytes) (e 0)) (high_bytes b (from_bytes bytes) (e 0))
    ∙ ap (λ (l : List ℕ). b ∷ l) (to_from size bytes (λ i. e (suc i)) (omega arith))

-- numbers in so many bytes are below this
abbrev limit : ℕ → ℕ
limit zero = 1
limit (suc size) = 256 * limit size

quotient_below : (n m : ℕ) → n < 256 * m → n / 256 < m
quotient_below n m h = omega arith

whole : (n m : ℕ) → m ≡ n / 256 → n % 256 + 256 * m ≡ n
whole n m e = omega arith

-- a number, in enough bytes and back
from_to : (size n : ℕ) → n < limit size → from_bytes (to_bytes size n) ≡ n
unfolding to_bytes from_bytes
from_to zero n h = omega arith
from_to (suc size) n h = whole n (from_bytes (to_bytes size (n / 256))) (from_to size (n / 256) (quotient_below n (limit size) h))

pub from_to_eight : (n : ℕ) → n < 18446744073709551616 → from_bytes (to_bytes 8 n) ≡ n
from_to_eight n h = from_to 8 n h

pub length_to : (size n : ℕ) → length (to_bytes size n) ≡ size
unfolding to_bytes
length_to zero n = refl
length_to (suc size) n = ap suc (length_to size (n / 256))

-- ---- the bytes of numbers

pub byte_to : (size n k : ℕ) → k < size → byte_at k n ≡ get_or (to_bytes size n) k 0
unfolding byte_at to_bytes
byte_to zero n k h = absurd (omega arith)
byte_to (suc size) n zero h = refl
byte_to (suc size) n (suc k) h = byte_to size (n / 256) k (omega arith)

pub each_length : (ns : List ℕ) → length (flatten (map (to_bytes 8) ns)) ≡ 8 * length ns
unfolding flatten
each_length [] = refl
each_length (n ∷ ns) =
    length-append (to_bytes 8 n) (flatten (map (to_bytes 8) ns))
    ∙ let h = length_to 8 n in let k = each_length ns in omega arith

pub each_snoc : (ns : List ℕ) (n : ℕ) → flatten (map (to_bytes 8) ns) ++ to_bytes 8 n ≡ flatten (map (to_bytes 8) (ns ++ n ∷ []))
unfolding flatten
each_snoc [] n = sym (append-nil (to_bytes 8 n))
each_snoc (m ∷ ns) n = append_assoc (to_bytes 8 m) (flatten (map (to_bytes 8) ns)) (to_bytes 8 n) ∙ ap (λ (l : List ℕ). to_bytes 8 m ++ l) (each_snoc ns n)
