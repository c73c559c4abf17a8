-- Bits packed into bytes: the bits of bytes make these bytes again, since eight bits are those of one byte only; and a list is packed piece by piece.
-- Assumes nothing.
use mathlib.Core.Path.{◌≡◌, refl, ap, ap₂, ◌∙◌}
use mathlib.Core.List.{List, [], ◌∷◌, ◌++◌, map, flatten, map-append}
use Prim.Native.Nat.{ℕ, zero, suc, ◌+◌, ◌*◌, ◌/◌, ◌%◌, ◌≤◌, ◌<◌}
use Prim.{tt}
use native.Mathlib.Omega.{arith}
use lib.ListN.{length, take, length-map}
use Rattle.common.specs.Lists.{All, Bytes, Length, chunks_of, rest_of}
use Rattle.common.proofs.Chunks.{length-chunks, chunks_few, cut, chunks_back}
use Rattle.convolutional_code.specs.Bits.{bits_of}
use Rattle.bit_packing.specs.Packing.{byte_of, packed_bytes}

-- ---- the bits of bytes

-- a byte is the number that its bits make
pub digits : (b : ℕ) → b < 256
    → 128 * (b / 128 % 2) + 64 * (b / 64 % 2) + 32 * (b / 32 % 2) + 16 * (b / 16 % 2) + 8 * (b / 8 % 2) + 4 * (b / 4 % 2) + 2 * (b / 2 % 2) + b % 2 ≡ b
digits b h =
    let h7 : b / 128 % 2 ≡ b / 128 = omega arith in
    let h6 : 2 * (b / 128) + b / 64 % 2 ≡ b / 64 = omega arith in
    let h5 : 2 * (b / 64) + b / 32 % 2 ≡ b / 32 = omega arith in
    let h4 : 2 * (b / 32) + b / 16 % 2 ≡ b / 16 = omega arith in
    let h3 : 2 * (b / 16) + b / 8 % 2 ≡ b / 8 = omega arith in
    let h2 : 2 * (b / 8) + b / 4 % 2 ≡ b / 4 = omega arith in
    let h1 : 2 * (b / 4) + b / 2 % 2 ≡ b / 2 = omega arith in
    let h0 : 2 * (b / 2) + b % 2 ≡ b = omega arith in
    sums (b / 128 % 2) (b / 64 % 2) (b / 32 % 2) (b / 16 % 2) (b / 8 % 2) (b / 4 % 2) (b / 2 % 2) (b % 2)
    (b / 128) (b / 64) (b / 32) (b / 16) (b / 8) (b / 4) (b / 2) b h7 h6 h5 h4 h3 h2 h1 h0
  where
    sums : (d7 d6 d5 d4 d3 d2 d1 d0 q7 q6 q5 q4 q3 q2 q1 q0 : ℕ) → d7 ≡ q7 → 2 * q7 + d6 ≡ q6 → 2 * q6 + d5 ≡ q5 → 2 * q5 + d4 ≡ q4 → 2 * q4 + d3 ≡ q3
        → 2 * q3 + d2 ≡ q2 → 2 * q2 + d1 ≡ q1 → 2 * q1 + d0 ≡ q0
        → 128 * d7 + 64 * d6 + 32 * d5 + 16 * d4 + 8 * d3 + 4 * d2 + 2 * d1 + d0 ≡ q0
    sums d7 d6 d5 d4 d3 d2 d1 d0 q7 q6 q5 q4 q3 q2 q1 q0 h7 h6 h5 h4 h3 h2 h1 h0 = omega arith

-- the bits of each byte
abbrev eight : ℕ → List ℕ
eight b = b / 128 % 2 ∷ b / 64 % 2 ∷ b / 32 % 2 ∷ b / 16 % 2 ∷ b / 8 % 2 ∷ b / 4 % 2 ∷ b / 2 % 2 ∷ b % 2 ∷ []

bits_flat : (bytes : List ℕ) → bits_of bytes ≡ flatten (map eight bytes)
unfolding bits_of flatten
bits_flat [] = refl
bits_flat (b ∷ bs) = ap (λ (l : List ℕ). eight b ++ l) (bits_flat bs)

eights : (bytes : List ℕ) → All (Length 8) (map eight bytes)
eights [] = tt
eights (b ∷ bs) = (refl, eights bs)

first_bytes : (k : ℕ) (bytes : List ℕ) → Bytes bytes → map byte_of (take k (map eight bytes)) ≡ take k bytes
first_bytes zero [] g = refl
first_bytes zero (b ∷ bs) g = refl
first_bytes (suc k) [] g = refl
first_bytes (suc k) (b ∷ bs) g = ap₂ (λ (x : ℕ) (l : List ℕ). x ∷ l) (digits b g.0) (first_bytes k bs g.1)

-- the first n bits of bytes make the bytes that are whole in them
pub bytes_back : (bytes : List ℕ) → Bytes bytes → (n : ℕ) → n ≤ length (bits_of bytes) → packed_bytes (take n (bits_of bytes)) ≡ take (n / 8) bytes
unfolding packed_bytes
bytes_back bytes g n h =
    let e = bits_flat bytes in
    ap (λ (l : List ℕ). map byte_of (chunks_of 8 (take n l))) e
    ∙ ap (map byte_of) (chunks_back 8 (omega arith) (map eight bytes) (eights bytes) n (omega (arith, ap length e)))
    ∙ first_bytes (n / 8) bytes g

pub length_bytes : (bits : List ℕ) → length (packed_bytes bits) ≡ length bits / 8
unfolding packed_bytes
length_bytes bits = length-map (chunks_of 8 bits) byte_of ∙ length-chunks 8 bits

-- ---- piece by piece

-- fewer than eight bits are in no byte
pub packed_few : (bits : List ℕ) → length bits < 8 → packed_bytes bits ≡ []
unfolding packed_bytes
packed_few bits h = ap (map byte_of) (chunks_few 8 (omega arith) bits h)

-- Two pieces: the bytes of the first, and then those of what it left and the second.
pub packed_pieces : (a b : List ℕ) → packed_bytes (a ++ b) ≡ packed_bytes a ++ packed_bytes (rest_of 8 a ++ b)
unfolding packed_bytes
packed_pieces a b = ap (map byte_of) (cut 8 (omega arith) a b).chunks_are ∙ map-append byte_of (chunks_of 8 a) (chunks_of 8 (rest_of 8 a ++ b))
