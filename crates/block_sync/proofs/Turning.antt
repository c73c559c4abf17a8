-- Bits straight or inverted, and the block that they make.
-- Assumes nothing.
use mathlib.Core.Path.{◌≡◌, refl, ◌∙◌, ap}
use mathlib.Core.Bool.{Bool, true, false}
use mathlib.Core.List.{List, [], ◌∷◌, map}
use Prim.Native.Nat.{ℕ, zero, suc, ◌+◌, ◌*◌, ◌/◌, ◌%◌, ◌<◌}
use native.Mathlib.Omega.{arith}
use lib.ListN.{length, length-map}
use Rattle.common.specs.Lists.{chunks_of}
use Rattle.common.proofs.Chunks.{chunks_few, chunks_more}
use Rattle.convolutional_code.specs.Bits.{bits_of, Bits, none, more}
use Rattle.bit_packing.specs.Packing.{byte_of, packed_bytes}
use Rattle.block_sync.specs.Decision.{turned_bit, turned_bits, block_of}

pub turned_length : (inverted : Bool) (l : List ℕ) → length (turned_bits inverted l) ≡ length l
unfolding turned_bits
turned_length inverted l = length-map l (turned_bit inverted)

bit : (inverted : Bool) (b : ℕ) → turned_bit inverted b < 2
bit true b = omega arith
bit false b = omega arith

pub turned_bits_lem : (inverted : Bool) (l : List ℕ) → Bits (turned_bits inverted l)
unfolding turned_bits
turned_bits_lem inverted [] = none
turned_bits_lem inverted (b ∷ l) = more (bit inverted b) (turned_bits_lem inverted l)

-- ---- a block's bits are these bits

eight_bits : (a b c d e f g h : ℕ) → a < 2 → b < 2 → c < 2 → d < 2 → e < 2 → f < 2 → g < 2 → h < 2 → (l : List ℕ)
    → bits_of ((128 * a + 64 * b + 32 * c + 16 * d + 8 * e + 4 * f + 2 * g + h) ∷ l) ≡ a ∷ b ∷ c ∷ d ∷ e ∷ f ∷ g ∷ h ∷ bits_of l
unfolding bits_of
eight_bits a b c d e f g h ha hb hc hd he hf hg hh l = rw (at7, at6, at5, at4, at3, at2, at1, at0) refl
  where
    at7 : (128 * a + 64 * b + 32 * c + 16 * d + 8 * e + 4 * f + 2 * g + h) / 128 % 2 ≡ a
    at7 = omega arith

    at6 : (128 * a + 64 * b + 32 * c + 16 * d + 8 * e + 4 * f + 2 * g + h) / 64 % 2 ≡ b
    at6 = omega arith

    at5 : (128 * a + 64 * b + 32 * c + 16 * d + 8 * e + 4 * f + 2 * g + h) / 32 % 2 ≡ c
    at5 = omega arith

    at4 : (128 * a + 64 * b + 32 * c + 16 * d + 8 * e + 4 * f + 2 * g + h) / 16 % 2 ≡ d
    at4 = omega arith

    at3 : (128 * a + 64 * b + 32 * c + 16 * d + 8 * e + 4 * f + 2 * g + h) / 8 % 2 ≡ e
    at3 = omega arith

    at2 : (128 * a + 64 * b + 32 * c + 16 * d + 8 * e + 4 * f + 2 * g + h) / 4 % 2 ≡ f
    at2 = omega arith

    at1 : (128 * a + 64 * b + 32 * c + 16 * d + 8 * e + 4 * f + 2 * g + h) / 2 % 2 ≡ g
    at1 = omega arith

    at0 : (128 * a + 64 * b + 32 * c + 16 * d + 8 * e + 4 * f + 2 * g + h) % 2 ≡ h
    at0 = omega arith

bits_back : (n : ℕ) (l : List ℕ) → Bits l → length l ≡ 8 * n → bits_of (packed_bytes l) ≡ l
unfolding packed_bytes bits_of
bits_back zero [] t e = ap (λ (cs : List (List ℕ)). bits_of (map byte_of cs)) (chunks_few 8 (omega arith) [] (omega arith))
bits_back zero (a ∷ l) t e = absurd (omega arith)
bits_back (suc n) l t e = front l t (omega arith) (λ k u j. bits_back n k u j)
  where
    front : (l : List ℕ) → Bits l → length l ≡ 8 * n + 8 → ((k : List ℕ) → Bits k → length k ≡ 8 * n → bits_of (map byte_of (chunks_of 8 k)) ≡ k) → bits_of (map byte_of (chunks_of 8 l)) ≡ l
    front (a ∷ b ∷ c ∷ d ∷ e ∷ f ∷ g ∷ h ∷ l) (more ha (more hb (more hc (more hd (more he (more hf (more hg (more hh t)))))))) z rec =
        ap (λ (cs : List (List ℕ)). bits_of (map byte_of cs)) (chunks_more 8 (omega arith) (a ∷ b ∷ c ∷ d ∷ e ∷ f ∷ g ∷ h ∷ l) (omega arith))
        ∙ eight_bits a b c d e f g h ha hb hc hd he hf hg hh (map byte_of (chunks_of 8 l))
        ∙ ap (λ (k : List ℕ). a ∷ b ∷ c ∷ d ∷ e ∷ f ∷ g ∷ h ∷ k) (rec l t (omega arith))
    front [] t z rec = absurd (omega arith)
    front (a ∷ []) t z rec = absurd (omega arith)
    front (a ∷ b ∷ []) t z rec = absurd (omega arith)
    front (a ∷ b ∷ c ∷ []) t z rec = absurd (omega arith)
    front (a ∷ b ∷ c ∷ d ∷ []) t z rec = absurd (omega arith)
    front (a ∷ b ∷ c ∷ d ∷ e ∷ []) t z rec = absurd (omega arith)
    front (a ∷ b ∷ c ∷ d ∷ e ∷ f ∷ []) t z rec = absurd (omega arith)
    front (a ∷ b ∷ c ∷ d ∷ e ∷ f ∷ g ∷ []) t z rec = absurd (omega arith)

-- the bits of a block that is given are the bits that came, straight or inverted
pub block_bits_lem : (inverted : Bool) (l : List ℕ) → length l ≡ 1632 → bits_of (block_of inverted l) ≡ turned_bits inverted l
unfolding block_of
block_bits_lem inverted l e = bits_back 204 (turned_bits inverted l) (turned_bits_lem inverted l) (turned_length inverted l ∙ e)
