-- The byte at a place of bits, straight or inverted, and the bytes of a block's bits, one by one.
-- Assumes nothing.
use mathlib.Core.Path.{◌≡◌, refl, sym, ◌∙◌, ap}
use mathlib.Core.Bool.{Bool, true, false}
use mathlib.Core.List.{List, map}
use Prim.Native.Nat.{ℕ, zero, suc, ◌+◌, ◌-◌, ◌*◌, ◌/◌, ◌%◌, ◌≤◌, ◌<◌}
use native.Mathlib.Omega.{arith}
use lib.ListN.{length, get_or, take, drop, length-drop}
use lib.Seq.{get_or-take}
use Rattle.common.proofs.Lists.{get_d_map_in}
use Rattle.common.proofs.Chunks.{chunks_more}
use Rattle.convolutional_code.specs.Bits.{Bits}
use Rattle.convolutional_code.proofs.Bits.{bits_at, bits_drop}
use Rattle.bit_packing.specs.Packing.{byte_of, packed_bytes}
use Rattle.bit_packing.proofs.Bytes.{length_bytes}
use Rattle.sync_search.specs.Sync.{byte_at}
use Rattle.sync_search.proofs.Syncs.{byte_inverted}
use Rattle.block_sync.specs.Decision.{turned_bit, turned_bits, block_of}
use Rattle.block_sync.specs.Grid.{turned_byte}
use Rattle.block_sync.proofs.Turning.{turned_length, turned_bits_lem}
use Rattle.block_sync.proofs.Majority.{byte_drop}

-- ---- straight or inverted

bit_straight : (l : List ℕ) (i : ℕ) → i < length l → get_or (turned_bits false l) i 0 % 2 ≡ get_or l i 0 % 2
unfolding turned_bits
bit_straight l i h = ap (λ (b : ℕ). b % 2) (get_d_map_in (turned_bit false) l 0 0 i h) ∙ m (get_or l i 0)
  where
    m : (x : ℕ) → x % 2 % 2 ≡ x % 2
    m x = omega arith

byte_straight : (l : List ℕ) (at : ℕ) → at + 8 ≤ length l → byte_at (turned_bits false l) at ≡ byte_at l at
unfolding byte_at
byte_straight l at h =
    rw (bit_straight l at (omega arith), g 1 (omega arith), g 2 (omega arith), g 3 (omega arith), g 4 (omega arith), g 5 (omega arith), g 6 (omega arith), g 7 (omega arith)) refl
  where
    g : (i : ℕ) → i < 8 → get_or (turned_bits false l) (at + i) 0 % 2 ≡ get_or l (at + i) 0 % 2
    g i k = bit_straight l (at + i) (omega arith)

byte_other_lem : (l : List ℕ) (at : ℕ) → at + 8 ≤ length l → byte_at (turned_bits true l) at ≡ 255 - byte_at l at
unfolding turned_bits
byte_other_lem l at h = let e = byte_inverted l at h in omega arith

pub byte_turned : (i : Bool) (l : List ℕ) (at : ℕ) → at + 8 ≤ length l → byte_at (turned_bits i l) at ≡ turned_byte i (byte_at l at)
byte_turned true l at h = byte_other_lem l at h
byte_turned false l at h = byte_straight l at h

-- ---- the bytes of bits

first_byte : (l : List ℕ) → Bits l → byte_at l 0 ≡ byte_of (take 8 l)
unfolding byte_at
first_byte l t =
    rw (g 0 (omega arith), g 1 (omega arith), g 2 (omega arith), g 3 (omega arith), g 4 (omega arith), g 5 (omega arith), g 6 (omega arith), g 7 (omega arith)) refl
  where
    m : (x : ℕ) → x < 2 → x % 2 ≡ x
    m x h = omega arith

    g : (i : ℕ) → i < 8 → get_or l i 0 % 2 ≡ get_or (take 8 l) i 0
    g i k = m (get_or l i 0) (bits_at t i) ∙ sym (get_or-take 8 l i 0 k)

packed_at : (n : ℕ) (l : List ℕ) → Bits l → 8 * n + 8 ≤ length l → byte_at l (8 * n) ≡ get_or (packed_bytes l) n 0
unfolding packed_bytes
packed_at zero l t h = first_byte l t ∙ sym (ap (λ (cs : List (List ℕ)). get_or (map byte_of cs) 0 0) (chunks_more 8 (omega arith) l (omega arith)))
packed_at (suc n) l t h =
    let e : 8 * suc n ≡ 8 + 8 * n = omega arith in
    ap (byte_at l) e ∙ sym (byte_drop 8 l (8 * n)) ∙ packed_at n (drop 8 l) (bits_drop 8 t) (omega (arith, length-drop 8 l))
    ∙ sym (ap (λ (cs : List (List ℕ)). get_or (map byte_of cs) (suc n) 0) (chunks_more 8 (omega arith) l (omega arith)))

-- ---- the bytes of a block

pub block_length : (inverted : Bool) (l : List ℕ) → length l ≡ 1632 → length (block_of inverted l) ≡ 204
unfolding block_of
block_length inverted l e = length_bytes (turned_bits inverted l) ∙ ap (λ (n : ℕ). n / 8) (turned_length inverted l ∙ e)

pub block_at : (inverted : Bool) (l : List ℕ) → length l ≡ 1632 → (k : ℕ) → k < 204 → turned_byte inverted (byte_at l (8 * k)) ≡ get_or (block_of inverted l) k 0
unfolding block_of
block_at inverted l e k h =
    sym (byte_turned inverted l (8 * k) (omega arith)) ∙ packed_at k (turned_bits inverted l) (turned_bits_lem inverted l) (omega (arith, turned_length inverted l))
