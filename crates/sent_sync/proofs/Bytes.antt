-- Bits of bytes: the byte at a place of them; straight or inverted, the blocks that they make again.
-- Assumes nothing.
use mathlib.Core.Path.{◌≡◌, refl, sym, ◌∙◌, ap, ap₂}
use mathlib.Core.Bool.{Bool, true, false}
use mathlib.Core.List.{List, [], ◌∷◌, ◌++◌, map, flatten, map-append}
use Prim.Native.Nat.{ℕ, zero, suc, ◌+◌, ◌*◌, ◌/◌, ◌%◌, ◌<◌}
use Prim.{tt}
use native.Mathlib.Nat.{not-suc-le-zero, le_of_suc-le-suc}
use native.Mathlib.Omega.{arith}
use lib.ListN.{length, get_or, take, drop, length-map}
use lib.Seq.{take-length}
use Rattle.common.specs.Lists.{All, Bytes, Length, chunks_of}
use Rattle.common.proofs.Chunks.{chunks_joined}
use Rattle.convolutional_code.specs.Bits.{bits_of, Bits, none, more}
use Rattle.convolutional_code.proofs.Bits.{length_bits, bits_bits, bits_split}
use Rattle.bit_packing.specs.Packing.{packed_bytes}
use Rattle.bit_packing.proofs.Bytes.{digits, bytes_back}
use Rattle.sync_search.specs.Sync.{byte_at}
use Rattle.block_sync.specs.Decision.{turned_bit, turned_bits, block_of}
use Rattle.block_sync.specs.Grid.{grid_blocks}
use Rattle.block_sync.proofs.Majority.{byte_drop}

-- ---- the byte at a place

byte_first : (b : ℕ) (bs : List ℕ) → b < 256 → byte_at (bits_of (b ∷ bs)) 0 ≡ b
unfolding byte_at bits_of
byte_first b bs h = rw (m (b / 128), m (b / 64), m (b / 32), m (b / 16), m (b / 8), m (b / 4), m (b / 2), m b) (digits b h)
  where
    m : (x : ℕ) → x % 2 % 2 ≡ x % 2
    m x = omega arith

bits_rest : (b : ℕ) (bs : List ℕ) → drop 8 (bits_of (b ∷ bs)) ≡ bits_of bs
unfolding bits_of
bits_rest b bs = refl

pub byte_of : (bytes : List ℕ) → Bytes bytes → (n : ℕ) → n < length bytes → byte_at (bits_of bytes) (8 * n) ≡ get_or bytes n 0
byte_of [] g n h = absurd (not-suc-le-zero h)
byte_of (b ∷ bs) g zero h = byte_first b bs g.0
byte_of (b ∷ bs) g (suc n) h =
    let e : 8 * suc n ≡ 8 + 8 * n = omega arith in
    ap (byte_at (bits_of (b ∷ bs))) e ∙ sym (byte_drop 8 (bits_of (b ∷ bs)) (8 * n)) ∙ ap (λ (l : List ℕ). byte_at l (8 * n)) (bits_rest b bs) ∙ byte_of bs g.1 n (le_of_suc-le-suc h)

-- ---- the blocks again

bit_twice : (i : Bool) (b : ℕ) → b < 2 → turned_bit i (turned_bit i b) ≡ b
bit_twice true b h = omega arith
bit_twice false b h = omega arith

pub turned_twice : (i : Bool) {l : List ℕ} → Bits l → turned_bits i (turned_bits i l) ≡ l
unfolding turned_bits
turned_twice i none = refl
turned_twice i (more {b = b} h t) = ap₂ (λ (x : ℕ) (l : List ℕ). x ∷ l) (bit_twice i b h) (turned_twice i t)

pub block_back : (i : Bool) (block : List ℕ) → Bytes block → length block ≡ 204 → block_of i (turned_bits i (bits_of block)) ≡ block
unfolding block_of
block_back i block g e =
    let n = length_bits block in
    let q : length (bits_of block) / 8 ≡ length block = omega arith in
    ap packed_bytes (turned_twice i (bits_bits block) ∙ sym (take-length (bits_of block)))
    ∙ bytes_back block g (length (bits_of block)) (omega arith) ∙ ap (λ (k : ℕ). take k block) q ∙ take-length block

-- the bits of blocks are the bits of each
pub turned_append : (i : Bool) (a b : List ℕ) → turned_bits i (a ++ b) ≡ turned_bits i a ++ turned_bits i b
unfolding turned_bits
turned_append i a b = map-append (turned_bit i) a b

abbrev block_bits : Bool → List ℕ → List ℕ
block_bits i block = turned_bits i (bits_of block)

none_turned : (i : Bool) → turned_bits i (bits_of []) ≡ []
unfolding turned_bits bits_of
none_turned i = refl

bits_blocks : (i : Bool) (bs : List (List ℕ)) → turned_bits i (bits_of (flatten bs)) ≡ flatten (map (block_bits i) bs)
unfolding flatten
bits_blocks i [] = none_turned i
bits_blocks i (b ∷ bs) =
    ap (turned_bits i) (bits_split b (flatten bs)) ∙ turned_append i (bits_of b) (bits_of (flatten bs)) ∙ ap (λ (l : List ℕ). block_bits i b ++ l) (bits_blocks i bs)

turned_size : (i : Bool) (l : List ℕ) → length (turned_bits i l) ≡ length l
unfolding turned_bits
turned_size i l = length-map l (turned_bit i)

pub bits_size : (i : Bool) (l : List ℕ) → length (turned_bits i (bits_of l)) ≡ 8 * length l
bits_size i l = turned_size i (bits_of l) ∙ length_bits l

sizes : (i : Bool) (bs : List (List ℕ)) → All (Length 204) bs → All (Length 1632) (map (block_bits i) bs)
sizes i [] g = tt
sizes i (b ∷ bs) g = (bits_size i b ∙ ap (λ (n : ℕ). 8 * n) g.0, sizes i bs g.1)

backs : (i : Bool) (bs : List (List ℕ)) → All (Length 204) bs → All Bytes bs → map (block_of i) (map (block_bits i) bs) ≡ bs
backs i [] g h = refl
backs i (b ∷ bs) g h = ap₂ (λ (x : List ℕ) (l : List (List ℕ)). x ∷ l) (block_back i b h.0 g.0) (backs i bs g.1 h.1)

pub blocks_back : (i : Bool) (bs : List (List ℕ)) → All (Length 204) bs → All Bytes bs → grid_blocks i (turned_bits i (bits_of (flatten bs))) ≡ bs
unfolding grid_blocks
blocks_back i bs g h =
    ap (λ (l : List ℕ). map (block_of i) (chunks_of 1632 l)) (bits_blocks i bs) ∙ ap (map (block_of i)) (chunks_joined 1632 (omega arith) (map (block_bits i) bs) (sizes i bs g)) ∙ backs i bs g h
