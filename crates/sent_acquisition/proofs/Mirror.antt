-- The sync bytes tell the mirror at 5/6, which no inner decoder can: where a stream has a sync byte, its mirrored reading has none.
-- Assumes nothing.
use mathlib.Core.Path.{◌≡◌, refl, ◌∙◌, ap, ap₂, subst}
use mathlib.Core.Bool.{Bool, true, false}
use mathlib.Core.List.{List, [], ◌∷◌}
use Prim.Native.Nat.{ℕ, zero, suc, ◌+◌, ◌*◌, ◌/◌, ◌%◌, ◌<◌, ◌≤◌}
use native.Mathlib.Omega.{arith}
use lib.Bits.{bit_xor}
use lib.Dec.{T, eqb}
use lib.ListN.{length, get_or}
use Rattle.common.specs.Choice.{pick}
use Rattle.common.proofs.Computed.{below, below_at}
use Rattle.convolutional_code.specs.Bits.{Bits}
use Rattle.convolutional_code.proofs.Bits.{bits_at}
use Rattle.puncturing.specs.Mode.{mode_of}
use Rattle.symbol_turns.proofs.Ambiguity.{flipped, memories, bits}
use Rattle.sync_search.specs.Sync.{byte_at}
use Rattle.block_sync.specs.Decision.{is_sync}

-- the bits of a mirrored reading, the first of them at a place of the pattern
abbrev pub mirror_read : ℕ → List ℕ → List ℕ
mirror_read p l = flipped 3 4 memories bits (λ q. 0) p l

-- the place in the pattern of a bit behind it
after : (p i : ℕ) → p < 5 → ((p + 1) % 5 + i) % 5 ≡ (p + suc i) % 5
after p i h = omega (arith, h)

mirror_at : (p : ℕ) → p < 5 → (l : List ℕ) → (i : ℕ) → i < length l → get_or (mirror_read p l) i 0 ≡ bit_xor (get_or l i 0) (bits ((p + i) % 5))
unfolding mode_of
mirror_at p h [] i g = absurd (omega (arith, g))
mirror_at p h (b ∷ l) zero g = let e : p ≡ (p + 0) % 5 = omega (arith, h) in ap (λ (q : ℕ). bit_xor b (bits q)) e
mirror_at p h (b ∷ l) (suc i) g = mirror_at ((p + 1) % 5) (omega arith) l i (omega (arith, g)) ∙ ap (λ (q : ℕ). bit_xor (get_or l i 0) (bits q)) (after p i h)

-- ---- a byte

-- whether a byte is a sync byte, and the byte of a mirrored reading, the first bit of it at a place of the pattern
abbrev sync : ℕ → Bool
sync v = pick (eqb v 0x47) true (eqb v 0xB8)

abbrev xored : ℕ → ℕ → ℕ
xored q v =
    128 * (bit_xor (v / 128 % 2) (bits ((q + 0) % 5)) % 2)
    + 64 * (bit_xor (v / 64 % 2) (bits ((q + 1) % 5)) % 2)
    + 32 * (bit_xor (v / 32 % 2) (bits ((q + 2) % 5)) % 2)
    + 16 * (bit_xor (v / 16 % 2) (bits ((q + 3) % 5)) % 2)
    + 8 * (bit_xor (v / 8 % 2) (bits ((q + 4) % 5)) % 2)
    + 4 * (bit_xor (v / 4 % 2) (bits ((q + 5) % 5)) % 2)
    + 2 * (bit_xor (v / 2 % 2) (bits ((q + 6) % 5)) % 2)
    + 1 * (bit_xor (v % 2) (bits ((q + 7) % 5)) % 2)

abbrev told : ℕ → ℕ → Bool
told q v = pick (sync v) (pick (sync (xored q v)) false true) true

all_told : T (below (λ q. below (told q) 256) 5)
all_told = tt

not_sync : (q v : ℕ) → q < 5 → v < 256 → sync v ≡ true → sync (xored q v) ≡ false
not_sync q v hq hv e = by (sync (xored q v)) (subst (λ (b : Bool). T (pick b (pick (sync (xored q v)) false true) true)) e (below_at (told q) 256 (below_at (λ q. below (told q) 256) 5 all_told q hq) v hv))
  where
    by : (b : Bool) → T (pick b false true) → b ≡ false
    by true t = absurd t
    by false t = refl

-- the digits of a byte
digits : (v a b c d e f g h : ℕ) → a < 2 → b < 2 → c < 2 → d < 2 → e < 2 → f < 2 → g < 2 → h < 2 → v ≡ 128 * a + 64 * b + 32 * c + 16 * d + 8 * e + 4 * f + 2 * g + h
    → (v / 128 % 2 ≡ a) × (v / 64 % 2 ≡ b) × (v / 32 % 2 ≡ c) × (v / 16 % 2 ≡ d) × (v / 8 % 2 ≡ e) × (v / 4 % 2 ≡ f) × (v / 2 % 2 ≡ g) × (v % 2 ≡ h)
digits v a b c d e f g h ha hb hc hd he hf hg hh s = (omega arith, omega arith, omega arith, omega arith, omega arith, omega arith, omega arith, omega arith)

-- the byte of a mirrored reading is that of the stream, xored
mirror_byte : (p : ℕ) → p < 5 → (l : List ℕ) → Bits l → (at : ℕ) → at + 8 ≤ length l → byte_at (mirror_read p l) at ≡ xored ((p + at) % 5) (byte_at l at)
unfolding byte_at
mirror_byte p hp l w at n =
    let d = digits (byte_at l at) (get_or l at 0 % 2) (get_or l (at + 1) 0 % 2) (get_or l (at + 2) 0 % 2) (get_or l (at + 3) 0 % 2) (get_or l (at + 4) 0 % 2) (get_or l (at + 5) 0 % 2) (get_or l (at + 6) 0 % 2) (get_or l (at + 7) 0 % 2) (omega arith) (omega arith) (omega arith) (omega arith) (omega arith) (omega arith) (omega arith) (omega arith) refl in
    omega (
      arith,
      place at 0 (omega arith) (omega arith) _ d.0,
      place (at + 1) 1 (omega arith) (omega arith) _ d.1,
      place (at + 2) 2 (omega arith) (omega arith) _ d.2,
      place (at + 3) 3 (omega arith) (omega arith) _ d.3,
      place (at + 4) 4 (omega arith) (omega arith) _ d.4,
      place (at + 5) 5 (omega arith) (omega arith) _ d.5,
      place (at + 6) 6 (omega arith) (omega arith) _ d.6,
      place (at + 7) 7 (omega arith) (omega arith) _ d.7,
    )
  where
    place : (i j : ℕ) → i ≡ at + j → j < 8 → (b : ℕ) → b ≡ get_or l i 0 % 2 → get_or (mirror_read p l) i 0 % 2 ≡ bit_xor b (bits (((p + at) % 5 + j) % 5)) % 2
    place i j q h b e =
        let x : get_or l i 0 ≡ b = omega (arith, e, bits_at w i) in
        let y : (p + i) % 5 ≡ ((p + at) % 5 + j) % 5 = omega (arith, hp, q) in
        ap (λ (z : ℕ). z % 2) (mirror_at p hp l i (omega (arith, n, q, h)) ∙ ap₂ (λ (c k : ℕ). bit_xor c (bits k)) x y)

byte_small : (l : List ℕ) (at : ℕ) → byte_at l at < 256
unfolding byte_at
byte_small l at = omega arith

-- Where a stream has a sync byte, straight or inverted, its mirrored reading has none. So of the two readings at 5/6 only the right one has the sync bytes of the
-- stream in their places.
pub mirror_seen : (p : ℕ) → p < 5 → (l : List ℕ) → Bits l → (at : ℕ) → at + 8 ≤ length l → is_sync l at ≡ true → is_sync (mirror_read p l) at ≡ false
unfolding is_sync
mirror_seen p hp l w at n e =
    ap sync (mirror_byte p hp l w at n) ∙ not_sync ((p + at) % 5) (byte_at l at) (omega arith) (byte_small l at) e
