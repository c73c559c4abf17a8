-- The test for sync bytes by their counts; places that were passed; inverted bits have their sync bytes at the same places.
-- Assumes nothing.
use mathlib.Core.Path.{◌≡◌, refl, sym, ◌∙◌, ap, ap₂}
use mathlib.Core.Bool.{Bool, true, false}
use mathlib.Core.List.{List, map}
use Prim.Native.Nat.{ℕ, ◌+◌, ◌-◌, ◌*◌, ◌%◌, ◌≤◌, ◌<◌}
use native.Mathlib.Decide.{ℕ_discrete}
use native.Mathlib.Omega.{arith}
use borrow.Author.Tests.{eq-eqb, ne_eqb, lt-ltb, le-ltb}
use lib.Dec.{eqb, ltb}
use lib.ListN.{length, get_or}
use Rattle.common.specs.Choice.{pick, indicator}
use Rattle.common.proofs.Lists.{get_d_map_in}
use Rattle.sync_search.specs.Sync.{byte_at, is_at, count_at, sync_at, Enough}

-- the test by how many are 47 and how many B8
abbrev pub sync_by : ℕ → ℕ → Bool
sync_by p i = pick (eqb (p + i) 5) (pick (ltb p 2) true (ltb i 2)) false

pub sync_by_lem : (l : List ℕ) (at p i : ℕ) → p ≡ count_at l 0x47 at → i ≡ count_at l 0xB8 at → sync_at l at ≡ sync_by p i
unfolding sync_at
sync_by_lem l at p i e f = ap₂ sync_by (sym e) (sym f)

pub by_not : (p i : ℕ) → (p + i ≡ 5 → ⊥) → sync_by p i ≡ false
by_not p i n = rw (ne_eqb (p + i) 5 n) refl

pub by_few : (p i : ℕ) → p + i ≡ 5 → p < 2 → sync_by p i ≡ true
by_few p i e h = rw (eq-eqb (p + i) 5 e, lt-ltb p 2 h) refl

pub by_other : (p i : ℕ) → p + i ≡ 5 → 2 ≤ p → sync_by p i ≡ ltb i 2
by_other p i e h = rw (eq-eqb (p + i) 5 e, le-ltb p 2 h) refl

-- places that were passed
abbrev pub Passed : List ℕ → ℕ → ℕ → Type 0
Passed l from at = (q : ℕ) → from ≤ q → q < at → sync_at l q ≡ false

-- ---- a half turn of the carrier

-- every bit inverted
abbrev pub inverted : List ℕ → List ℕ
inverted l = map (λ b. 1 - b % 2) l

bit_inverted : (l : List ℕ) (i : ℕ) → i < length l → get_or (inverted l) i 0 % 2 + get_or l i 0 % 2 ≡ 1
bit_inverted l i h = ap (λ (b : ℕ). b % 2 + get_or l i 0 % 2) (get_d_map_in (λ b. 1 - b % 2) l 0 0 i h) ∙ low (get_or l i 0)
  where
    low : (b : ℕ) → (1 - b % 2) % 2 + b % 2 ≡ 1
    low b = omega arith

eight : (a b c d e f g h a' b' c' d' e' f' g' h' : ℕ) → a + a' ≡ 1 → b + b' ≡ 1 → c + c' ≡ 1 → d + d' ≡ 1 → e + e' ≡ 1 → f + f' ≡ 1 → g + g' ≡ 1 → h + h' ≡ 1
    → 128 * a + 64 * b + 32 * c + 16 * d + 8 * e + 4 * f + 2 * g + h + (128 * a' + 64 * b' + 32 * c' + 16 * d' + 8 * e' + 4 * f' + 2 * g' + h') ≡ 255
eight a b c d e f g h a' b' c' d' e' f' g' h' p q r s t u v w = omega arith

pub byte_inverted : (l : List ℕ) (at : ℕ) → at + 8 ≤ length l → byte_at (inverted l) at + byte_at l at ≡ 255
unfolding byte_at
byte_inverted l at h =
    eight _ _ _ _ _ _ _ _ _ _ _ _ _ _ _ _ (bit_inverted l at (omega arith)) (bit_inverted l (at + 1) (omega arith)) (bit_inverted l (at + 2) (omega arith)) (bit_inverted l (at + 3) (omega arith))
    (bit_inverted l (at + 4) (omega arith)) (bit_inverted l (at + 5) (omega arith)) (bit_inverted l (at + 6) (omega arith)) (bit_inverted l (at + 7) (omega arith))

-- one sync byte becomes the other, and no other byte becomes one
is_inverted : (l : List ℕ) (v w at : ℕ) → v + w ≡ 255 → at + 8 ≤ length l → is_at (inverted l) v at ≡ is_at l w at
unfolding is_at
is_inverted l v w at s h = by (ℕ_discrete (byte_at l at) w)
  where
    b : byte_at (inverted l) at + byte_at l at ≡ 255
    b = byte_inverted l at h

    by : Dec (byte_at l at ≡ w) → indicator (eqb (byte_at (inverted l) at) v) ≡ indicator (eqb (byte_at l at) w)
    by (yes e) = ap indicator (eq-eqb (byte_at (inverted l) at) v (omega (arith, b)) ∙ sym (eq-eqb (byte_at l at) w e))
    by (no n) = ap indicator (ne_eqb (byte_at (inverted l) at) v (λ e. n (omega (arith, b))) ∙ sym (ne_eqb (byte_at l at) w n))

count_inverted : (l : List ℕ) (v w at : ℕ) → v + w ≡ 255 → Enough l at → count_at (inverted l) v at ≡ count_at l w at
unfolding count_at
count_inverted l v w at s h =
    omega (
      arith,
      is_inverted l v w at s (omega arith),
      is_inverted l v w (at + 1632) s (omega arith),
      is_inverted l v w (at + 3264) s (omega arith),
      is_inverted l v w (at + 4896) s (omega arith),
      is_inverted l v w (at + 6528) s (omega arith),
    )

-- bits that are all inverted have their sync bytes where they had them, whatever they are
pub sync_inverted : (l : List ℕ) (at : ℕ) → Enough l at → sync_at (inverted l) at ≡ sync_at l at
sync_inverted l at h =
    sync_by_lem (inverted l) at (count_at l 0xB8 at) (count_at l 0x47 at) (sym (count_inverted l 0x47 0xB8 at refl h)) (sym (count_inverted l 0xB8 0x47 at refl h))
    ∙ (by (count_at l 0x47 at) (count_at l 0xB8 at) ∙ sym (sync_by_lem l at (count_at l 0x47 at) (count_at l 0xB8 at) refl refl))
  where
    by : (p i : ℕ) → sync_by i p ≡ sync_by p i
    by p i = let c : i + p ≡ p + i = omega arith in ap (λ (n : ℕ). pick (eqb n 5) (pick (ltb i 2) true (ltb p 2)) false) c ∙ ap (λ (t : Bool). pick (eqb (p + i) 5) t false) (or (ltb i 2) (ltb p 2))
      where
        or : (s t : Bool) → pick s true t ≡ pick t true s
        or true true = refl
        or true false = refl
        or false true = refl
        or false false = refl
