-- Of any five sender's blocks in a row at most one begins with B8: so three of their sync bytes tell by their majority whether the bits are inverted.
-- Assumes nothing.
use mathlib.Core.Path.{◌≡◌, refl, ◌∙◌, ap, ap₂}
use mathlib.Core.Bool.{Bool, true, false}
use mathlib.Core.List.{List}
use Prim.Native.Nat.{ℕ, ◌+◌, ◌-◌, ◌*◌, ◌%◌, ◌≤◌, ◌<◌}
use native.Mathlib.Decide.{ℕ_discrete}
use native.Mathlib.Omega.{arith}
use borrow.Author.Tests.{eq-eqb, ne_eqb, lt-ltb, le-ltb}
use lib.Dec.{eqb, ltb}
use lib.ListN.{length, get_or, take, drop}
use lib.Seq.{get_or-take, get_or-drop}
use Rattle.common.specs.Choice.{pick, indicator}
use Rattle.sync_search.specs.Sync.{byte_at, is_at, count_at, sync_at}
use Rattle.block_sync.specs.Decision.{is_sync, three_at, polarity_at}
use Rattle.block_sync.specs.Grid.{sync_byte, turned_byte}

-- 1 where block n is the first of a group, else 0
abbrev pub starts : ℕ → ℕ
starts n = indicator (eqb (n % 8) 0)

starts_spec : (n : ℕ) → (starts n ≤ 1) × (8 * starts n + n % 8 ≤ 8)
starts_spec n = by (ℕ_discrete (n % 8) 0)
  where
    by : Dec (n % 8 ≡ 0) → (starts n ≤ 1) × (8 * starts n + n % 8 ≤ 8)
    by (yes e) = let s : starts n ≡ 1 = ap indicator (eq-eqb (n % 8) 0 e) in (omega arith, omega arith)
    by (no e) = let s : starts n ≡ 0 = ap indicator (ne_eqb (n % 8) 0 e) in (omega arith, omega arith)

-- two that are fewer than eight apart
pair : (n k : ℕ) → n < k → k < n + 8 → starts n + starts k ≤ 1
pair n k h g = go (n % 8) (k % 8) (starts n) (starts k) (λ x. far (n % 8) (k % 8) x) (starts_spec n) (starts_spec k)
  where
    far : (r t : ℕ) → (n % 8 ≡ 0) × (k % 8 ≡ 0) → ⊥
    far r t x = let a = x.0 in let b = x.1 in omega (arith, h, g)

    go : (r t a b : ℕ) → ((r ≡ 0) × (t ≡ 0) → ⊥) → (a ≤ 1) × (8 * a + r ≤ 8) → (b ≤ 1) × (8 * b + t ≤ 8) → a + b ≤ 1
    go r t a b f x y = by (ℕ_discrete a 1) (ℕ_discrete b 1)
      where
        by : Dec (a ≡ 1) → Dec (b ≡ 1) → a + b ≤ 1
        by (yes p) (yes q) = absurd (f (omega (arith, x.1), omega (arith, y.1)))
        by (yes p) (no q) = omega (arith, y.0)
        by (no p) q = omega (arith, x.0, y.0)

sum : (a s : ℕ) → a ≤ 1 → s ≤ 1 → (a ≡ 1 → s ≡ 0) → a + s ≤ 1
sum a s h g f = by (ℕ_discrete a 1)
  where
    by : Dec (a ≡ 1) → a + s ≤ 1
    by (yes e) = let z = f e in omega arith
    by (no n) = omega arith

-- any five in a row
pub five : (n : ℕ) → starts n + starts (n + 1) + starts (n + 2) + starts (n + 3) + starts (n + 4) ≤ 1
five n =
    go (starts n) (starts (n + 1)) (starts (n + 2)) (starts (n + 3)) (starts (n + 4)) (starts_spec n).0 (starts_spec (n + 1)).0 (starts_spec (n + 2)).0
    (pair n (n + 1) (omega arith) (omega arith)) (pair n (n + 2) (omega arith) (omega arith)) (pair n (n + 3) (omega arith) (omega arith)) (pair n (n + 4) (omega arith) (omega arith))
    (pair (n + 1) (n + 2) (omega arith) (omega arith)) (pair (n + 1) (n + 3) (omega arith) (omega arith)) (pair (n + 1) (n + 4) (omega arith) (omega arith))
    (pair (n + 2) (n + 3) (omega arith) (omega arith)) (pair (n + 2) (n + 4) (omega arith) (omega arith)) (pair (n + 3) (n + 4) (omega arith) (omega arith))
  where
    go : (a b c d e : ℕ) → a ≤ 1 → b ≤ 1 → c ≤ 1 → a + b ≤ 1 → a + c ≤ 1 → a + d ≤ 1 → a + e ≤ 1 → b + c ≤ 1 → b + d ≤ 1 → b + e ≤ 1 → c + d ≤ 1 → c + e ≤ 1 → d + e ≤ 1
        → a + b + c + d + e ≤ 1
    go a b c d e ha hb hc ab ac ad ae bc bd be cd ce de =
        let s : c + (d + e) ≤ 1 = sum c (d + e) hc de (λ x. omega (arith, x)) in
        let t : b + (c + (d + e)) ≤ 1 = sum b (c + (d + e)) hb s (λ x. omega (arith, x)) in
        let u : a + (b + (c + (d + e))) ≤ 1 = sum a (b + (c + (d + e))) ha t (λ x. omega (arith, x)) in
        same a b c d e u
      where
        same : (a b c d e : ℕ) → a + (b + (c + (d + e))) ≤ 1 → a + b + c + d + e ≤ 1
        same a b c d e u = omega arith

-- any three in a row
pub three_starts : (n : ℕ) → starts n + starts (n + 1) + starts (n + 2) ≤ 1
three_starts n = omega (arith, five n)

-- ---- the two sync bytes as they come

abbrev plain_count : Bool → ℕ → ℕ
plain_count inverted z = pick inverted z (1 - z)

abbrev odd_count : Bool → ℕ → ℕ
odd_count inverted z = pick inverted (1 - z) z

counts_by : (inverted : Bool) (n : ℕ) → (indicator (eqb (turned_byte inverted (sync_byte n)) 0x47) ≡ plain_count inverted (starts n))
    × (indicator (eqb (turned_byte inverted (sync_byte n)) 0xB8) ≡ odd_count inverted (starts n))
counts_by inverted n = by inverted (eqb (n % 8) 0)
  where
    by : (i t : Bool) → (indicator (eqb (turned_byte i (pick t 0xB8 0x47)) 0x47) ≡ plain_count i (indicator t)) × (indicator (eqb (turned_byte i (pick t 0xB8 0x47)) 0xB8) ≡ odd_count i (indicator t))
    by true true = (refl, refl)
    by true false = (refl, refl)
    by false true = (refl, refl)
    by false false = (refl, refl)

-- a sync byte at a place
unfoldable pub SyncHere : Bool → ℕ → List ℕ → ℕ → Type 0
SyncHere inverted n l at = byte_at l at ≡ turned_byte inverted (sync_byte n)

pub plain_is : (inverted : Bool) (n : ℕ) (l : List ℕ) (at : ℕ) → SyncHere inverted n l at → is_at l 0x47 at ≡ plain_count inverted (starts n)
unfolding is_at SyncHere
plain_is inverted n l at e = ap (λ (x : ℕ). indicator (eqb x 0x47)) e ∙ (counts_by inverted n).0

pub odd_is : (inverted : Bool) (n : ℕ) (l : List ℕ) (at : ℕ) → SyncHere inverted n l at → is_at l 0xB8 at ≡ odd_count inverted (starts n)
unfolding is_at SyncHere
odd_is inverted n l at e = ap (λ (x : ℕ). indicator (eqb x 0xB8)) e ∙ (counts_by inverted n).1

pub sync_is : (inverted : Bool) (n : ℕ) (l : List ℕ) (at : ℕ) → SyncHere inverted n l at → is_sync l at ≡ true
unfolding is_sync SyncHere
sync_is inverted n l at e = ap (λ (x : ℕ). pick (eqb x 0x47) true (eqb x 0xB8)) e ∙ by inverted (eqb (n % 8) 0)
  where
    by : (i t : Bool) → pick (eqb (turned_byte i (pick t 0xB8 0x47)) 0x47) true (eqb (turned_byte i (pick t 0xB8 0x47)) 0xB8) ≡ true
    by true true = refl
    by true false = refl
    by false true = refl
    by false false = refl

-- ---- the majority of three

decided : (i : Bool) (a b c : ℕ) (before : Bool) → a ≤ 1 → b ≤ 1 → c ≤ 1 → a + b + c ≤ 1
    → pick (eqb (plain_count i a + plain_count i b + plain_count i c + (odd_count i a + odd_count i b + odd_count i c)) 3) (ltb 1 (odd_count i a + odd_count i b + odd_count i c)) before ≡ i
decided true a b c before ha hb hc h =
    let o : 1 < 1 - a + (1 - b) + (1 - c) = omega arith in
    let e : a + b + c + (1 - a + (1 - b) + (1 - c)) ≡ 3 = omega arith in
    ap₂ (λ (s t : Bool). pick s t before) (eq-eqb (a + b + c + (1 - a + (1 - b) + (1 - c))) 3 e) (lt-ltb 1 (1 - a + (1 - b) + (1 - c)) o)
decided false a b c before ha hb hc h =
    let e : 1 - a + (1 - b) + (1 - c) + (a + b + c) ≡ 3 = omega arith in
    ap₂ (λ (s t : Bool). pick s t before) (eq-eqb (1 - a + (1 - b) + (1 - c) + (a + b + c)) 3 e) (le-ltb 1 (a + b + c) h)

-- Three sender's blocks in a row tell whether the bits are inverted, whatever was taken for it before.
pub majority : (inverted : Bool) (n : ℕ) (l : List ℕ) (at : ℕ) (before : Bool) → at + 3272 ≤ length l
    → SyncHere inverted n l at → SyncHere inverted (n + 1) l (at + 1632) → SyncHere inverted (n + 2) l (at + 3264) → polarity_at l at before ≡ inverted
unfolding polarity_at three_at
majority i n l at before h x y z =
    ap (λ (t : Bool). pick t before (pick (eqb (three_at l 0x47 at + three_at l 0xB8 at) 3) (ltb 1 (three_at l 0xB8 at)) before)) (le-ltb (length l) (at + 3272) h)
    ∙ rw (plain_is i n l at x, plain_is i (n + 1) l (at + 1632) y, plain_is i (n + 2) l (at + 3264) z, odd_is i n l at x, odd_is i (n + 1) l (at + 1632) y, odd_is i (n + 2) l (at + 3264) z)
    (decided i (starts n) (starts (n + 1)) (starts (n + 2)) before (starts_spec n).0 (starts_spec (n + 1)).0 (starts_spec (n + 2)).0 (three_starts n))

-- ---- five in a row are found

found : (i : Bool) (a b c d e : ℕ) → a ≤ 1 → b ≤ 1 → c ≤ 1 → d ≤ 1 → e ≤ 1 → a + b + c + d + e ≤ 1
    → let p = plain_count i a + plain_count i b + plain_count i c + plain_count i d + plain_count i e in
    let q = odd_count i a + odd_count i b + odd_count i c + odd_count i d + odd_count i e in
    pick (eqb (p + q) 5) (pick (ltb p 2) true (ltb q 2)) false ≡ true
found true a b c d e ha hb hc hd he h =
    let p : ℕ = a + b + c + d + e in
    let q : ℕ = 1 - a + (1 - b) + (1 - c) + (1 - d) + (1 - e) in
    let s : p + q ≡ 5 = omega arith in
    ap₂ (λ (x y : Bool). pick x (pick y true (ltb q 2)) false) (eq-eqb (p + q) 5 s) (lt-ltb p 2 (omega arith))
found false a b c d e ha hb hc hd he h =
    let q : ℕ = a + b + c + d + e in
    let p : ℕ = 1 - a + (1 - b) + (1 - c) + (1 - d) + (1 - e) in
    let s : p + q ≡ 5 = omega arith in
    ap₂ (λ (x y : Bool). pick x (pick (ltb p 2) true y) false) (eq-eqb (p + q) 5 s) (lt-ltb q 2 (omega arith)) ∙ or (ltb p 2)
  where
    or : (t : Bool) → pick t true true ≡ true
    or true = refl
    or false = refl

pub five_found : (inverted : Bool) (n : ℕ) (l : List ℕ) (at : ℕ) → SyncHere inverted n l at → SyncHere inverted (n + 1) l (at + 1632) → SyncHere inverted (n + 2) l (at + 3264)
    → SyncHere inverted (n + 3) l (at + 4896) → SyncHere inverted (n + 4) l (at + 6528) → sync_at l at ≡ true
unfolding sync_at count_at
five_found i n l at v w x y z =
    rw (
      plain_is i n l at v,
      plain_is i (n + 1) l (at + 1632) w,
      plain_is i (n + 2) l (at + 3264) x,
      plain_is i (n + 3) l (at + 4896) y,
      plain_is i (n + 4) l (at + 6528) z,
      odd_is i n l at v,
      odd_is i (n + 1) l (at + 1632) w,
      odd_is i (n + 2) l (at + 3264) x,
      odd_is i (n + 3) l (at + 4896) y,
      odd_is i (n + 4) l (at + 6528) z,
    )
    (found i (starts n) (starts (n + 1)) (starts (n + 2)) (starts (n + 3)) (starts (n + 4)) (starts_spec n).0 (starts_spec (n + 1)).0 (starts_spec (n + 2)).0 (starts_spec (n + 3)).0
    (starts_spec (n + 4)).0 (five n))

-- ---- the byte at a place of a part of the bits

pub byte_take : (m : ℕ) (l : List ℕ) (at : ℕ) → at + 8 ≤ m → byte_at (take m l) at ≡ byte_at l at
unfolding byte_at
byte_take m l at h =
    rw (get_or-take m l at 0 (omega arith), g 1 (omega arith), g 2 (omega arith), g 3 (omega arith), g 4 (omega arith), g 5 (omega arith), g 6 (omega arith), g 7 (omega arith)) refl
  where
    g : (i : ℕ) → i < 8 → get_or (take m l) (at + i) 0 ≡ get_or l (at + i) 0
    g i k = get_or-take m l (at + i) 0 (omega arith)

pub byte_drop : (m : ℕ) (l : List ℕ) (at : ℕ) → byte_at (drop m l) at ≡ byte_at l (m + at)
unfolding byte_at
byte_drop m l at = rw (g 1, g 2, g 3, g 4, g 5, g 6, g 7, get_or-drop m l at 0) refl
  where
    g : (i : ℕ) → get_or (drop m l) (at + i) 0 ≡ get_or l (m + at + i) 0
    g i = let e : m + (at + i) ≡ m + at + i = omega arith in get_or-drop m l (at + i) 0 ∙ ap (λ (k : ℕ). get_or l k 0) e
