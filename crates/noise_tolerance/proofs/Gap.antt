-- A stretch of steps that tell nothing: between steps a and b weights count for nothing, and a path of differences climbs before and behind them only.
-- Assumes nothing.
use mathlib.Core.Path.{◌≡◌, refl, ap}
use mathlib.Core.Bool.{true, false}
use mathlib.Core.Logic.{◌⊎◌, inl, inr}
use Prim.Native.Nat.{ℕ, zero, suc, ◌+◌, ◌-◌, ◌*◌, ◌≤◌, ◌<◌}
use native.Mathlib.Decide.{dec_le, dec_lt}
use native.Mathlib.Nat.{add-zero, mul-add, mul-le-mul_left}
use native.Mathlib.Omega.{arith}
use borrow.Author.Tests.{lt-ltb, le-ltb}
use lib.Dec.{ltb}
use Rattle.common.specs.Choice.{pick}
use Rattle.convolutional_code.specs.Code.{next_memory}
use Rattle.convolutional_code.specs.Costs.{Costs}
use Rattle.noise_tolerance.proofs.Difference.{unlike, difference}
use Rattle.noise_tolerance.proofs.Exchange.{climb, Potentials, Tells}

module _ (a b : ℕ) (order : a ≤ b) where
  -- by the place of a step: before the gap, within it, behind it
  abbrev pub placed : {A : Type 0} → ℕ → A → A → A → A
  placed k x y z = pick (ltb k a) x (pick (ltb k b) y z)

  pub data Place (k : ℕ) : Type 0 where
    before : k < a → ltb k a ≡ true → Place k
    within : a ≤ k → k < b → ltb k a ≡ false → ltb k b ≡ true → Place k
    behind : b ≤ k → ltb k a ≡ false → ltb k b ≡ false → Place k

  pub place : (k : ℕ) → Place k
  place k = by (dec_lt k a) (dec_lt k b)
    where
      by : Dec (k < a) → Dec (k < b) → Place k
      by (yes l) d = before l (lt-ltb k a l)
      by (no l) (yes m) = within (omega arith) m (le-ltb k a (omega arith)) (lt-ltb k b m)
      by (no l) (no m) = behind (omega arith) (le-ltb k a (omega arith)) (le-ltb k b (omega arith))

  -- steps within the gap do not rise
  abbrev pub rise_past : ℕ → ℕ → ℕ
  rise_past r k = placed k r 0 r

  -- how far a path climbs that begins before the end of the gap and ends behind its start
  pub climb_before : (r n k : ℕ) → k + n ≤ a → climb (rise_past r) k n ≡ r * n
  climb_before r zero k h = omega arith
  climb_before r (suc n) k h = rw (lt-ltb k a (omega arith)) (omega (arith, climb_before r n (suc k) (omega arith)))

  climb_behind : (r n k : ℕ) → b ≤ k → climb (rise_past r) k n ≡ r * n
  climb_behind r zero k h = omega arith
  climb_behind r (suc n) k h = rw (le-ltb k a (omega arith), le-ltb k b h) (omega (arith, climb_behind r n (suc k) (omega arith)))

  climb_add : (f : ℕ → ℕ) (n o k : ℕ) → climb f k (n + o) ≡ climb f k n + climb f (k + n) o
  climb_add f zero o k = let e : 0 + o ≡ o = omega arith in rw (e, add-zero k) (omega arith)
  climb_add f (suc n) o k =
      let e : suc n + o ≡ suc (n + o) = omega arith in
      let g : suc k + n ≡ k + suc n = omega arith in
      rw e (omega (arith, climb_add f n o (suc k), ap (λ (j : ℕ). climb f j o) g))

  climb_end : (r n k : ℕ) → k ≤ b → r * (k + n - b) ≤ climb (rise_past r) k n
  climb_end r n k start = by (dec_le b k) (dec_le (k + n) b)
    where
      by : Dec (b ≤ k) → Dec (k + n ≤ b) → r * (k + n - b) ≤ climb (rise_past r) k n
      by (yes h) d =
          let l : k + n - b ≤ n = omega arith in
          omega (arith, climb_behind r n k h, mul-le-mul_left r l)
      by (no h) (yes d) = let z : k + n - b ≡ 0 = omega arith in rw z (omega arith)
      by (no h) (no d) =
          let i : ℕ = b - k in
          let o : ℕ = k + n - b in
          let e : n ≡ i + o = omega arith in
          let g : k + i ≡ b = omega arith in
          omega (
            arith,
            ap (climb (rise_past r) k) e,
            climb_add (rise_past r) i o k,
            ap (λ (x : ℕ). climb (rise_past r) x o) g,
            climb_behind r o b (omega arith),
          )

  pub climb_past : (r n k : ℕ) → k ≤ b → a < k + n → r * (a - k + (k + n - b)) ≤ climb (rise_past r) k n
  climb_past r n k start h = by (dec_le a k)
    where
      by : Dec (a ≤ k) → r * (a - k + (k + n - b)) ≤ climb (rise_past r) k n
      by (yes l) = let z : a - k + (k + n - b) ≡ k + n - b = omega arith in rw z (climb_end r n k start)
      by (no l) =
          let i : ℕ = a - k in
          let o : ℕ = k + n - a in
          let e : n ≡ i + o = omega arith in
          let g : k + i ≡ a = omega arith in
          let j : k + n - b ≡ a + o - b = omega arith in
          omega (
            arith,
            ap (climb (rise_past r) k) e,
            climb_add (rise_past r) i o k,
            ap (λ (x : ℕ). climb (rise_past r) x o) g,
            climb_before r i k (omega arith),
            climb_end r o a order,
            ap (λ (x : ℕ). r * x) j,
            mul-add r i (k + n - b),
          )

  -- ---- weights that count outside the gap only

  module _ (F G w : Costs) (heavy : ℕ) (lightly : (k d z : ℕ) → w k d z ≤ heavy)
      (any : (k s t x y : ℕ) → x < 2 → y < 2 → F k s x ≤ F k t y + G k s x)
      (outside : (k s t x y : ℕ) → s < 64 → t < 64 → x < 2 → y < 2 → (k < a) ⊎ (b ≤ k) → w k (difference s t) (unlike x y) + F k s x ≤ F k t y + G k s x) where
    abbrev pub weight_past : Costs
    weight_past k d z = placed k (w k d z) 0 (w k d z)

    -- with the heaviest weight as a doubt of each step within, they count everywhere
    abbrev pub doubt_full : Costs
    doubt_full k m x = G k m x + placed k 0 heavy 0

    pub tells_past : Tells F G weight_past
    tells_past k s t x y hs ht hx hy = by (place k)
      where
        by : Place k → weight_past k (difference s t) (unlike x y) + F k s x ≤ F k t y + G k s x
        by (before h e) = rw e (outside k s t x y hs ht hx hy (inl h))
        by (within h l e f) = rw (e, f) (omega (arith, any k s t x y hx hy))
        by (behind h e f) = rw (e, f) (outside k s t x y hs ht hx hy (inr h))

    pub tells_full : Tells F doubt_full w
    tells_full k s t x y hs ht hx hy = by (place k)
      where
        by : Place k → w k (difference s t) (unlike x y) + F k s x ≤ F k t y + doubt_full k s x
        by (before h e) = rw e (omega (arith, outside k s t x y hs ht hx hy (inl h)))
        by (within h l e f) = rw (e, f) (omega (arith, any k s t x y hx hy, lightly k (difference s t) (unlike x y)))
        by (behind h e f) = rw (e, f) (omega (arith, outside k s t x y hs ht hx hy (inr h)))

    module _ (home growth : ℕ → ℕ → ℕ) (free slope r lead lag : ℕ) (p : Potentials w home growth free slope (λ k. r) lead lag)
        (top : ℕ) (topmost : (k d : ℕ) → growth k d ≤ top) where
      -- within the gap a path can fall behind as far as any
      abbrev pub growth_past : ℕ → ℕ → ℕ
      growth_past k d = placed k (growth k d + top) top (growth k d)

      abbrev pub lag_past : ℕ
      lag_past = lag + top

      next_most : (k d : ℕ) → a ≤ k → growth_past k d ≤ top
      next_most k d h = by (place k)
        where
          by : Place k → growth_past k d ≤ top
          by (before l e) = absurd (omega arith)
          by (within l m e f) = rw (e, f) (omega arith)
          by (behind l e f) = rw (e, f) (topmost k d)

      pub next_any : (k d : ℕ) → growth_past k d ≤ growth k d + top
      next_any k d = by (place k)
        where
          by : Place k → growth_past k d ≤ growth k d + top
          by (before l e) = rw e (omega arith)
          by (within l m e f) = rw (e, f) (omega arith)
          by (behind l e f) = rw (e, f) (omega arith)

      next_behind : (k d : ℕ) → b ≤ k → growth_past k d ≡ growth k d
      next_behind k d h = rw (le-ltb k a (omega arith), le-ltb k b h)

      pub potentials_past : Potentials weight_past (λ k d. 0) growth_past 0 slope (rise_past r) 0 lag_past
      potentials_past = record {
        at_home = λ k. refl;
        homeward = λ k d z h l c. omega arith;
        growing = λ k d z h l c. grows k d z h l c (place k);
        leaving = λ k. omega arith;
        starting = λ k. starts k (place k);
      }
        where
          grows : (k d z : ℕ) → 0 < d → d < 64 → z < 2 → Place k
              → rise_past r k + growth_past (suc k) (next_memory d z) ≤ slope * weight_past k d z + growth_past k d
          grows k d z h l c (before m e) = rw e (omega (arith, next_any (suc k) (next_memory d z), p.growing k d z h l c))
          grows k d z h l c (within m o e f) = rw (e, f) (omega (arith, next_most (suc k) (next_memory d z) (omega arith)))
          grows k d z h l c (behind m e f) = rw (e, f) (omega (arith, next_behind (suc k) (next_memory d z) (omega arith), p.growing k d z h l c))

          starts : (k : ℕ) → Place k → rise_past r k + 0 + growth_past (suc k) 32 ≤ slope * weight_past k 0 1 + lag_past
          starts k (before m e) = rw e (omega (arith, next_any (suc k) 32, p.starting k))
          starts k (within m o e f) = rw (e, f) (omega (arith, next_most (suc k) 32 (omega arith)))
          starts k (behind m e f) = rw (e, f) (omega (arith, next_behind (suc k) 32 (omega arith), p.starting k))
