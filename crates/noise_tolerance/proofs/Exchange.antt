-- A best sequence agrees with the one that was sent, up to the last few bits, where what was received is doubtful about the sent one only sparsely.
-- By exchange: where the two part and meet again, the stretch of the best one costs no more than that of the sent one, so the doubt in it is at least its
-- weight; and a stretch weighs more than so sparse a doubt, by potentials of the differences.
-- Assumes nothing.
use mathlib.Core.Path.{◌≡◌, refl, sym, ◌∙◌, ap, ap₂, subst}
use mathlib.Core.List.{List, [], ◌∷◌, ◌++◌}
use Prim.Native.Nat.{ℕ, zero, suc, ◌+◌, ◌-◌, ◌*◌, ◌/◌, ◌%◌, ◌≤◌, ◌<◌}
use native.Mathlib.Decide.{ℕ_discrete, dec_le}
use native.Mathlib.Nat.{div-add-mod, mod-lt, mul-le-mul_left, mul-le-mul_right, add-zero}
use native.Mathlib.Omega.{arith}
use lib.ListN.{length, take, drop, length-append}
use lib.Seq.{take-length, take-add, take_at, drop-drop}
use Rattle.convolutional_code.specs.Bits.{Bits, none, more}
use Rattle.convolutional_code.specs.Code.{next_memory, memory_after}
use Rattle.convolutional_code.proofs.Bits.{bits_tail, bits_append, next_lt}
use Rattle.convolutional_code.specs.Costs.{Costs, cost_from}
use Rattle.viterbi_decoder.proofs.Order.{bits_head}
use Rattle.reader.proofs.Costs.{bits_front}
use Rattle.reader.proofs.Streams.{memory_append}
use Rattle.noise_tolerance.proofs.Difference.{unlike, difference}
use Rattle.noise_tolerance.proofs.SparseSteps.{Sparse}
use Rattle.noise_tolerance.proofs.Linear.{difference_next, difference_same, difference_none, difference_lt, difference_parted, unlike_parted}

-- ---- parts of a list of bits

pub bits_back : (a b : List ℕ) → Bits (a ++ b) → Bits b
bits_back [] b w = w
bits_back (x ∷ a) b (more h w) = bits_back a b w

pub memory_lt : (m : ℕ) → m < 64 → {xs : List ℕ} → Bits xs → memory_after m xs < 64
unfolding memory_after
memory_lt m h none = h
memory_lt m h (more {b} q w) = memory_lt (next_memory m b) (next_lt m b h q) w

-- ---- sums along a path

pub cost_append : (F : Costs) (k m : ℕ) (a b : List ℕ) → cost_from F k m (a ++ b) ≡ cost_from F k m a + cost_from F (k + length a) (memory_after m a) b
unfolding cost_from memory_after
cost_append F k m [] b = rw (add-zero k) (omega arith)
cost_append F k m (x ∷ a) b =
    let e : suc k + length a ≡ k + suc (length a) = omega arith in
    let ih = cost_append F (suc k) (next_memory m x) a b in
    let f = ap (λ (j : ℕ). cost_from F j (memory_after (next_memory m x) a) b) e in
    omega arith

-- the first bits cost no more than some of them and then so many of the others
cost_split : (F : Costs) (n l k m : ℕ) (xs : List ℕ)
    → cost_from F k m (take l xs) ≤ cost_from F k m (take n xs) + cost_from F (k + n) (memory_after m (take n xs)) (take (l - n) (drop n xs))
unfolding cost_from memory_after
cost_split F zero l k m xs =
    let e : k + 0 ≡ k = omega arith in
    let f : l - 0 ≡ l = omega arith in
    rw (e, f) (omega arith)
cost_split F (suc n) zero k m xs = omega arith
cost_split F (suc n) (suc l) k m [] = omega arith
cost_split F (suc n) (suc l) k m (x ∷ xs) =
    let e : suc k + n ≡ k + suc n = omega arith in
    let f : l - n ≡ suc l - suc n = omega arith in
    let ih = cost_split F n l (suc k) (next_memory m x) xs in
    let g = ap₂ (λ (j i : ℕ). cost_from F j (memory_after (next_memory m x) (take n xs)) (take i (drop n xs))) e f in
    omega arith

-- ---- sparse costs

pub sparse_drop : (F : Costs) (w t : ℕ) (n k m : ℕ) (xs : List ℕ) → Sparse F w t k m xs → Sparse F w t (k + n) (memory_after m (take n xs)) (drop n xs)
unfolding Sparse
sparse_drop F w t n k m xs h i =
    let a : k + n + i ≡ k + (n + i) = omega arith in
    let b : memory_after (memory_after m (take n xs)) (take i (drop n xs)) ≡ memory_after m (take (n + i) xs) =
    sym (memory_append m (take n xs) (take i (drop n xs))) ∙ ap (memory_after m) (sym (take-add n i xs)) in
    rw (a, b, drop-drop i n xs) (h (n + i))

pub sparse_tail : (F : Costs) (w t : ℕ) (k m x : ℕ) (xs : List ℕ) → Sparse F w t k m (x ∷ xs) → Sparse F w t (suc k) (next_memory m x) xs
unfolding Sparse memory_after
sparse_tail F w t k m x xs h i =
    let a : suc k + i ≡ k + suc i = omega arith in
    rw a (h (suc i))

-- so many windows cost at most so many times as much
pub sparse_windows : (F : Costs) (w t q l k m : ℕ) (xs : List ℕ) → Sparse F w t k m xs → l ≤ w * q → cost_from F k m (take l xs) ≤ t * q
unfolding cost_from Sparse memory_after
sparse_windows F w t zero zero k m xs h le = omega arith
sparse_windows F w t zero (suc l) k m xs h le = absurd (omega arith)
sparse_windows F w t (suc q) l k m xs h le =
    let one : cost_from F k m (take w xs) ≤ t = rw (add-zero k) at (h 0) in
    let rest = sparse_windows F w t q (l - w) (k + w) (memory_after m (take w xs)) (drop w xs) (sparse_drop F w t w k m xs h) (omega arith) in
    omega (arith, cost_split F w l k m xs)

-- ---- weights, and their potentials

-- the sum of what n steps from step k on rise by
abbrev pub climb : (ℕ → ℕ) → ℕ → ℕ → ℕ
climb rise k zero = 0
climb rise k (suc n) = rise k + climb rise (suc k) n

pub climb_even : (r k n : ℕ) → climb (λ j. r) k n ≡ r * n
climb_even r k zero = omega arith
climb_even r k (suc n) = omega (arith, climb_even r (suc k) n)

-- What is asked of the weights of differences: on the way home to no difference there is at least `home` of weight left, and from leaving it to being back
-- at least `free`; and a path of n steps that does not come home, of which step k rises by `rise k`, has weight v with climb + lead ≤ slope * v + lag.
pub record Potentials (w : Costs) (home growth : ℕ → ℕ → ℕ) (free slope : ℕ) (rise : ℕ → ℕ) (lead lag : ℕ) : Type 0 where
  pub at_home : (k : ℕ) → home k 0 ≡ 0
  pub homeward : (k d z : ℕ) → 0 < d → d < 64 → z < 2 → home k d ≤ w k d z + home (suc k) (next_memory d z)
  pub growing : (k d z : ℕ) → 0 < d → d < 64 → z < 2 → rise k + growth (suc k) (next_memory d z) ≤ slope * w k d z + growth k d
  pub leaving : (k : ℕ) → free ≤ w k 0 1 + home (suc k) 32
  pub starting : (k : ℕ) → rise k + lead + growth (suc k) 32 ≤ slope * w k 0 1 + lag

-- what is received tells two bits apart: against the sent bit, another one costs at least the weight of the difference more, but for the doubt
abbrev pub Tells : Costs → Costs → Costs → Type 0
Tells F G w = (k s t x y : ℕ) → s < 64 → t < 64 → x < 2 → y < 2 → w k (difference s t) (unlike x y) + F k s x ≤ F k t y + G k s x

-- two sequences from two memories on are never at one memory in their first n steps
abbrev pub Apart : ℕ → ℕ → List ℕ → List ℕ → ℕ → Type 0
Apart s t xs ys n = (i : ℕ) → i < n → memory_after s (take i xs) ≡ memory_after t (take i ys) → ⊥

module _ (F G w : Costs) (tells : Tells F G w) (home growth : ℕ → ℕ → ℕ) (free slope : ℕ) (rise : ℕ → ℕ) (lead lag : ℕ)
    (p : Potentials w home growth free slope rise lead lag) where
  -- two sequences from two memories on: they meet, or they never do; the weight v of their difference so far
  pub data Scan (k s t : ℕ) (xs ys : List ℕ) : Type 0 where
    meets : (a b c d : List ℕ) (v : ℕ) → xs ≡ a ++ c → ys ≡ b ++ d → length a ≡ length b → memory_after s a ≡ memory_after t b
        → home k (difference s t) ≤ v → climb rise k (length a) ≤ slope * v + growth k (difference s t)
        → v + cost_from F k s a ≤ cost_from F k t b + cost_from G k s a → Apart s t xs ys (length a) → Scan k s t xs ys
    parts : (v : ℕ) → climb rise k (length xs) ≤ slope * v + growth k (difference s t) → v + cost_from F k s xs ≤ cost_from F k t ys + cost_from G k s xs
        → (memory_after s xs ≡ memory_after t ys → ⊥) → Apart s t xs ys (length xs) → Scan k s t xs ys

  met : (k s t : ℕ) (xs ys : List ℕ) → s ≡ t → Scan k s t xs ys
  unfolding cost_from memory_after
  met k s t xs ys e =
      let z : difference s t ≡ 0 = ap (difference s) (sym e) ∙ difference_same s in
      let h : home k (difference s t) ≡ 0 = ap (home k) z ∙ p.at_home k in
      meets [] [] xs ys 0 refl refl refl e (omega arith) (omega arith) (omega arith) (λ i l. absurd (omega arith))

  apart : (s t : ℕ) → s < 64 → t < 64 → (s ≡ t → ⊥) → 0 < difference s t
  apart s t hs ht n = by (difference s t) refl
    where
      by : (d : ℕ) → difference s t ≡ d → 0 < d
      by zero e = absurd (n (difference_none s t hs ht e))
      by (suc d) e = omega arith

  apart_more : (s t x y : ℕ) (xs ys : List ℕ) (n : ℕ) → (s ≡ t → ⊥) → Apart (next_memory s x) (next_memory t y) xs ys n → Apart s t (x ∷ xs) (y ∷ ys) (suc n)
  unfolding memory_after
  apart_more s t x y xs ys n d h zero l = d
  apart_more s t x y xs ys n d h (suc i) l = h i (omega arith)

  one_more : (k s t x y : ℕ) (xs ys : List ℕ) → s < 64 → t < 64 → x < 2 → y < 2 → (s ≡ t → ⊥) → Scan (suc k) (next_memory s x) (next_memory t y) xs ys
      → Scan k s t (x ∷ xs) (y ∷ ys)
  unfolding cost_from memory_after
  one_more k s t x y xs ys hs ht hx hy n (meets a b c d v e f l q h g r o) =
      let u : ℕ = w k (difference s t) (unlike x y) in
      let next = difference_next s t x y hs ht hx hy in
      let pos = apart s t hs ht n in
      let z : unlike x y < 2 = omega arith in
      let h' = p.homeward k (difference s t) (unlike x y) pos (difference_lt s t) z in
      let g' = p.growing k (difference s t) (unlike x y) pos (difference_lt s t) z in
      let h'' = rw next at h in
      let g'' = rw next at g in
      let r' = tells k s t x y hs ht hx hy in
      meets (x ∷ a) (y ∷ b) c d (u + v) (ap (λ (o : List ℕ). x ∷ o) e) (ap (λ (o : List ℕ). y ∷ o) f) (omega arith) q
      (omega (arith, h', h'')) (omega (arith, g', g'')) (omega (arith, r, r')) (apart_more s t x y xs ys (length a) n o)
  one_more k s t x y xs ys hs ht hx hy n (parts v g r o far) =
      let u : ℕ = w k (difference s t) (unlike x y) in
      let next = difference_next s t x y hs ht hx hy in
      let pos = apart s t hs ht n in
      let z : unlike x y < 2 = omega arith in
      let g' = p.growing k (difference s t) (unlike x y) pos (difference_lt s t) z in
      let g'' = rw next at g in
      let r' = tells k s t x y hs ht hx hy in
      parts (u + v) (omega (arith, g', g'')) (omega (arith, r, r')) o (apart_more s t x y xs ys (length xs) n far)

  pub scan : (k s t : ℕ) (xs ys : List ℕ) → s < 64 → t < 64 → Bits xs → Bits ys → length xs ≡ length ys → Scan k s t xs ys
  unfolding cost_from memory_after
  scan k s t [] [] hs ht v u l = by (ℕ_discrete s t)
    where
      by : Dec (s ≡ t) → Scan k s t [] []
      by (yes e) = met k s t [] [] e
      by (no n) = parts 0 (omega arith) (omega arith) n (λ i l. absurd (omega arith))
  scan k s t [] (y ∷ ys) hs ht v u l = absurd (omega arith)
  scan k s t (x ∷ xs) [] hs ht v u l = absurd (omega arith)
  scan k s t (x ∷ xs) (y ∷ ys) hs ht v u l =
      by (ℕ_discrete s t)
      (scan (suc k) (next_memory s x) (next_memory t y) xs ys (next_lt s x hs (bits_head v)) (next_lt t y ht (bits_head u)) (bits_tail v) (bits_tail u) (omega arith))
    where
      by : Dec (s ≡ t) → Scan (suc k) (next_memory s x) (next_memory t y) xs ys → Scan k s t (x ∷ xs) (y ∷ ys)
      by (yes e) r = met k s t (x ∷ xs) (y ∷ ys) e
      by (no n) r = one_more k s t x y xs ys hs ht (bits_head v) (bits_head u) n r

  -- ---- the free distance

  no_less : (k s t : ℕ) (xs ys : List ℕ) → s < 64 → t < 64 → Bits xs → Bits ys → length xs ≡ length ys → cost_from F k s xs ≤ cost_from F k t ys + cost_from G k s xs
  unfolding cost_from
  no_less k s t [] [] hs ht v u l = omega arith
  no_less k s t [] (y ∷ ys) hs ht v u l = absurd (omega arith)
  no_less k s t (x ∷ xs) [] hs ht v u l = absurd (omega arith)
  no_less k s t (x ∷ xs) (y ∷ ys) hs ht v u l =
      omega (
        arith,
        tells k s t x y hs ht (bits_head v) (bits_head u),
        no_less (suc k) (next_memory s x) (next_memory t y) xs ys (next_lt s x hs (bits_head v)) (next_lt t y ht (bits_head u)) (bits_tail v) (bits_tail u) (omega arith),
      )

  -- of two sequences that part, and lead to one memory, the other one costs more than the sent one by the free distance, but for the doubt
  module _ (k m x y : ℕ) (xs ys : List ℕ) (hm : m < 64) (hx : x < 2) (hy : y < 2) (n : x ≡ y → ⊥) (vx : Bits xs) (vy : Bits ys) (l : length xs ≡ length ys)
      (one : memory_after (next_memory m x) xs ≡ memory_after (next_memory m y) ys) where
    parted_far : Scan (suc k) (next_memory m x) (next_memory m y) xs ys → free + cost_from F k m (x ∷ xs) ≤ cost_from F k m (y ∷ ys) + cost_from G k m (x ∷ xs)
    unfolding cost_from memory_after
    parted_far (parts v g r o far) = absurd (o one)
    parted_far (meets a b c d v e f o q h g r far) =
        let h' : home (suc k) 32 ≤ v = rw (difference_parted m x y hm hx hy n) at h in
        let first : w k 0 1 + F k m x ≤ F k m y + G k m x = rw (difference_same m, unlike_parted x y hx hy n) at (tells k m m x y hm hm hx hy) in
        let i : ℕ = suc k + length a in
        let p' : ℕ = memory_after (next_memory m x) a in
        let va : Bits a = bits_front a c (subst Bits e vx) in
        let vc : Bits c = bits_back a c (subst Bits e vx) in
        let vd : Bits d = bits_back b d (subst Bits f vy) in
        let cx : cost_from F (suc k) (next_memory m x) xs ≡ cost_from F (suc k) (next_memory m x) a + cost_from F i p' c =
        ap (cost_from F (suc k) (next_memory m x)) e ∙ cost_append F (suc k) (next_memory m x) a c in
        let gx : cost_from G (suc k) (next_memory m x) xs ≡ cost_from G (suc k) (next_memory m x) a + cost_from G i p' c =
        ap (cost_from G (suc k) (next_memory m x)) e ∙ cost_append G (suc k) (next_memory m x) a c in
        let cy : cost_from F (suc k) (next_memory m y) ys ≡ cost_from F (suc k) (next_memory m y) b + cost_from F (suc k + length b) (memory_after (next_memory m y) b) d =
        ap (cost_from F (suc k) (next_memory m y)) f ∙ cost_append F (suc k) (next_memory m y) b d in
        let same : cost_from F i p' d ≡ cost_from F (suc k + length b) (memory_after (next_memory m y) b) d = ap₂ (λ (i j : ℕ). cost_from F (suc k + i) j d) o q in
        let ld : length c ≡ length d = omega (arith, ap length e, ap length f, length-append a c, length-append b d) in
        let small : p' < 64 = memory_lt (next_memory m x) (next_lt m x hm hx) va in
        omega (arith, h', first, r, cx, gx, cy, same, no_less i p' p' c d small small vc vd ld, p.leaving k)

    far : free + cost_from F k m (x ∷ xs) ≤ cost_from F k m (y ∷ ys) + cost_from G k m (x ∷ xs)
    far = parted_far (scan (suc k) (next_memory m x) (next_memory m y) xs ys (next_lt m x hm hx) (next_lt m y hm hy) vx vy l)

  pub distant : (k m : ℕ) (xs ys : List ℕ) → m < 64 → Bits xs → Bits ys → length xs ≡ length ys → memory_after m xs ≡ memory_after m ys → (xs ≡ ys → ⊥)
      → free + cost_from F k m xs ≤ cost_from F k m ys + cost_from G k m xs
  unfolding cost_from memory_after
  distant k m [] [] hm vx vy l one n = absurd (n refl)
  distant k m [] (y ∷ ys) hm vx vy l one n = absurd (omega arith)
  distant k m (x ∷ xs) [] hm vx vy l one n = absurd (omega arith)
  distant k m (x ∷ xs) (y ∷ ys) hm vx vy l one n =
      by (ℕ_discrete x y)
      (λ o e. distant (suc k) (next_memory m x) xs ys (next_lt m x hm (bits_head vx)) (bits_tail vx) (bits_tail vy) (omega arith) o e)
    where
      by : Dec (x ≡ y)
          → (memory_after (next_memory m x) xs ≡ memory_after (next_memory m x) ys → (xs ≡ ys → ⊥)
          → free + cost_from F (suc k) (next_memory m x) xs ≤ cost_from F (suc k) (next_memory m x) ys + cost_from G (suc k) (next_memory m x) xs)
          → free + cost_from F k m (x ∷ xs) ≤ cost_from F k m (y ∷ ys) + cost_from G k m (x ∷ xs)
      by (no d) ih = far k m x y xs ys hm (bits_head vx) (bits_head vy) d (bits_tail vx) (bits_tail vy) (omega arith) one
      by (yes e) ih =
          let o : memory_after (next_memory m x) xs ≡ memory_after (next_memory m x) ys = one ∙ ap (λ (z : ℕ). memory_after (next_memory m z) ys) (sym e) in
          omega (
            arith,
            ih o (λ t. n (λ i. e i ∷ t i)),
            ap (F k m) e,
            ap (λ (z : ℕ). cost_from F (suc k) (next_memory m z) ys) e,
          )

  -- ---- how much doubt there is where a best sequence is wrong

  -- Where a best sequence parts from the sent one, whatever came: a stretch of steps from there on with so much doubt in it that it is no longer than that
  -- allows, to the end of the run or to where the two meet again, and then the doubt is no less than the free distance.
  pub record Stretch (k m x y : ℕ) (xs ys : List ℕ) : Type 0 where
    pub long : ℕ
    pub within : long ≤ length xs
    pub seen : w k 0 1 ≤ cost_from G k m (take (suc long) (x ∷ xs))
    pub enough : climb rise k (suc long) + lead ≤ slope * cost_from G k m (take (suc long) (x ∷ xs)) + lag
    pub apart : Apart (next_memory m x) (next_memory m y) xs ys long
    pub meeting : long < length xs → (memory_after (next_memory m x) (take long xs) ≡ memory_after (next_memory m y) (take long ys)) × (free ≤ cost_from G k m (take (suc long) (x ∷ xs)))

  module _ (k m x y : ℕ) (xs ys : List ℕ) (hm : m < 64) (hx : x < 2) (hy : y < 2) (n : x ≡ y → ⊥) (vx : Bits xs) (vy : Bits ys) (l : length xs ≡ length ys)
      (least : (zs : List ℕ) → Bits zs → length zs ≡ length (y ∷ ys) → cost_from F k m (y ∷ ys) ≤ cost_from F k m zs) where
    stretched : Scan (suc k) (next_memory m x) (next_memory m y) xs ys → Stretch k m x y xs ys
    unfolding cost_from memory_after
    stretched (meets a b c d v e f o q h g r far) =
        let dif = difference_parted m x y hm hx hy n in
        let h' : home (suc k) 32 ≤ v = rw dif at h in
        let g' : climb rise (suc k) (length a) ≤ slope * v + growth (suc k) 32 = rw dif at g in
        let begin : w k 0 1 + F k m x ≤ F k m y + G k m x = rw (difference_same m, unlike_parted x y hx hy n) at (tells k m m x y hm hm hx hy) in
        let va : Bits a = bits_front a c (subst Bits e vx) in
        let vd : Bits d = bits_back b d (subst Bits f vy) in
        let lz : length (a ++ d) ≡ length ys = length-append a d ∙ (ap (λ (i : ℕ). i + length d) o ∙ sym (ap length f ∙ length-append b d)) in
        let le = least (x ∷ a ++ d) (more hx (bits_append va vd)) (ap suc lz) in
        let cy : cost_from F (suc k) (next_memory m y) ys ≡ cost_from F (suc k) (next_memory m y) b + cost_from F (suc k + length b) (memory_after (next_memory m y) b) d =
        ap (cost_from F (suc k) (next_memory m y)) f ∙ cost_append F (suc k) (next_memory m y) b d in
        let cz = cost_append F (suc k) (next_memory m x) a d in
        let same : cost_from F (suc k + length a) (memory_after (next_memory m x) a) d ≡ cost_from F (suc k + length b) (memory_after (next_memory m y) b) d =
        ap₂ (λ (i j : ℕ). cost_from F (suc k + i) j d) o q in
        let fx : take (length a) xs ≡ a = ap (take (length a)) e ∙ take_at a c (length a) refl in
        let fy : take (length a) ys ≡ b = ap (λ (i : ℕ). take i ys) o ∙ (ap (take (length b)) f ∙ take_at b d (length b) refl) in
        let ve : w k 0 1 + v ≤ G k m x + cost_from G (suc k) (next_memory m x) a = omega (arith, begin, r, le, cy, cz, same) in
        let sv = mul-le-mul_left slope ve in
        record {
          long = length a;
          within = omega (arith, ap length e, length-append a c);
          seen = rw fx (omega (arith, ve));
          enough = rw fx (omega (arith, sv, g', p.starting k));
          apart = far;
          meeting = λ short. (rw (fx, fy) q, rw fx (omega (arith, ve, h', p.leaving k)));
        }
    stretched (parts v g r o far) =
        let dif = difference_parted m x y hm hx hy n in
        let g' : climb rise (suc k) (length xs) ≤ slope * v + growth (suc k) 32 = rw dif at g in
        let begin : w k 0 1 + F k m x ≤ F k m y + G k m x = rw (difference_same m, unlike_parted x y hx hy n) at (tells k m m x y hm hm hx hy) in
        let le = least (x ∷ xs) (more hx vx) (ap suc l) in
        let ve : w k 0 1 + v ≤ G k m x + cost_from G (suc k) (next_memory m x) xs = omega (arith, begin, r, le) in
        let sv = mul-le-mul_left slope ve in
        record {
          long = length xs;
          within = omega arith;
          seen = rw (take-length xs) (omega (arith, ve));
          enough = rw (take-length xs) (omega (arith, sv, g', p.starting k));
          apart = far;
          meeting = λ short. absurd (omega arith);
        }

    pub stretch : Stretch k m x y xs ys
    stretch = stretched (scan (suc k) (next_memory m x) (next_memory m y) xs ys (next_lt m x hm hx) (next_lt m y hm hy) vx vy l)

  -- ---- a stretch against its doubt

  -- so sparse: any window of so many steps has at most so much doubt, and that is too little for a stretch that is home again, for one that is longer than
  -- `depth`, and, twice and more, for one that is longer than the window
  module _ (even : ℕ) (evenly : (k n : ℕ) → climb rise k n ≡ even * n) (window most depth : ℕ) (some : 0 < window) (rises : 0 < even) (below_free : most < free)
      (deep : slope * most + lag < even * suc depth + lead) (steady : slope * most ≤ even * window) (wide : 2 * (slope * most) + lag ≤ even * window + lead) where
    -- of a stretch of steps and weight v, more than a window's doubt, the doubt e cannot be as much as v
    tight : (n v e : ℕ) → v ≤ e → most < v → even * suc n + lead ≤ slope * v + lag → ((q : ℕ) → suc n ≤ window * q → e ≤ most * q) → ⊥
    tight n v e ve mv g bound = by (n / window) (n % window) (div-add-mod n window) (mod-lt n some)
      where
        by : (q r : ℕ) → window * q + r ≡ n → r < window → ⊥
        by zero r d h = omega (arith, bound 1 (omega arith))
        by (suc q) r d h =
            let b : e ≤ most * suc (suc q) = bound (suc (suc q)) (omega arith) in
            let f : slope * v ≤ slope * e = mul-le-mul_left slope ve in
            let c : slope * e ≤ slope * (most * suc (suc q)) = mul-le-mul_left slope b in
            let s : slope * most * q ≤ even * window * q = mul-le-mul_right q steady in
            let t : even * (window * suc q + r + 1) ≡ even * suc n = ap (λ (i : ℕ). even * i) (omega arith) in
            omega arith

    -- a stretch longer than the depth weighs more than a window's doubt
    deep_weight : (n v : ℕ) → depth ≤ n → even * suc n + lead ≤ slope * v + lag → most < v
    deep_weight n v h g = by (dec_le v most)
      where
        by : Dec (v ≤ most) → most < v
        by (yes l) = absurd (omega (arith, mul-le-mul_left slope l, mul-le-mul_left even h))
        by (no l) = omega arith

    -- ---- where two sequences part

    abbrev Least : ℕ → ℕ → List ℕ → Type 0
    Least k m ys = (zs : List ℕ) → Bits zs → length zs ≡ length ys → cost_from F k m ys ≤ cost_from F k m zs

    -- where they part and what was sent is doubted so sparsely, the end is near, and there is doubt up to it
    pub record Late (k m x : ℕ) (xs : List ℕ) : Type 0 where
      pub near : length xs < depth
      pub doubted : w k 0 1 ≤ cost_from G k m (x ∷ xs)

    module _ (k m x y : ℕ) (xs ys : List ℕ) (t : Stretch k m x y xs ys)
        (bound : (q : ℕ) → suc t.long ≤ window * q → cost_from G k m (take (suc t.long) (x ∷ xs)) ≤ most * q) where
      abbrev e : ℕ
      e = cost_from G k m (take (suc t.long) (x ∷ xs))

      even_enough : even * suc t.long + lead ≤ slope * e + lag
      even_enough = omega (arith, t.enough, evenly k (suc t.long))

      -- of a stretch that is home again there is too little doubt
      to_end : t.long ≡ length xs
      to_end = by (dec_le (length xs) t.long)
        where
          by : Dec (length xs ≤ t.long) → t.long ≡ length xs
          by (yes l) = omega (arith, t.within)
          by (no l) = absurd (tight t.long e e (omega arith) (omega (arith, (t.meeting (omega arith)).1)) even_enough bound)

      -- one to the end is short
      short : t.long < depth
      short = by (dec_le depth t.long)
        where
          by : Dec (depth ≤ t.long) → t.long < depth
          by (yes l) = absurd (tight t.long e e (omega arith) (deep_weight t.long e l even_enough) even_enough bound)
          by (no l) = omega arith

      pub parted : Late k m x xs
      parted =
          let all : take (suc t.long) (x ∷ xs) ≡ x ∷ xs = ap (λ (i : ℕ). take (suc i) (x ∷ xs)) to_end ∙ take-length (x ∷ xs) in
          record { near = rw to_end at short; doubted = rw all at t.seen }

    late : (k m x y : ℕ) (xs ys : List ℕ) → m < 64 → x < 2 → y < 2 → (x ≡ y → ⊥) → Bits xs → Bits ys → length xs ≡ length ys → Least k m (y ∷ ys)
        → Sparse G window most k m (x ∷ xs) → Late k m x xs
    late k m x y xs ys hm hx hy n vx vy l least sparse =
        let t = stretch k m x y xs ys hm hx hy n vx vy l least in
        parted k m x y xs ys t (λ q h. sparse_windows G window most q (suc t.long) k m (x ∷ xs) sparse h)

    -- ---- the two agree

    sub_next : (n d : ℕ) → d ≤ n → suc n - d ≡ suc (n - d)
    sub_next n d h = omega arith

    sub_none : (n d : ℕ) → n < d → suc n - d ≡ 0
    sub_none n d h = omega arith

    least_tail : (k m x y : ℕ) (ys : List ℕ) → x < 2 → x ≡ y → Least k m (y ∷ ys) → Least (suc k) (next_memory m x) ys
    unfolding cost_from
    least_tail k m x y ys hx e least zs v o =
        omega (arith, least (x ∷ zs) (more hx v) (ap suc o), ap (F k m) e, ap (λ (z : ℕ). cost_from F (suc k) (next_memory m z) ys) e)

    -- all but the last `depth` bits of a best sequence are those that were sent
    pub agree : (k m : ℕ) (xs ys : List ℕ) → m < 64 → Bits xs → Bits ys → length xs ≡ length ys → Least k m ys → Sparse G window most k m xs
        → take (length xs - depth) ys ≡ take (length xs - depth) xs
    unfolding cost_from
    agree k m [] [] hm vx vy l least sparse = refl
    agree k m [] (y ∷ ys) hm vx vy l least sparse = absurd (omega arith)
    agree k m (x ∷ xs) [] hm vx vy l least sparse = absurd (omega arith)
    agree k m (x ∷ xs) (y ∷ ys) hm vx vy l least sparse =
        by (ℕ_discrete x y)
        (λ q. agree (suc k) (next_memory m x) xs ys (next_lt m x hm (bits_head vx)) (bits_tail vx) (bits_tail vy) (omega arith) q (sparse_tail G window most k m x xs sparse))
      where
        none_taken : length xs < depth → take (suc (length xs) - depth) (y ∷ ys) ≡ take (suc (length xs) - depth) (x ∷ xs)
        none_taken h = rw (sub_none (length xs) depth h)

        ends : Dec (depth ≤ length xs) → x ≡ y → take (length xs - depth) ys ≡ take (length xs - depth) xs
            → take (suc (length xs) - depth) (y ∷ ys) ≡ take (suc (length xs) - depth) (x ∷ xs)
        ends (yes h) e t = rw (sub_next (length xs) depth h) (ap₂ (λ (z : ℕ) (o : List ℕ). z ∷ o) (sym e) t)
        ends (no h) e t = none_taken (omega arith)

        by : Dec (x ≡ y) → (Least (suc k) (next_memory m x) ys → take (length xs - depth) ys ≡ take (length xs - depth) xs)
            → take (suc (length xs) - depth) (y ∷ ys) ≡ take (suc (length xs) - depth) (x ∷ xs)
        by (no n) ih =
            none_taken (late k m x y xs ys hm (bits_head vx) (bits_head vy) n (bits_tail vx) (bits_tail vy) (omega arith) least sparse).near
        by (yes e) ih = ends (dec_le depth (length xs)) e (ih (least_tail k m x y ys (bits_head vx) e least))

    -- and all of them, where a step out of no difference has weight and the last `depth` bits are beyond doubt
    pub agree_whole : ((k : ℕ) → 0 < w k 0 1) → (k m : ℕ) (xs ys : List ℕ) → m < 64 → Bits xs → Bits ys → length xs ≡ length ys → Least k m ys → Sparse G window most k m xs
        → ((i : ℕ) → length xs ≤ i + depth → cost_from G (k + i) (memory_after m (take i xs)) (drop i xs) ≡ 0) → ys ≡ xs
    unfolding cost_from memory_after
    agree_whole pos k m [] [] hm vx vy l least sparse z = refl
    agree_whole pos k m [] (y ∷ ys) hm vx vy l least sparse z = absurd (omega arith)
    agree_whole pos k m (x ∷ xs) [] hm vx vy l least sparse z = absurd (omega arith)
    agree_whole pos k m (x ∷ xs) (y ∷ ys) hm vx vy l least sparse z =
        by (ℕ_discrete x y)
        (λ q. agree_whole pos (suc k) (next_memory m x) xs ys (next_lt m x hm (bits_head vx)) (bits_tail vx) (bits_tail vy) (omega arith) q (sparse_tail G window most k m x xs sparse)
        (λ i h. let a : suc k + i ≡ k + suc i = omega arith in rw a (z (suc i) (omega arith))))
      where
        by : Dec (x ≡ y) → (Least (suc k) (next_memory m x) ys → ys ≡ xs) → y ∷ ys ≡ x ∷ xs
        by (no n) ih =
            let o = late k m x y xs ys hm (bits_head vx) (bits_head vy) n (bits_tail vx) (bits_tail vy) (omega arith) least sparse in
            let z' = rw (add-zero k) at (z 0 (omega (arith, o.near))) in
            absurd (omega (arith, o.doubted, pos k, z'))
        by (yes e) ih = ap₂ (λ (z : ℕ) (o : List ℕ). z ∷ o) (sym e) (ih (least_tail k m x y ys (bits_head vx) e least))
