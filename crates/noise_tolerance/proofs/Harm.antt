-- Harm within some patterns of a run: coded bits there tell nothing, and those outside tell as ever. Then the wrong bits are near those patterns.
-- Assumes nothing.
use mathlib.Core.Path.{◌≡◌, refl, sym, ◌∙◌, ap, subst}
use mathlib.Core.List.{List, [], ◌∷◌, flatten}
use mathlib.Core.Logic.{◌⊎◌, inl, inr}
use Prim.Native.Nat.{ℕ, zero, suc, ◌+◌, ◌-◌, ◌*◌, ◌%◌, ◌≤◌, ◌<◌}
use native.Mathlib.Nat.{mul-add, mul-le-mul_left, mul-add-mod_self_left}
use native.Mathlib.Omega.{arith}
use lib.ListN.{length, get_or, take, drop, length-take}
use Rattle.common.proofs.Computed.{agree_at}
use Rattle.convolutional_code.specs.Bits.{Bits}
use Rattle.convolutional_code.specs.Code.{taps_x, taps_y, coded, next_memory, memory_after}
use Rattle.convolutional_code.proofs.Bits.{coded_lt}
use Rattle.convolutional_code.specs.Costs.{Costs, cost_from}
use Rattle.puncturing.specs.Mode.{mode_of, qpsk_count}
use Rattle.puncturing.specs.Step.{pattern_length}
use Rattle.branch_metrics.specs.Steps.{width, kind, kind_cost, kind_at, first, punctured_costs}
use Rattle.reader.specs.Read.{symbols_per_pattern}
use Rattle.noise_tolerance.proofs.Difference.{unlike, difference, weight_at, weight}
use Rattle.noise_tolerance.proofs.SparseSteps.{Sparse}
use Rattle.noise_tolerance.proofs.Linear.{difference_coded, difference_lt}
use Rattle.noise_tolerance.proofs.Exchange.{sparse_drop, sparse_windows}
use Rattle.noise_tolerance.proofs.Gap.{placed, Place, before, within, behind, place}
use Rattle.noise_tolerance.proofs.Recovery.{Astray, walk, AstrayOpen, Merging, spoilt}
use Rattle.noise_tolerance.proofs.Homing.{way_home}
use Rattle.noise_tolerance.proofs.Tables.{free, slope, rise, lead, lag, top, homing}
use Rattle.noise_tolerance.proofs.Weights.{home, growth, growth_most, homing_most, home_least, potentials}
use Rattle.noise_tolerance.proofs.Runs.{kind_tells, Tolerable, some_rise, scaled_lt}

-- ---- where the coded bits of a step stand

first_add : (rate q j : ℕ) → first rate (pattern_length rate * q + j) ≡ first rate (pattern_length rate * q) + first rate j
unfolding first
first_add rate q zero = let e : pattern_length rate * q + 0 ≡ pattern_length rate * q = omega arith in rw e (omega arith)
first_add rate q (suc j) =
    let e : pattern_length rate * q + suc j ≡ suc (pattern_length rate * q + j) = omega arith in
    let m : (pattern_length rate * q + j) % pattern_length rate ≡ j % pattern_length rate = mul-add-mod_self_left (pattern_length rate) q j in
    rw e (omega (arith, first_add rate q j, ap (λ (i : ℕ). width (kind rate i)) m))

first_pattern : (rate : ℕ) → rate < qpsk_count → first rate (pattern_length rate) ≡ 2 * symbols_per_pattern rate
unfolding first kind mode_of symbols_per_pattern flatten
first_pattern = agree_at (λ r. first r (pattern_length r)) (λ r. 2 * symbols_per_pattern r) qpsk_count tt

first_patterns : (rate : ℕ) → rate < qpsk_count → (q : ℕ) → first rate (pattern_length rate * q) ≡ 2 * (symbols_per_pattern rate * q)
unfolding first
first_patterns rate hr zero = let e : pattern_length rate * 0 ≡ 0 = omega arith in rw e (omega arith)
first_patterns rate hr (suc q) =
    let e : pattern_length rate * suc q ≡ pattern_length rate * q + pattern_length rate = omega arith in
    rw e (omega (arith, first_add rate q (pattern_length rate), first_patterns rate hr q, first_pattern rate hr))

first_later : (rate k n : ℕ) → first rate k ≤ first rate (k + n)
unfolding first
first_later rate k zero = let e : k + 0 ≡ k = omega arith in rw e (omega arith)
first_later rate k (suc n) = let e : k + suc n ≡ suc (k + n) = omega arith in rw e (omega (arith, first_later rate k n))

first_le : (rate k n : ℕ) → k ≤ n → first rate k ≤ first rate n
first_le rate k n h = let e : k + (n - k) ≡ n = omega arith in subst (λ (i : ℕ). first rate k ≤ first rate i) e (first_later rate k (n - k))

-- ---- the costs of a step

-- another value of a coded bit costs no more than that which was sent but for what a coded bit counts, and so it is of a step
module _ (c : ℕ → ℕ → ℕ) (u : ℕ) (cheap : (j v : ℕ) → v < 2 → c j v ≤ u) where
  bit_dear : (j v o : ℕ) → v < 2 → o < 2 → c j o ≤ c j v + u * unlike v o
  bit_dear j zero zero hv ho = omega arith
  bit_dear j zero (suc zero) hv ho = omega (arith, cheap j 1 (omega arith))
  bit_dear j (suc zero) zero hv ho = omega (arith, cheap j 0 (omega arith))
  bit_dear j (suc zero) (suc zero) hv ho = omega arith
  bit_dear j zero (suc (suc o)) hv ho = absurd (omega arith)
  bit_dear j (suc zero) (suc (suc o)) hv ho = absurd (omega arith)
  bit_dear j (suc (suc v)) o hv ho = absurd (omega arith)

  kind_dear : (q j x y x' y' : ℕ) → x < 2 → y < 2 → x' < 2 → y' < 2
      → kind_cost c q j x' y' ≤ kind_cost c q j x y + u * kind_cost (λ j v. v) q 0 (unlike x x') (unlike y y')
  kind_dear zero j x y x' y' hx hy hx' hy' = omega arith
  kind_dear (suc zero) j x y x' y' hx hy hx' hy' = bit_dear j y y' hy hy'
  kind_dear (suc (suc zero)) j x y x' y' hx hy hx' hy' = bit_dear j x x' hx hx'
  kind_dear (suc (suc (suc q))) j x y x' y' hx hy hx' hy' =
      sum (c j x') (c j x) (c (j + 1) y') (c (j + 1) y) (unlike x x') (unlike y y') (bit_dear j x x' hx hx') (bit_dear (j + 1) y y' hy hy')
    where
      sum : (a b d e f g : ℕ) → a ≤ b + u * f → d ≤ e + u * g → a + d ≤ b + e + u * (f + g)
      sum a b d e f g h k = omega arith

-- ---- what coded bits from lo to hi are charged

module _ (lo hi : ℕ) (between : lo ≤ hi) where
  -- a place, moved into those
  clip : ℕ → ℕ
  clip j = placed lo hi between j lo j hi

  -- a fee for each of them
  abbrev pub fee_at : ℕ → ℕ → ℕ
  fee_at fee j = placed lo hi between j 0 fee 0

  clip_before : (j : ℕ) → j ≤ lo → clip j ≡ lo
  unfolding clip
  clip_before j h = by (place lo hi between j)
    where
      by : Place lo hi between j → clip j ≡ lo
      by (before l e) = rw e
      by (within l m e f) = rw (e, f) (omega arith)
      by (behind l e f) = rw (e, f) (omega (arith, between))

  clip_behind : (j : ℕ) → hi ≤ j → clip j ≡ hi
  unfolding clip
  clip_behind j h = by (place lo hi between j)
    where
      by : Place lo hi between j → clip j ≡ hi
      by (before l e) = absurd (omega (arith, between))
      by (within l m e f) = absurd (omega arith)
      by (behind l e f) = rw (e, f)

  clip_least : (j : ℕ) → lo ≤ clip j
  unfolding clip
  clip_least j = by (place lo hi between j)
    where
      by : Place lo hi between j → lo ≤ clip j
      by (before l e) = rw e (omega arith)
      by (within l m e f) = rw (e, f) l
      by (behind l e f) = rw (e, f) between

  clip_most : (j : ℕ) → clip j ≤ hi
  unfolding clip
  clip_most j = by (place lo hi between j)
    where
      by : Place lo hi between j → clip j ≤ hi
      by (before l e) = rw e between
      by (within l m e f) = rw (e, f) (omega arith)
      by (behind l e f) = rw (e, f) (omega arith)

  -- one place further, the fee for it is paid
  clip_next : (fee j : ℕ) → fee_at fee j + fee * clip j ≤ fee * clip (j + 1)
  unfolding clip
  clip_next fee j = by (place lo hi between j) (place lo hi between (j + 1))
    where
      by : Place lo hi between j → Place lo hi between (j + 1) → fee_at fee j + fee * clip j ≤ fee * clip (j + 1)
      by (before l e) q = rw e (omega (arith, mul-le-mul_left fee (clip_least (j + 1))))
      by (within l m e f) (before o g) = absurd (omega arith)
      by (within l m e f) (within o p g h) = rw (e, f, g, h) (omega arith)
      by (within l m e f) (behind o g h) = rw (e, f, g, h) (omega (arith, mul-le-mul_left fee m))
      by (behind l e f) (before o g) = absurd (omega (arith, between))
      by (behind l e f) (within o p g h) = absurd (omega arith)
      by (behind l e f) (behind o g h) = rw (e, f, g, h) (omega arith)

kind_weak : (lo hi : ℕ) (between : lo ≤ hi) (c g : ℕ → ℕ → ℕ) (fee : ℕ) → ((j v o : ℕ) → v < 2 → o < 2 → c j v ≤ c j o + g j v + fee_at lo hi between fee j)
    → (q j x y x' y' : ℕ) → x < 2 → y < 2 → x' < 2 → y' < 2
    → kind_cost c q j x y + fee * clip lo hi between j ≤ kind_cost c q j x' y' + kind_cost g q j x y + fee * clip lo hi between (j + width q)
kind_weak lo hi between c g fee h zero j x y x' y' hx hy hx' hy' = let e : j + 0 ≡ j = omega arith in rw e (omega arith)
kind_weak lo hi between c g fee h (suc zero) j x y x' y' hx hy hx' hy' = omega (arith, h j y y' hy hy', clip_next lo hi between fee j)
kind_weak lo hi between c g fee h (suc (suc zero)) j x y x' y' hx hy hx' hy' = omega (arith, h j x x' hx hx', clip_next lo hi between fee j)
kind_weak lo hi between c g fee h (suc (suc (suc q))) j x y x' y' hx hy hx' hy' =
    let e : j + 1 + 1 ≡ j + 2 = omega arith in
    omega (
      arith,
      h j x x' hx hx',
      h (j + 1) y y' hy hy',
      clip_next lo hi between fee j,
      clip_next lo hi between fee (j + 1),
      ap (λ (i : ℕ). fee * clip lo hi between i) e,
    )

light : (q x y : ℕ) → x < 2 → y < 2 → kind_cost (λ j v. v) q 0 x y ≤ 2
light zero x y hx hy = omega arith
light (suc zero) x y hx hy = omega arith
light (suc (suc zero)) x y hx hy = omega arith
light (suc (suc (suc q))) x y hx hy = omega arith

-- ---- the numbers

-- Harm in so many patterns at the most, each coded bit of which may be charged (1) or tells nothing and costs nothing (0), and so much doubt elsewhere in each
-- window of steps, in coded bits, make bits wrong within `reach` of the patterns; from another memory, within `opening`.
pub record Recoverable (rate window most depth charged longest span reach opening : ℕ) : Type 0 where
  pub tolerable : Tolerable rate window most depth
  pub steadier : 8 * (slope rate * most) ≤ rise rate * window
  pub wider : 8 * (rise rate * (pattern_length rate * span) + (slope rate * (most + charged * (2 * longest)) + (lag rate + top rate))) < 7 * (rise rate * window)
  pub far : slope rate * (most + charged * (2 * longest)) + (lag rate + top rate) < rise rate * suc reach
  pub wider_open :
      8 * (rise rate * (pattern_length rate * span) + (slope rate * (most + charged * (2 * longest)) + (homing rate + top rate))) < 7 * (rise rate * window)
  pub far_open : slope rate * (most + charged * (2 * longest)) + (homing rate + top rate) < rise rate * suc opening

-- ---- a run

module _ (u charged : ℕ) (counts : 0 < u) (c g : ℕ → ℕ → ℕ) (rate : ℕ) (hr : rate < qpsk_count) (qa qb : ℕ) (order : qa ≤ qb) (lo hi : ℕ) (between : lo ≤ hi)
    (lo-within : 2 * (symbols_per_pattern rate * qa) ≤ lo) (hi-within : hi ≤ 2 * (symbols_per_pattern rate * qb)) (cheap : (j v : ℕ) → v < 2 → c j v ≤ u)
    (weak : (j v o : ℕ) → v < 2 → o < 2 → c j v ≤ c j o + g j v + fee_at lo hi between (u * charged) j)
    (tells : (j v o : ℕ) → v < 2 → o < 2 → (j < 2 * (symbols_per_pattern rate * qa)) ⊎ (2 * (symbols_per_pattern rate * qb) ≤ j) → u * unlike v o + c j v ≤ c j o + g j v) where
  abbrev a : ℕ
  a = pattern_length rate * qa

  abbrev b : ℕ
  b = pattern_length rate * qb

  ordered : a ≤ b
  ordered = mul-le-mul_left (pattern_length rate) order

  abbrev F : Costs
  F = punctured_costs rate c

  abbrev pub G₀ : Costs
  G₀ = punctured_costs rate g

  abbrev fee : ℕ
  fee = u * charged

  abbrev clipped : ℕ → ℕ
  clipped k = fee * clip lo hi between (first rate k)

  -- harmed coded bits are charged
  abbrev G : Costs
  G k m x = G₀ k m x + (clipped (suc k) - clipped k)

  abbrev W : Costs
  W k d z = u * weight rate k d z

  light_weight : (k d z : ℕ) → W k d z ≤ 2 * u
  unfolding weight_at
  light_weight k d z =
      omega (arith, mul-le-mul_left u (light (kind_at rate k) (coded taps_x d z) (coded taps_y d z) (coded_lt taps_x d z) (coded_lt taps_y d z)))

  -- the coded bits of a step outside are outside
  side : (k : ℕ) → (k < a) ⊎ (b ≤ k) → (i : ℕ) → first rate k ≤ i → i < first rate k + width (kind_at rate k)
      → (i < 2 * (symbols_per_pattern rate * qa)) ⊎ (2 * (symbols_per_pattern rate * qb) ≤ i)
  unfolding first
  side k (inl h) i l m = inl (omega (arith, first_le rate (suc k) a h, first_patterns rate hr qa))
  side k (inr h) i l m = inr (omega (arith, first_le rate b k h, first_patterns rate hr qb))

  outside₀ : (k s t x y : ℕ) → (k < a) ⊎ (b ≤ k) → W k (difference s t) (unlike x y) + F k s x ≤ F k t y + G₀ k s x
  unfolding punctured_costs weight_at
  outside₀ k s t x y h =
      rw (difference_coded taps_x s t x y, difference_coded taps_y s t x y)
      (kind_tells u c g (kind_at rate k) (first rate k) (coded taps_x s x) (coded taps_y s x) (coded taps_x t y) (coded taps_y t y)
      (λ i v o l m hv ho. tells i v o hv ho (side k h i l m))
      (coded_lt taps_x s x) (coded_lt taps_y s x) (coded_lt taps_x t y) (coded_lt taps_y t y))

  outside : (k s t x y : ℕ) → s < 64 → t < 64 → x < 2 → y < 2 → (k < a) ⊎ (b ≤ k) → W k (difference s t) (unlike x y) + F k s x ≤ F k t y + G k s x
  outside k s t x y hs ht hx hy h = omega (arith, outside₀ k s t x y h)

  any : (k s t x y : ℕ) → x < 2 → y < 2 → F k s x ≤ F k t y + G k s x
  unfolding punctured_costs first
  any k s t x y hx hy =
      omega (
        arith,
        kind_weak lo hi between c g fee weak (kind_at rate k) (first rate k) (coded taps_x s x) (coded taps_y s x) (coded taps_x t y) (coded taps_y t y)
            (coded_lt taps_x s x) (coded_lt taps_y s x) (coded_lt taps_x t y) (coded_lt taps_y t y),
      )

  dear : (k s t x y : ℕ) → s < 64 → t < 64 → x < 2 → y < 2 → F k t y ≤ F k s x + W k (difference s t) (unlike x y)
  unfolding punctured_costs weight_at
  dear k s t x y hs ht hx hy =
      rw (difference_coded taps_x s t x y, difference_coded taps_y s t x y)
      (kind_dear c u cheap (kind_at rate k) (first rate k) (coded taps_x s x) (coded taps_y s x) (coded taps_x t y) (coded taps_y t y)
      (coded_lt taps_x s x) (coded_lt taps_y s x) (coded_lt taps_x t y) (coded_lt taps_y t y))

  -- what is charged in all
  clip_up : (j n : ℕ) → fee * clip lo hi between j ≤ fee * clip lo hi between (j + n)
  clip_up j zero = let e : j + 0 ≡ j = omega arith in rw e (omega arith)
  clip_up j (suc n) =
      let e : j + n + 1 ≡ j + suc n = omega arith in
      omega (arith, clip_up j n, clip_next lo hi between fee (j + n), ap (λ (i : ℕ). fee * clip lo hi between i) e)

  rising : (k : ℕ) → clipped k ≤ clipped (suc k)
  unfolding first
  rising k = clip_up (first rate k) (width (kind_at rate k))

  charges : (k m : ℕ) (l : List ℕ) → cost_from G k m l + clipped k ≤ cost_from G₀ k m l + clipped (k + length l)
  unfolding cost_from
  charges k m [] = let e : k + 0 ≡ k = omega arith in rw e (omega arith)
  charges k m (x ∷ l) =
      let e : suc k + length l ≡ k + suc (length l) = omega arith in
      omega (arith, rising k, charges (suc k) (next_memory m x) l, ap clipped e)

  level : (k : ℕ) → (k < a) ⊎ (b ≤ k) → clipped (suc k) ≡ clipped k
  level k (inl h) =
      let p : first rate (suc k) ≤ lo = omega (arith, first_le rate (suc k) a h, first_patterns rate hr qa, lo-within) in
      let q : first rate k ≤ lo = omega (arith, p, first_le rate k (suc k) (omega arith)) in
      ap (λ (i : ℕ). fee * i) (clip_before lo hi between (first rate (suc k)) p ∙ sym (clip_before lo hi between (first rate k) q))
  level k (inr h) =
      let p : hi ≤ first rate k = omega (arith, first_le rate b k h, first_patterns rate hr qb, hi-within) in
      let q : hi ≤ first rate (suc k) = omega (arith, p, first_le rate k (suc k) (omega arith)) in
      ap (λ (i : ℕ). fee * i) (clip_behind lo hi between (first rate (suc k)) q ∙ sym (clip_behind lo hi between (first rate k) p))

  free_outside : (k m : ℕ) (l : List ℕ) → (k + length l ≤ a) ⊎ (b ≤ k) → cost_from G k m l ≡ cost_from G₀ k m l
  unfolding cost_from
  free_outside k m [] h = refl
  free_outside k m (x ∷ l) (inl h) = omega (arith, level k (inl (omega arith)), free_outside (suc k) (next_memory m x) l (inl (omega arith)))
  free_outside k m (x ∷ l) (inr h) = omega (arith, level k (inr h), free_outside (suc k) (next_memory m x) l (inr (omega arith)))

  module _ {window most depth longest span reach opening : ℕ} (n : Recoverable rate window most depth charged longest span reach opening) (few : qb ≤ qa + span) (short : hi ≤ lo + 2 * longest)
      (s t : ℕ) (hs : s < 64) (ht : t < 64) (sent best : List ℕ) (vs : Bits sent) (vb : Bits best) (size : length sent ≡ length best)
      (least : (zs : List ℕ) → Bits zs → length zs ≡ length best → cost_from F 0 t best ≤ cost_from F 0 t zs) (sparse : Sparse G₀ window (u * most) 0 s sent) where
    abbrev extra : ℕ
    extra = u * (charged * (2 * longest))

    sparse_range : (i n q : ℕ) → n ≤ window * q → cost_from G₀ i (memory_after s (take i sent)) (take n (drop i sent)) ≤ u * most * q
    sparse_range i n q h =
        let z : 0 + i ≡ i = omega arith in
        subst (λ (j : ℕ). cost_from G₀ j (memory_after s (take i sent)) (take n (drop i sent)) ≤ u * most * q) z
        (sparse_windows G₀ window (u * most) q n (0 + i) (memory_after s (take i sent)) (drop i sent) (sparse_drop G₀ window (u * most) i 0 s sent sparse) h)

    allowed : (i n q : ℕ) → n ≤ window * q → cost_from G i (memory_after s (take i sent)) (take n (drop i sent)) ≤ u * most * q + extra
    allowed i n q h =
        let l = take n (drop i sent) in
        let m = memory_after s (take i sent) in
        let from : fee * lo ≤ clipped i = mul-le-mul_left fee (clip_least lo hi between (first rate i)) in
        let to : clipped (i + length l) ≤ fee * hi = mul-le-mul_left fee (clip_most lo hi between (first rate (i + length l))) in
        omega (arith, charges i m l, sparse_range i n q h, from, to, mul-le-mul_left fee short)

    clear : (i n q : ℕ) → n ≤ window * q → (i + n ≤ a) ⊎ (b ≤ i) → cost_from G i (memory_after s (take i sent)) (take n (drop i sent)) ≤ u * most * q
    clear i n q h o = rw (free_outside i (memory_after s (take i sent)) (take n (drop i sent)) (moved o)) (sparse_range i n q h)
      where
        moved : (i + n ≤ a) ⊎ (b ≤ i) → (i + length (take n (drop i sent)) ≤ a) ⊎ (b ≤ i)
        moved (inl e) = inl (omega (arith, length-take n (drop i sent)))
        moved (inr e) = inr e

    wide_gap : 8 * (u * rise rate * (b - a) + (slope rate * (u * most + extra) + (u * lag rate + u * top rate))) < 7 * (u * rise rate * window)
    wide_gap =
        let P = pattern_length rate in
        let h : b - a ≤ P * span = omega (arith, mul-le-mul_left P few, mul-add P qa span) in
        omega (arith, mul-le-mul_left (u * rise rate) h, scaled_lt u counts n.wider)

    wide_open : 8 * (u * rise rate * (b - a) + (slope rate * (u * most + extra) + (u * homing rate + u * top rate))) < 7 * (u * rise rate * window)
    wide_open =
        let P = pattern_length rate in
        let h : b - a ≤ P * span = omega (arith, mul-le-mul_left P few, mul-add P qa span) in
        omega (arith, mul-le-mul_left (u * rise rate) h, scaled_lt u counts n.wider_open)

    topmost : (k d : ℕ) → u * growth rate k d ≤ u * top rate
    topmost k d = mul-le-mul_left u (growth_most rate k d hr)

    abbrev tol : Tolerable rate window most depth
    tol = n.tolerable

    rises : 0 < u * rise rate
    rises = omega (arith, mul-le-mul_left u (some_rise rate hr))

    below_free : u * most < u * free rate
    below_free = scaled_lt u counts tol.below_free

    deep : slope rate * (u * most) + u * lag rate < u * rise rate * suc depth + u * lead rate
    deep = omega (arith, scaled_lt u counts tol.deep)

    steady : slope rate * (u * most) ≤ u * rise rate * window
    steady = omega (arith, mul-le-mul_left u tol.steady)

    wide : 2 * (slope rate * (u * most)) + u * lag rate ≤ u * rise rate * window + u * lead rate
    wide = omega (arith, mul-le-mul_left u tol.wide)

    steadier : 8 * (slope rate * (u * most)) ≤ u * rise rate * window
    steadier = omega (arith, mul-le-mul_left u n.steadier)

    far : slope rate * (u * most + extra) + (u * lag rate + u * top rate) < u * rise rate * suc reach
    far = omega (arith, scaled_lt u counts n.far)

    far_open : slope rate * (u * most + extra) + (u * homing rate + u * top rate) < u * rise rate * suc opening
    far_open = omega (arith, scaled_lt u counts n.far_open)

    -- what is long enough merges
    merge : (l : List ℕ) → Bits l → suc opening ≤ length l → Merging F (λ k d. u * growth rate k d) (slope rate) (u * homing rate) s t l
    merge l v h =
        let e = way_home F W (λ k d. u * home rate k d) (λ k d. u * growth rate k d) (slope rate) (u * rise rate) dear (λ k d p q. home_least rate hr k u d p q) (potentials u rate hr).growing
        0 s t l hs ht v in
        let d = difference s t in
        let falls : slope rate * (u * home rate 0 d) + u * growth rate 0 d ≤ u * homing rate = omega (arith, mul-le-mul_left u (homing_most rate hr 0 d (difference_lt s t))) in
        record {
          bits = e.bits;
          binary = e.binary;
          as_long = e.as_long;
          same = met e.bits e.merged falls;
          excess = u * home rate 0 d;
          cheap = e.cheap;
          falls = falls;
        }
      where
        met : (bits : List ℕ) → (memory_after s l ≡ memory_after t bits) ⊎ (u * rise rate * length l ≤ slope rate * (u * home rate 0 (difference s t)) + u * growth rate 0 (difference s t))
            → slope rate * (u * home rate 0 (difference s t)) + u * growth rate 0 (difference s t) ≤ u * homing rate → memory_after s l ≡ memory_after t bits
        met bits (inl m) f = m
        met bits (inr m) f = absurd (omega (arith, m, f, mul-le-mul_left (u * rise rate) h, far_open))

    -- from one memory
    pub astray : s ≡ t → (i : ℕ) → i < length sent → (get_or sent i 0 ≡ get_or best i 0 → ⊥) → Astray a b reach depth (length sent) i
    unfolding memory_after
    astray same i h d =
        walk a b ordered F G W (2 * u) light_weight any outside (λ k d. u * home rate k d) (λ k d. u * growth rate k d) (u * free rate) (slope rate) (u * rise rate) (u * lead rate) (u * lag rate)
        (potentials u rate hr) (u * top rate) topmost window (u * most) depth extra reach tol.some rises below_free deep steady wide steadier wide_gap far
        s t hs ht sent best vs vb size least allowed clear (length sent) 0 (omega arith) same i (omega arith) h d

    -- from two
    pub astray_open : (i : ℕ) → i < length sent → (get_or sent i 0 ≡ get_or best i 0 → ⊥) → AstrayOpen a b reach opening depth (length sent) i
    astray_open i h d =
        spoilt a b ordered F G W (2 * u) light_weight any outside (λ k d. u * home rate k d) (λ k d. u * growth rate k d) (u * free rate) (slope rate) (u * rise rate) (u * lead rate) (u * lag rate)
        (potentials u rate hr) (u * top rate) topmost window (u * most) depth extra reach tol.some rises below_free deep steady wide steadier wide_gap far
        s t hs ht sent best vs vb size least allowed clear (u * homing rate) opening merge wide_open far_open i h d
