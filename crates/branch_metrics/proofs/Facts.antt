-- Facts of the steps.
-- Assumes nothing.
use mathlib.Core.Bool.{Bool, true, false}
use mathlib.Core.Path.{◌≡◌, refl, sym, ◌∙◌, ap, ap₂}
use mathlib.Core.List.{List, [], ◌∷◌, ◌++◌, flatten}
use Prim.Native.Nat.{ℕ, zero, suc, ◌+◌, ◌-◌, ◌*◌, ◌/◌, ◌%◌, ◌<◌, ◌≤◌}
use native.Mathlib.Omega.{arith}
use native.Mathlib.Nat.{add-zero, add-suc, zero-mod, mod-one, mod-add-mod, mod-lt}
use native.Mathlib.Numerals.{add-one}
use lib.Dec.{eqb}
use lib.ListN.{length, get_or, set, take, drop, length-append, length-drop}
use lib.Seq.{length-take-le, get_or-take}
use Rattle.common.proofs.Each.{Each, each_none, each_more}
use Rattle.common.proofs.Lists.{put_own}
use Rattle.puncturing.specs.Mode.{mode_of, qpsk_count}
use Rattle.puncturing.specs.Step.{pattern_length}
use Rattle.puncturing.proofs.Places.{agreed_at}
use Rattle.common.specs.Choice.{pick}
use Rattle.convolutional_code.specs.Code.{taps_x, taps_y, coded, next_memory}
use Rattle.convolutional_code.specs.Costs.{Costs, cost_from, decision_cost, pair_cost, step_costs, Pairs}
use Rattle.branch_metrics.specs.declared.depuncturing.Sent.{Sent}
use Rattle.branch_metrics.specs.declared.depuncturing.Sent.TheVariants.{OnlyY, OnlyX, Both}
use Rattle.branch_metrics.specs.Steps.{kind_of, kind, width, kind_cost, kind_at, first, punctured_costs, decision_at, coded_cost, step_pair, run_step}

-- ---- decisions

pub decision_lt : (l : List ℕ) → Pairs l → (j : ℕ) → decision_at l j < 9
decision_lt l h j = go (eqb (j % 2) 0)
  where
    p : get_or l (j / 2) 0 < 81
    p = h (j / 2)

    go : (t : Bool) → pick t (get_or l (j / 2) 0 / 9) (get_or l (j / 2) 0 % 9) < 9
    go true = omega (arith, p)
    go false = omega arith

-- I and Q of symbol i
pub decision_i : (l : List ℕ) (i : ℕ) → decision_at l (2 * i) ≡ get_or l i 0 / 9
decision_i l i =
    let a : 2 * i / 2 ≡ i = omega arith in
    let b : 2 * i % 2 ≡ 0 = omega arith in
    rw (a, b)

pub decision_q : (l : List ℕ) (i : ℕ) → decision_at l (2 * i + 1) ≡ get_or l i 0 % 9
decision_q l i =
    let a : (2 * i + 1) / 2 ≡ i = omega arith in
    let b : (2 * i + 1) % 2 ≡ 1 = omega arith in
    rw (a, b)

-- of what is not known nothing costs anything
none : (v : ℕ) → decision_cost 8 v ≡ 0
none v = go (eqb v 0)
  where
    go : (t : Bool) → pick {A = ℕ} t 0 0 ≡ 0
    go true = refl
    go false = refl

-- a pair costs what its decisions do
pub pair_is : (a b v w : ℕ) → b < 9 → pair_cost (9 * a + b) v w ≡ decision_cost a v + decision_cost b w
unfolding pair_cost
pair_is a b v w h =
    let x : (9 * a + b) / 9 ≡ a = omega arith in
    let y : (9 * a + b) % 9 ≡ b = omega arith in
    rw (x, y)

module _ (l : List ℕ) (h : Pairs l) where
  kind_is : (q j x y : ℕ) → pair_cost (step_pair l q j) x y ≡ kind_cost (coded_cost l) q j x y
  kind_is zero j x y = pair_is 8 8 x y (omega arith) ∙ ap₂ (λ (v w : ℕ). v + w) (none x) (none y)
  kind_is (suc zero) j x y = omega (arith, pair_is 8 (decision_at l j) x y (decision_lt l h j), none x)
  kind_is (suc (suc zero)) j x y = pair_is (decision_at l j) 8 x y (omega arith) ∙ (ap (λ (v : ℕ). coded_cost l j x + v) (none y) ∙ add-zero (coded_cost l j x))
  kind_is (suc (suc (suc q))) j x y = pair_is (decision_at l j) (decision_at l (j + 1)) x y (decision_lt l h (j + 1))

  pair_lt : (q j : ℕ) → step_pair l q j < 81
  pair_lt zero j = omega arith
  pair_lt (suc zero) j = omega (arith, decision_lt l h j)
  pair_lt (suc (suc zero)) j = omega (arith, decision_lt l h j)
  pair_lt (suc (suc (suc q))) j = omega (arith, decision_lt l h j, decision_lt l h (j + 1))

  -- steps that are spread out cost what the run does
  module _ (steps : List ℕ) (rate n : ℕ) (spread : (t : ℕ) → t < n → get_or steps t 0 ≡ run_step l rate t) where
    pub steps_are : (k m b : ℕ) → k < n → step_costs steps k m b ≡ punctured_costs rate (coded_cost l) k m b
    unfolding step_costs punctured_costs run_step
    steps_are k m b lt = rw (spread k lt) (kind_is (kind_at rate k) (first rate k) (coded taps_x m b) (coded taps_y m b))

    pub steps_small : (k : ℕ) → k < n → get_or steps k 0 < 81
    unfolding run_step
    steps_small k lt = rw (spread k lt) (pair_lt (kind_at rate k) (first rate k))

pub cost_same : (F G : Costs) (k m : ℕ) (bs : List ℕ) → ((j s b : ℕ) → j < k + length bs → F j s b ≡ G j s b) → cost_from F k m bs ≡ cost_from G k m bs
unfolding cost_from
cost_same F G k m [] h = refl
cost_same F G k m (b ∷ bs) h =
    rw (h k m b (omega arith), cost_same F G (suc k) (next_memory m b) bs (λ j s b l. h j s b (omega arith)))

-- ---- the places of a run

abbrev pub sent_table : List Sent
sent_table = Both ∷ Both ∷ Both ∷ Both ∷ Both ∷ Both ∷ Both ∷ Both ∷ OnlyY ∷ Both ∷ OnlyY ∷ Both ∷ Both ∷ Both ∷ Both ∷ OnlyY ∷ OnlyX ∷ Both ∷ Both ∷ Both ∷ Both ∷ Both ∷ OnlyY ∷ OnlyX ∷ OnlyY ∷ OnlyX ∷ Both ∷ Both ∷ Both ∷ OnlyY ∷ OnlyY ∷ OnlyY ∷ OnlyX ∷ OnlyY ∷ OnlyX ∷ []

-- a coded bit of each step is sent
pub wide : (sent : Sent) → 0 < width (kind_of sent)
wide OnlyY = omega arith
wide OnlyX = omega arith
wide Both = omega arith

pub table_is : (rate place : ℕ) → rate < qpsk_count → place < pattern_length rate → kind_of (get_or sent_table (7 * rate + place) OnlyY) ≡ kind rate place
unfolding kind mode_of flatten
table_is rate place h l = agreed_at (λ r p. kind_of (get_or sent_table (7 * r + p) OnlyY)) kind tt rate place h l

first_le_add : (rate k d : ℕ) → first rate k ≤ first rate (k + d)
unfolding first
first_le_add rate k zero = rw add-zero (omega arith)
first_le_add rate k (suc d) = rw add-suc (omega (arith, first_le_add rate k d))

first_le : (rate k n : ℕ) → k < n → first rate k + width (kind_at rate k) ≤ first rate n
unfolding first
first_le rate k n h =
    let e : n ≡ suc k + (n - suc k) = omega arith in
    rw e (first_le_add rate (suc k) (n - suc k))

-- ---- rate 1/2: both coded bits of every bit are sent

half_kind : (k : ℕ) → kind_at 0 k ≡ 3
unfolding kind mode_of flatten
half_kind k = ap (kind 0) (mod-one k)

pub half_first : (n : ℕ) → first 0 n ≡ 2 * n
unfolding first
half_first zero = refl
half_first (suc n) = let e : width (kind_at 0 n) ≡ 2 = ap width (half_kind n) in omega (arith, half_first n)

half_step : (l : List ℕ) (k : ℕ) → get_or l k 0 ≡ run_step l 0 k
unfolding run_step
half_step l k =
    let e : 9 * (get_or l k 0 / 9) + get_or l k 0 % 9 ≡ get_or l k 0 = omega arith in
    sym (rw (half_kind k, half_first k, decision_i l k, decision_q l k) e)

-- so the symbols are put as they are
pub half_spread : (l output exit : List ℕ) (n : ℕ) → n ≤ length l → n ≤ length output → exit ≡ take 0 output ++ take n l ++ drop (0 + length (take n l)) output
    → (length exit ≡ length output) × ((t : ℕ) → t < n → get_or exit t 0 ≡ run_step l 0 t)
half_spread l output exit n h k e =
    let part = take n l in
    let size : length part ≡ n = length-take-le n l h in (
      ap length e ∙ (length-append part (drop (0 + length part) output) ∙ omega (arith, size, length-drop (0 + length part) output)),
      λ t g.
          let i : 0 + t ≡ t = omega arith in
          ap (λ (x : List ℕ). get_or x t 0) e
          ∙ (ap (λ (j : ℕ). get_or (part ++ drop (0 + length part) output) j 0) (sym i) ∙ put_own output part 0 t (omega (arith, size)) (omega (arith, size)))
          ∙ (get_or-take n l t 0 g ∙ half_step l t),
    )

-- ---- rate 3/4: both coded bits of one bit are sent, Y of the next and X of the one after it

module _ (k : ℕ) where
  kind_first : kind_at 2 (3 * k) ≡ 3
  unfolding kind mode_of flatten
  kind_first = let e : 3 * k % 3 ≡ 0 = omega arith in ap (kind 2) e

  kind_second : kind_at 2 (suc (3 * k)) ≡ 1
  unfolding kind mode_of flatten
  kind_second = let e : suc (3 * k) % 3 ≡ 1 = omega arith in ap (kind 2) e

  kind_third : kind_at 2 (suc (suc (3 * k))) ≡ 2
  unfolding kind mode_of flatten
  kind_third = let e : suc (suc (3 * k)) % 3 ≡ 2 = omega arith in ap (kind 2) e

  second_bit : first 2 (suc (3 * k)) ≡ first 2 (3 * k) + 2
  unfolding first
  second_bit = ap (λ (q : ℕ). first 2 (3 * k) + width q) kind_first

  third_bit : first 2 (suc (suc (3 * k))) ≡ first 2 (3 * k) + 3
  unfolding first
  third_bit = ap (λ (q : ℕ). first 2 (suc (3 * k)) + width q) kind_second ∙ omega (arith, second_bit)

pub three_first : (k : ℕ) → first 2 (3 * k) ≡ 4 * k
unfolding first
three_first zero = refl
three_first (suc k) =
    let e : 3 * suc k ≡ suc (suc (suc (3 * k))) = omega arith in
    ap (first 2) e ∙ ap (λ (q : ℕ). first 2 (suc (suc (3 * k))) + width q) (kind_third k) ∙ omega (arith, third_bit k, three_first k)

module _ (l : List ℕ) (k : ℕ) where
  step_first : get_or l (2 * k) 0 ≡ run_step l 2 (3 * k)
  unfolding run_step
  step_first =
      let j : first 2 (3 * k) ≡ 2 * (2 * k) = omega (arith, three_first k) in
      let e : 9 * (get_or l (2 * k) 0 / 9) + get_or l (2 * k) 0 % 9 ≡ get_or l (2 * k) 0 = omega arith in
      sym (rw (kind_first k, j, decision_i l (2 * k), decision_q l (2 * k)) e)

  step_second : 72 + get_or l (2 * k + 1) 0 / 9 ≡ run_step l 2 (suc (3 * k))
  unfolding run_step
  step_second =
      let j : first 2 (suc (3 * k)) ≡ 2 * (2 * k + 1) = omega (arith, second_bit k, three_first k) in
      sym (rw (kind_second k, j) (ap (λ (d : ℕ). 72 + d) (decision_i l (2 * k + 1))))

  step_third : 9 * (get_or l (2 * k + 1) 0 % 9) + 8 ≡ run_step l 2 (suc (suc (3 * k)))
  unfolding run_step
  step_third =
      let j : first 2 (suc (suc (3 * k))) ≡ 2 * (2 * k + 1) + 1 = omega (arith, third_bit k, three_first k) in
      sym (rw (kind_third k, j) (ap (λ (d : ℕ). 9 * d + 8) (decision_q l (2 * k + 1))))

-- one pattern more is spread
abbrev pub Spread_3_4 : List ℕ → ℕ → List ℕ → ℕ → Type 0
Spread_3_4 l size output k = Each (λ t v. v ≡ run_step l 2 t) size output (3 * k)

pub threes_more : (l : List ℕ) {k n size : ℕ} {output : List ℕ} → Spread_3_4 l size output k → k < n → 3 * n ≤ size
    → Spread_3_4 l size (set (set (set output (3 * k) (get_or l (2 * k) 0)) (3 * k + 1) (72 + get_or l (2 * k + 1) 0 / 9)) (3 * k + 2) (9 * (get_or l (2 * k + 1) 0 % 9) + 8))
    (k + 1)
threes_more l {k} g h fits =
    let e1 : 3 * k + 1 ≡ suc (3 * k) = omega arith in
    let e2 : 3 * k + 1 + 1 ≡ suc (suc (3 * k)) = omega arith in
    let third : 3 * k + 2 ≡ 3 * k + 1 + 1 = omega arith in
    let all : 3 * (k + 1) ≡ 3 * k + 1 + 1 + 1 = omega arith in
    rw (third, all)
    (each_more _ (omega arith) (step_third l k ∙ ap (run_step l 2) (sym e2))
    (each_more _ (omega arith) (step_second l k ∙ ap (run_step l 2) (sym e1)) (each_more _ (omega arith) (step_first l k) g)))

-- ---- the loop

pub record Spreading (l : List ℕ) (rate n k place j : ℕ) (output₀ output : List ℕ) : Type 0 where
  pub most : k ≤ n
  pub here : place ≡ k % pattern_length rate
  pub bit : j ≡ first rate k
  pub written : Each (λ t v. v ≡ run_step l rate t) (length output₀) output k

pub spreading_none : (l : List ℕ) (rate n : ℕ) (output : List ℕ) → Spreading l rate n 0 0 0 output output
unfolding first
spreading_none l rate n output = record { most = omega arith; here = sym (zero-mod (pattern_length rate)); bit = refl; written = each_none refl }

pub spreading_more : (l : List ℕ) (rate n : ℕ) {k place j : ℕ} {output₀ output : List ℕ} → Spreading l rate n k place j output₀ output → k < n → n ≤ length output₀
    → (q pair after : ℕ) → q ≡ kind rate place → pair ≡ step_pair l q j → after ≡ j + width q
    → Spreading l rate n (k + 1) ((place + 1) % pattern_length rate) after output₀ (set output k pair)
unfolding first run_step
spreading_more l rate n {k} {place} {j} {output₀} {output} g h fits q pair after eq ep ea =
    let eq' : q ≡ kind_at rate k = eq ∙ ap (kind rate) g.here in
    record {
      most = omega arith;
      here = ap (λ (p : ℕ). (p + 1) % pattern_length rate) g.here ∙ mod-add-mod k (pattern_length rate) 1;
      bit = rw add-one (ea ∙ rw (g.bit, eq'));
      written = each_more pair (omega arith) (ep ∙ ap₂ (step_pair l) eq' g.bit) g.written;
    }

pub in_pattern : (l : List ℕ) (rate n p : ℕ) {k place j : ℕ} {output₀ output : List ℕ} → Spreading l rate n k place j output₀ output → p ≡ pattern_length rate → 0 < p
    → (place < pattern_length rate) × (place < p)
in_pattern l rate n p {k} {place} g e h =
    let z : 0 < pattern_length rate = rw e at h in
    let lt : place < pattern_length rate = rw g.here (mod-lt k z) in
    (lt, rw e lt)

pub asks : (l : List ℕ) (rate n len : ℕ) {k place j : ℕ} {output₀ output : List ℕ} → Spreading l rate n k place j output₀ output → k < n
    → first rate n ≤ 2 * len → (q : ℕ) → q ≡ kind rate place → j + width q ≤ 2 * len
asks l rate n len {k} g h fits q e =
    let w : width q ≡ width (kind_at rate k) = ap width (e ∙ ap (kind rate) g.here) in
    omega (arith, first_le rate k n h, g.bit)
