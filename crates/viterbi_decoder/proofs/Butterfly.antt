-- The lanes of a step are the ways into the 64 memories: those into lanes 2 i and 2 i + 1 come from lanes i and i + 32, with the costs exchanged.
-- Assumes nothing.
use mathlib.Core.Bool.{Bool, true, false}
use mathlib.Core.Path.{◌≡◌, refl, sym, ◌∙◌, ap, ap₂, subst}
use mathlib.Core.List.{List, [], ◌∷◌}
use Prim.Native.Nat.{ℕ, zero, suc, ◌+◌, ◌*◌, ◌/◌, ◌%◌, ◌≤◌, ◌<◌}
use native.Mathlib.Omega.{arith}
use native.Mathlib.Nat.{add-zero}
use native.Mathlib.Decide.{ℕ_discrete}
use borrow.Author.Tests.{eqb-false, eqb-true, ltb-true}
use lib.Dec.{ltb, eqb}
use lib.ListN.{length, get_or, set, length-set}
use lib.Seq.{get_or-set_same, get_or-set_other}
use Rattle.common.specs.Choice.{pick}
use Rattle.common.proofs.Computed as computed
use Rattle.convolutional_code.specs.Code.{taps_x, taps_y, coded}
use Rattle.convolutional_code.specs.Costs.{at, zero_cost, one_cost, decision_cost, pair_cost}
use Rattle.viterbi_decoder.specs.Metric.{from, via, choice}
use Rattle.viterbi_decoder.specs.Lanes.{lane, held, CostRows, SumRows, Bounded, row_cost, lesser, chosen, Stepped}

-- ---- costs

pub one_cost_le : (d : ℕ) → one_cost d ≤ 7
one_cost_le d = go (ltb d 8) refl
  where
    go : (t : Bool) → ltb d 8 ≡ t → pick t d 0 ≤ 7
    go true e = omega (arith, ltb-true d 8 e)
    go false e = omega arith

decision_cost_le : (d v : ℕ) → decision_cost d v ≤ 7
decision_cost_le d v = go (eqb v 0)
  where
    go : (t : Bool) → pick t (zero_cost d) (one_cost d) ≤ 7
    go true = omega arith
    go false = one_cost_le d

-- ---- lanes

pub lane_lt : (s : ℕ) → lane s < 64
unfolding lane
lane_lt s = omega arith

pub lane_lane : (r : ℕ) → r < 64 → lane (lane r) ≡ r
unfolding lane
lane_lane r h = computed.agree_at (λ r. lane (lane r)) (λ r. r) 64 tt r h

-- the memories that a butterfly joins
record Joins (i : ℕ) : Type 0 where
  odd : lane (i + 32) ≡ lane i + 1
  low_from : lane (2 * i) % 32 * 2 ≡ lane i
  low_bit : lane (2 * i) / 32 ≡ 0
  high_from : lane (2 * i + 1) % 32 * 2 ≡ lane i
  high_bit : lane (2 * i + 1) / 32 ≡ 1

joins : (i : ℕ) → i < 32 → Joins i
unfolding lane
joins i h = record {
  odd = computed.agree_at (λ i. lane (i + 32)) (λ i. lane i + 1) 32 tt i h;
  low_from = computed.agree_at (λ i. lane (2 * i) % 32 * 2) lane 32 tt i h;
  low_bit = computed.agree_at (λ i. lane (2 * i) / 32) (λ i. 0) 32 tt i h;
  high_from = computed.agree_at (λ i. lane (2 * i + 1) % 32 * 2) lane 32 tt i h;
  high_bit = computed.agree_at (λ i. lane (2 * i + 1) / 32) (λ i. 1) 32 tt i h;
}

-- bit 1 gives out of a memory what bit 0 gives out of the one beside it
x_beside : (s : ℕ) → s < 64 → coded taps_x (lane ((lane s + 32 * 1) % 64)) 0 ≡ coded taps_x s 1
unfolding lane
x_beside = computed.agree_at (λ s. coded taps_x (lane ((lane s + 32 * 1) % 64)) 0) (λ s. coded taps_x s 1) 64 tt

y_beside : (s : ℕ) → s < 64 → coded taps_y (lane ((lane s + 32 * 1) % 64)) 0 ≡ coded taps_y s 1
unfolding lane
y_beside = computed.agree_at (λ s. coded taps_y (lane ((lane s + 32 * 1) % 64)) 0) (λ s. coded taps_y s 1) 64 tt

abbrev x_table : List ℕ
x_table = 0 ∷ 1 ∷ 1 ∷ 0 ∷ 1 ∷ 0 ∷ 0 ∷ 1 ∷ 0 ∷ 1 ∷ 1 ∷ 0 ∷ 1 ∷ 0 ∷ 0 ∷ 1 ∷ 0 ∷ 1 ∷ 1 ∷ 0 ∷ 1 ∷ 0 ∷ 0 ∷ 1 ∷ 0 ∷ 1 ∷ 1 ∷ 0 ∷ 1 ∷ 0 ∷ 0 ∷ 1 ∷ 1 ∷ 0 ∷ 0 ∷ 1 ∷ 0 ∷ 1 ∷ 1 ∷ 0 ∷ 1 ∷ 0 ∷ 0 ∷ 1 ∷ 0 ∷ 1 ∷ 1 ∷ 0 ∷ 1 ∷ 0 ∷ 0 ∷ 1 ∷ 0 ∷ 1 ∷ 1 ∷ 0 ∷ 1 ∷ 0 ∷ 0 ∷ 1 ∷ 0 ∷ 1 ∷ 1 ∷ 0 ∷ []

abbrev y_table : List ℕ
y_table = 0 ∷ 0 ∷ 1 ∷ 1 ∷ 1 ∷ 1 ∷ 0 ∷ 0 ∷ 0 ∷ 0 ∷ 1 ∷ 1 ∷ 1 ∷ 1 ∷ 0 ∷ 0 ∷ 1 ∷ 1 ∷ 0 ∷ 0 ∷ 0 ∷ 0 ∷ 1 ∷ 1 ∷ 1 ∷ 1 ∷ 0 ∷ 0 ∷ 0 ∷ 0 ∷ 1 ∷ 1 ∷ 1 ∷ 1 ∷ 0 ∷ 0 ∷ 0 ∷ 0 ∷ 1 ∷ 1 ∷ 1 ∷ 1 ∷ 0 ∷ 0 ∷ 0 ∷ 0 ∷ 1 ∷ 1 ∷ 0 ∷ 0 ∷ 1 ∷ 1 ∷ 1 ∷ 1 ∷ 0 ∷ 0 ∷ 0 ∷ 0 ∷ 1 ∷ 1 ∷ 1 ∷ 1 ∷ 0 ∷ 0 ∷ []

x_bits : (i : ℕ) → i < 64 → at x_table i ≡ coded taps_x (lane i) 0
unfolding lane
x_bits = computed.agree_at (at x_table) (λ i. coded taps_x (lane i) 0) 64 tt

y_bits : (i : ℕ) → i < 64 → at y_table i ≡ coded taps_y (lane i) 0
unfolding lane
y_bits = computed.agree_at (at y_table) (λ i. coded taps_y (lane i) 0) 64 tt

-- the rows that are written so far
pub record Written (P : ℕ → List ℕ → Type 0) (size : ℕ) (rows : List (List ℕ)) (n : ℕ) : Type 0 where
  pub len : length rows ≡ size
  pub done : (k : ℕ) → k < n → P k (get_or rows k [])

module _ {P : ℕ → List ℕ → Type 0} {size : ℕ} {rows : List (List ℕ)} where
  pub written_none : length rows ≡ size → Written P size rows 0
  written_none e = record { len = e; done = λ k h. absurd (omega arith) }

  pub written_more : {n : ℕ} (row : List ℕ) → n < size → P n row → Written P size rows n → Written P size (set rows n row) (n + 1)
  written_more {n} row h e w =
      record { len = length-set rows n row ∙ w.len; done = λ k l. go k l (ℕ_discrete k n) }
    where
      go : (k : ℕ) → k < n + 1 → Dec (k ≡ n) → P k (get_or (set rows n row) k [])
      go k l (yes q) = subst (λ (i : ℕ). P i (get_or (set rows n row) i [])) (sym q) (subst (P n) (sym (get_or-set_same rows n row [] (omega (arith, w.len)))) e)
      go k l (no q) = subst (P k) (sym (get_or-set_other rows n k row [] q)) (w.done k (omega arith))

-- the costs of the two bits out of the two memories
pub record Costed (f : ℕ → ℕ → ℕ) (a c : ℕ → ℕ) : Type 0 where
  pub even_zero : (i : ℕ) → i < 32 → f (lane i) 0 ≡ a i
  pub odd_one : (i : ℕ) → i < 32 → f (lane i + 1) 1 ≡ a i
  pub even_one : (i : ℕ) → i < 32 → f (lane i) 1 ≡ c i
  pub odd_zero : (i : ℕ) → i < 32 → f (lane i + 1) 0 ≡ c i

pub costed : (row : List ℕ) (a c : ℕ → ℕ) → ((i : ℕ) → i < 32 → a i ≡ at row i) → ((i : ℕ) → i < 32 → c i ≡ at row (i + 32)) → Costed (row_cost row) a c
unfolding row_cost
costed row a c ea ec = record {
  even_zero = λ i h. ap (at row) (place (lane i) i 0 i (lane_lane i (omega arith)) (omega arith)) ∙ sym (ea i h);
  odd_one = λ i h. ap (at row) (place (lane i + 1) (i + 32) 1 i (beside i h) (omega arith)) ∙ sym (ea i h);
  even_one = λ i h. ap (at row) (place (lane i) i 1 (i + 32) (lane_lane i (omega arith)) (omega arith)) ∙ sym (ec i h);
  odd_zero = λ i h. ap (at row) (place (lane i + 1) (i + 32) 0 (i + 32) (beside i h) (omega arith)) ∙ sym (ec i h);
}
  where
    beside : (i : ℕ) → i < 32 → lane (lane i + 1) ≡ i + 32
    beside i h = ap lane (sym (joins i h).odd) ∙ lane_lane (i + 32) (omega arith)

    place : (s l b t : ℕ) → lane s ≡ l → (l + 32 * b) % 64 ≡ t → (lane s + 32 * b) % 64 ≡ t
    place s l b t e q = ap (λ (x : ℕ). (x + 32 * b) % 64) e ∙ q

-- ---- rows of costs

module _ {xs ys rows : List (List ℕ)} (x : CostRows (at x_table) xs) (y : CostRows (at y_table) ys) (r : SumRows xs ys rows) where
  -- what bit 0 costs
  zero_cost_lem : (n : ℕ) → n < 81 → (i : ℕ) → i < 64 → at (get_or rows n []) i ≡ pair_cost n (coded taps_x (lane i) 0) (coded taps_y (lane i) 0)
  unfolding pair_cost
  zero_cost_lem n h i l =
      r.sum n h i l
      ∙ ap₂ (λ (v w : ℕ). v + w) (x.cost (n / 9) (omega arith) i l ∙ ap (decision_cost (n / 9)) (x_bits i l))
      (y.cost (n % 9) (omega arith) i l ∙ ap (decision_cost (n % 9)) (y_bits i l))

  pub rows_bounded : Bounded rows
  unfolding pair_cost
  rows_bounded n h i l =
      omega (arith, zero_cost_lem n h i l, decision_cost_le (n / 9) (coded taps_x (lane i) 0), decision_cost_le (n % 9) (coded taps_y (lane i) 0))

  pub row_cost_lem : (n : ℕ) → n < 81 → (s b : ℕ) → s < 64 → b < 2 → row_cost (get_or rows n []) s b ≡ pair_cost n (coded taps_x s b) (coded taps_y s b)
  unfolding row_cost
  row_cost_lem n h s zero l g =
      let e : (lane s + 32 * 0) % 64 ≡ lane s = omega (arith, lane_lt s) in
      ap (at (get_or rows n [])) e ∙ zero_cost_lem n h (lane s) (lane_lt s) ∙ ap (λ (t : ℕ). pair_cost n (coded taps_x t 0) (coded taps_y t 0)) (lane_lane s l)
  row_cost_lem n h s (suc zero) l g =
      zero_cost_lem n h ((lane s + 32 * 1) % 64) (omega arith) ∙ ap₂ (λ (v w : ℕ). pair_cost n v w) (x_beside s l) (y_beside s l)
  row_cost_lem n h s (suc (suc b)) l g = absurd (omega arith)

-- what two rows add up to fits a byte
pub sums_fit : {bx by : ℕ → ℕ} {xs ys : List (List ℕ)} → CostRows bx xs → CostRows by ys → (x y i : ℕ) → x < 9 → y < 9 → i < 64
    → at (get_or xs x []) i + at (get_or ys y []) i < 256
sums_fit {bx} {by} px py x y i hx hy hi =
    omega (arith, px.cost x hx i hi, py.cost y hy i hi, decision_cost_le x (bx i), decision_cost_le y (by i))

-- ---- ways

-- what a choice picks of two
picked : (M : ℕ → ℕ) (f : ℕ → ℕ → ℕ) (s : ℕ) (g : ℕ → ℕ) → chosen (via M f s 0) (via M f s 1) (g 0) (g 1) ≡ g (choice M f s)
unfolding choice
picked M f s g = go (ltb (via M f s 1) (via M f s 0))
  where
    go : (t : Bool) → pick t (g 1) (g 0) ≡ g (pick t 1 0)
    go true = refl
    go false = refl

-- what the lanes hold
pub record Lanes (m o : List ℕ) (a c : ℕ → ℕ) (low high low' high' : List ℕ) : Type 0 where
  pub low_is : (i : ℕ) → i < 32 → at low i ≡ lesser (at m i + a i) (at m (i + 32) + c i)
  pub high_is : (i : ℕ) → i < 32 → at high i ≡ lesser (at m i + c i) (at m (i + 32) + a i)
  pub low_chosen : (i : ℕ) → i < 32 → at low' i ≡ chosen (at m i + a i) (at m (i + 32) + c i) (at o i) (at o (i + 32))
  pub high_chosen : (i : ℕ) → i < 32 → at high' i ≡ chosen (at m i + c i) (at m (i + 32) + a i) (at o i) (at o (i + 32))

-- lanes woven from what the memories with newest bit 0 have, and from what those with 1 have
woven_lanes : (g : ℕ → ℕ) (low high r : List ℕ) → ((i : ℕ) → i < 32 → at low i ≡ g (lane (2 * i))) → ((i : ℕ) → i < 32 → at high i ≡ g (lane (2 * i + 1)))
    → ((i : ℕ) → i < 32 → (at r (2 * i) ≡ at low i) × (at r (2 * i + 1) ≡ at high i)) → (s : ℕ) → s < 64 → held r s ≡ g s
woven_lanes g low high r el eh e s h = by_lane (lane s) (lane_lt s) ∙ ap g (lane_lane s h)
  where
    by_lane : (t : ℕ) → t < 64 → at r t ≡ g (lane t)
    by_lane t l = go (eqb (t % 2) 0) refl
      where
        go : (b : Bool) → eqb (t % 2) 0 ≡ b → at r t ≡ g (lane t)
        go true q =
            let z : t % 2 ≡ 0 = eqb-true _ _ q in
            let w : 2 * (t / 2) ≡ t = omega arith in
            rw w at ((e (t / 2) (omega arith)).0 ∙ el (t / 2) (omega arith))
        go false q =
            let z : ¬ (t % 2 ≡ 0) = eqb-false _ _ q in
            let w : 2 * (t / 2) + 1 ≡ t = omega arith in
            rw w at ((e (t / 2) (omega arith)).1 ∙ eh (t / 2) (omega arith))

module _ {m o : List ℕ} {a c : ℕ → ℕ} {low high low' high' : List ℕ} (f : ℕ → ℕ → ℕ) (l : Lanes m o a c low high low' high') (k : Costed f a c) where
  -- the lanes that a butterfly comes from
  here : (x : List ℕ) (i : ℕ) → i < 32 → held x (lane i) ≡ at x i
  here x i h = ap (at x) (lane_lane i (omega arith))

  there : (x : List ℕ) (i : ℕ) → i < 32 → held x (lane i + 1) ≡ at x (i + 32)
  there x i h = ap (held x) (sym (joins i h).odd) ∙ ap (at x) (lane_lane (i + 32) (omega arith))

  low_from : (i : ℕ) → i < 32 → from (lane (2 * i)) 0 ≡ lane i
  low_from i h = add-zero (lane (2 * i) % 32 * 2) ∙ (joins i h).low_from

  high_from : (i : ℕ) → i < 32 → from (lane (2 * i + 1)) 0 ≡ lane i
  high_from i h = add-zero (lane (2 * i + 1) % 32 * 2) ∙ (joins i h).high_from

  -- the ways into lane 2 i
  low_zero : (i : ℕ) → i < 32 → via (held m) f (lane (2 * i)) 0 ≡ at m i + a i
  unfolding via
  low_zero i h = rw (low_from i h, (joins i h).low_bit, k.even_zero i h, here m i h)

  low_one : (i : ℕ) → i < 32 → via (held m) f (lane (2 * i)) 1 ≡ at m (i + 32) + c i
  unfolding via
  low_one i h = rw ((joins i h).low_from, (joins i h).low_bit, k.odd_zero i h, there m i h)

  -- the ways into lane 2 i + 1
  high_zero : (i : ℕ) → i < 32 → via (held m) f (lane (2 * i + 1)) 0 ≡ at m i + c i
  unfolding via
  high_zero i h = rw (high_from i h, (joins i h).high_bit, k.even_one i h, here m i h)

  high_one : (i : ℕ) → i < 32 → via (held m) f (lane (2 * i + 1)) 1 ≡ at m (i + 32) + a i
  unfolding via
  high_one i h = rw ((joins i h).high_from, (joins i h).high_bit, k.odd_one i h, there m i h)

  low_metric : (i : ℕ) → i < 32 → at low i ≡ via (held m) f (lane (2 * i)) (choice (held m) f (lane (2 * i)))
  low_metric i h =
      let s : ℕ = lane (2 * i) in
      l.low_is i h ∙ ap₂ lesser (sym (low_zero i h)) (sym (low_one i h)) ∙ picked (held m) f s (via (held m) f s)

  high_metric : (i : ℕ) → i < 32 → at high i ≡ via (held m) f (lane (2 * i + 1)) (choice (held m) f (lane (2 * i + 1)))
  high_metric i h =
      let s : ℕ = lane (2 * i + 1) in
      l.high_is i h ∙ ap₂ lesser (sym (high_zero i h)) (sym (high_one i h)) ∙ picked (held m) f s (via (held m) f s)

  low_taken : (i : ℕ) → i < 32 → at low' i ≡ held o (from (lane (2 * i)) (choice (held m) f (lane (2 * i))))
  low_taken i h =
      let s : ℕ = lane (2 * i) in
      let e : at o i ≡ held o (from s 0) = sym (ap (held o) (low_from i h) ∙ here o i h) in
      let g : at o (i + 32) ≡ held o (from s 1) = sym (ap (λ (x : ℕ). held o (x + 1)) (joins i h).low_from ∙ there o i h) in
      l.low_chosen i h ∙ ap₂ (λ (x y : ℕ). chosen x y (at o i) (at o (i + 32))) (sym (low_zero i h)) (sym (low_one i h))
      ∙ ap₂ (chosen (via (held m) f s 0) (via (held m) f s 1)) e g
      ∙ picked (held m) f s (λ d. held o (from s d))

  high_taken : (i : ℕ) → i < 32 → at high' i ≡ held o (from (lane (2 * i + 1)) (choice (held m) f (lane (2 * i + 1))))
  high_taken i h =
      let s : ℕ = lane (2 * i + 1) in
      let e : at o i ≡ held o (from s 0) = sym (ap (held o) (high_from i h) ∙ here o i h) in
      let g : at o (i + 32) ≡ held o (from s 1) = sym (ap (λ (x : ℕ). held o (x + 1)) (joins i h).high_from ∙ there o i h) in
      l.high_chosen i h ∙ ap₂ (λ (x y : ℕ). chosen x y (at o i) (at o (i + 32))) (sym (high_zero i h)) (sym (high_one i h))
      ∙ ap₂ (chosen (via (held m) f s 0) (via (held m) f s 1)) e g
      ∙ picked (held m) f s (λ d. held o (from s d))

  pub stepped : (next after : List ℕ) → ((i : ℕ) → i < 32 → (at next (2 * i) ≡ at low i) × (at next (2 * i + 1) ≡ at high i))
      → ((i : ℕ) → i < 32 → (at after (2 * i) ≡ at low' i) × (at after (2 * i + 1) ≡ at high' i)) → Stepped (held m) f o next after
  stepped next after en ea = record {
    metrics = woven_lanes (λ s. via (held m) f s (choice (held m) f s)) low high next low_metric high_metric en;
    taken = woven_lanes (λ s. held o (from s (choice (held m) f s))) low' high' after low_taken high_taken ea;
  }

-- the sums fit a byte
pub fits : {f : ℕ → ℕ → ℕ} {a c : ℕ → ℕ} → Costed f a c → ((m b : ℕ) → f m b ≤ 14) → (m : List ℕ) → ((t : ℕ) → t < 64 → at m t ≤ 241)
    → (i : ℕ) → i < 32 → ((at m i + a i < 256) × (at m (i + 32) + c i < 256)) × ((at m i + c i < 256) × (at m (i + 32) + a i < 256))
fits {f} {a} {c} k small m b i h =
    let p : at m i ≤ 241 = b i (omega arith) in
    let q : at m (i + 32) ≤ 241 = b (i + 32) (omega arith) in
    let ai : a i ≤ 14 = rw (sym (k.even_zero i h)) (small (lane i) 0) in
    let ci : c i ≤ 14 = rw (sym (k.even_one i h)) (small (lane i) 1) in
    ((omega arith, omega arith), (omega arith, omega arith))
