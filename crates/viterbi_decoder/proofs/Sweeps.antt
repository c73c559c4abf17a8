-- What the loops over the steps and the rows keep.
-- Assumes nothing.
use mathlib.Core.Bool.{Bool, true, false}
use mathlib.Core.Path.{◌≡◌, refl, sym, ◌∙◌, ap, ap₂}
use mathlib.Core.List.{List, [], ◌∷◌, ◌++◌, reverse, reverse-cons, reverse-append, append_assoc, append-nil}
use Prim.Native.Nat.{ℕ, zero, suc, ◌+◌, ◌-◌, ◌*◌, ◌/◌, ◌%◌, ◌^◌, ◌≤◌, ◌<◌}
use native.Mathlib.Omega.{arith}
use native.Mathlib.Nat.{add-zero, two-pow-succ, mul_assoc}
use native.Mathlib.Numerals.{add-one}
use native.Mathlib.Decide.{ℕ_discrete}
use borrow.Author.Tests.{eqb-true, eqb-false, ltb-true, ltb-false}
use lib.Dec.{eqb, ltb}
use lib.ListN.{length, get_or, set, take, drop, replicate, get_or-replicate, length-set, take-append-drop, get_or-append, length-append}
use lib.Pow.{pow-add}
use lib.Seq.{get_or-set_same, get_or-set_other, drop-cons, drop-set-lt, drop-length, take-set-le, length-take-le, drop_at, get_or-take, get_or-append-add}
use Rattle.common.specs.Choice.{pick}
use Rattle.common.specs.Lists.{placed}
use Rattle.common.proofs.Computed as computed
use Rattle.common.proofs.Outputs.{length_placed}
use Rattle.convolutional_code.specs.Bits.{Bits, none, more}
use Rattle.convolutional_code.specs.Code.{next_memory}
use Rattle.convolutional_code.proofs.Bits.{next_lt}
use Rattle.convolutional_code.specs.Costs.{Costs, cost_from, at, Pairs}
use Rattle.viterbi_decoder.specs.Best.{Decoded}
use Rattle.viterbi_decoder.specs.Metric.{far, from, via, choice, metric, choices, path, survivor, FirstLeast}
use Rattle.viterbi_decoder.proofs.Paths.{choice_lt, Answer, answer}
use Rattle.viterbi_decoder.proofs.Spread.{metric_le, spread}
use Rattle.viterbi_decoder.proofs.Laws.{decoded_same}
use Rattle.viterbi_decoder.specs.Lanes.{lane, held, Bounded, row_cost, row_costs, Stepped, origin, Metrics, Origins, Carried, Forward, low, traced}
use Rattle.viterbi_decoder.proofs.Butterfly.{lane_lt, lane_lane}

pub started : (m l s : ℕ) → m < 64 → l ≡ lane m → s < 64 → held (set (replicate 64 far) l 0) s ≡ pick (eqb s m) 0 far
started m l s h q lt = rw q (go (eqb s m) refl)
  where
    go : (t : Bool) → eqb s m ≡ t → get_or (set (replicate 64 far) (lane m) 0) (lane s) 0 ≡ pick t 0 far
    go true e = rw (eqb-true s m e, get_or-set_same (replicate 64 far) (lane m) 0 0 (lane_lt m))
    go false e =
        get_or-set_other (replicate 64 far) (lane m) (lane s) 0 0 (λ x. eqb-false s m e (sym (lane_lane s lt) ∙ (ap lane x ∙ lane_lane m h)))
        ∙ get_or-replicate 64 (lane s) far 0 (lane_lt s)

-- ---- metrics less an offset give the same step

module _ (M N : ℕ → ℕ) (o : ℕ) (same : (t : ℕ) → t < 64 → M t + o ≡ N t) (f : ℕ → ℕ → ℕ) (s : ℕ) where
  via_same : (d : ℕ) → d < 2 → via M f s d + o ≡ via N f s d
  unfolding via
  via_same d h = omega (arith, same (from s d) (omega arith))

  tests : ltb (via M f s 1) (via M f s 0) ≡ ltb (via N f s 1) (via N f s 0)
  tests = shifted (via M f s 1) (via M f s 0) (via N f s 1) (via N f s 0) (via_same 1 (omega arith)) (via_same 0 (omega arith))
    where
      shifted : (a b a' b' : ℕ) → a + o ≡ a' → b + o ≡ b' → ltb a b ≡ ltb a' b'
      shifted a b a' b' p q = go (ltb a b) (ltb a' b') refl refl
        where
          go : (u v : Bool) → ltb a b ≡ u → ltb a' b' ≡ v → u ≡ v
          go true true x y = refl
          go false false x y = refl
          go true false x y = absurd (omega (arith, ltb-true a b x, ltb-false a' b' y))
          go false true x y = absurd (omega (arith, ltb-false a b x, ltb-true a' b' y))

  choice_same : choice M f s ≡ choice N f s
  unfolding choice
  choice_same = ap (λ (t : Bool). pick t 1 0) tests

  step_same : via M f s (choice M f s) + o ≡ via N f s (choice N f s)
  step_same = via_same (choice M f s) (choice_lt M f s) ∙ ap (via N f s) choice_same

-- ---- a block of steps

pub small_costs : (rows : List (List ℕ)) (steps : List ℕ) → Bounded rows → Pairs steps → (k s b : ℕ) → row_costs rows steps k s b ≤ 14
unfolding row_costs row_cost
small_costs rows steps h l k s b = h (at steps k) (l k) ((lane s + 32 * b) % 64) (omega arith)

-- each lane is its own origin
abbrev lanes : List ℕ
lanes = 0 ∷ 1 ∷ 2 ∷ 3 ∷ 4 ∷ 5 ∷ 6 ∷ 7 ∷ 8 ∷ 9 ∷ 10 ∷ 11 ∷ 12 ∷ 13 ∷ 14 ∷ 15 ∷ 16 ∷ 17 ∷ 18 ∷ 19 ∷ 20 ∷ 21 ∷ 22 ∷ 23 ∷ 24 ∷ 25 ∷ 26 ∷ 27 ∷ 28 ∷ 29 ∷ 30 ∷ 31 ∷ 32 ∷ 33 ∷ 34 ∷ 35 ∷ 36 ∷ 37 ∷ 38 ∷ 39 ∷ 40 ∷ 41 ∷ 42 ∷ 43 ∷ 44 ∷ 45 ∷ 46 ∷ 47 ∷ 48 ∷ 49 ∷ 50 ∷ 51 ∷ 52 ∷ 53 ∷ 54 ∷ 55 ∷ 56 ∷ 57 ∷ 58 ∷ 59 ∷ 60 ∷ 61 ∷ 62 ∷ 63 ∷ []

own_lane : (r : ℕ) → r < 64 → at lanes r ≡ r
own_lane = computed.agree_at (at lanes) (λ r. r) 64 tt

-- after j of the steps, which add at most 14 each
pub record Carrying (F : Costs) (k j : ℕ) (before metrics origins : List ℕ) : Type 0 where
  pub sure : Carried F k j before metrics origins
  pub bounded : (t : ℕ) → t < 64 → held metrics t ≤ 168 + 14 * j

carrying_none : (F : Costs) (k : ℕ) (before : List ℕ) → ((t : ℕ) → t < 64 → at before t ≤ 168) → Carrying F k 0 before before lanes
unfolding origin
carrying_none F k before h = record {
  sure = record {
    metrics_are = λ m o e. rw add-zero e;
    origins_are = λ m o e s l. own_lane (lane s) (lane_lt s);
  };
  bounded = λ t l. omega (arith, h (lane t) (lane_lt t));
}

module _ {F : Costs} {k j : ℕ} {before ms os : List ℕ} (g : Carrying F k j before ms os) (hj : j < 6) where
  fits_byte : (t : ℕ) → t < 64 → at ms t ≤ 241
  fits_byte t h = omega (arith, g.bounded (lane t) (lane_lt t), ap (at ms) (lane_lane t h))

  carrying_more : ((k s b : ℕ) → F k s b ≤ 14) → {next from-lanes : List ℕ} → Stepped (held ms) (F (k + j)) os next from-lanes → Carrying F k (j + 1) before next from-lanes
  unfolding metric origin via
  carrying_more hs {next} {from-lanes} st =
      record {
        sure = record { metrics_are = metrics; origins_are = origins };
        bounded = next_le;
      }
    where
      metrics : (m o : ℕ) → Metrics F m k o before → Metrics F m (k + (j + 1)) o next
      metrics m o e s q =
          let n : k + (j + 1) ≡ suc (k + j) = omega arith in
          rw (n, st.metrics s q) (step_same (held ms) (metric F m (k + j)) o (g.sure.metrics_are m o e) (F (k + j)) s)

      origins : (m o : ℕ) → Metrics F m k o before → Origins F m k (j + 1) (at from-lanes)
      origins m o e s q =
          let d : ℕ = choice (held ms) (F (k + j)) s in
          let hd : d < 2 = choice_lt (held ms) (F (k + j)) s in
          let c : d ≡ choices F m (k + j) s = choice_same (held ms) (metric F m (k + j)) o (g.sure.metrics_are m o e) (F (k + j)) s in
          st.taken s q ∙ g.sure.origins_are m o e (from s d) (omega arith) ∙ rw (add-one, c)

      next_le : (t : ℕ) → t < 64 → held next t ≤ 168 + 14 * (j + 1)
      next_le t h =
          let d : ℕ = choice (held ms) (F (k + j)) t in
          let hd : d < 2 = choice_lt (held ms) (F (k + j)) t in
          omega (arith, st.metrics t h, g.bounded (from t d) (omega arith), hs (k + j) (from t d) (t / 32))

-- k of the steps up to `end` are done, from step k₀ on
pub record InBlock (F : Costs) (k₀ k end : ℕ) (before metrics origins : List ℕ) : Type 0 where
  pub begun : k₀ ≤ k
  pub most : k ≤ end
  pub few : end ≤ k₀ + 6
  pub size : length origins ≡ 64
  pub carrying : Carrying F k₀ (k - k₀) before metrics origins

pub in_block_none : (F : Costs) (k end : ℕ) (before : List ℕ) → k ≤ end → end ≤ k + 6 → ((t : ℕ) → t < 64 → at before t ≤ 168) → InBlock F k k end before before lanes
in_block_none F k end before l f h =
    let z : k - k ≡ 0 = omega arith in
    record { begun = omega arith; most = l; few = f; size = refl; carrying = rw z (carrying_none F k before h) }

module _ {F : Costs} {k₀ k end : ℕ} {before ms os : List ℕ} (g : InBlock F k₀ k end before ms os) where
  pub in_block_fits : k < end → (t : ℕ) → t < 64 → at ms t ≤ 241
  in_block_fits h = fits_byte g.carrying (omega (arith, g.few, g.begun))

  pub in_block_more : ((k s b : ℕ) → F k s b ≤ 14) → k < end → {next from-lanes : List ℕ} → length from-lanes ≡ 64
      → Stepped (held ms) (F k) os next from-lanes → InBlock F k₀ (k + 1) end before next from-lanes
  in_block_more hs h z st =
      let e : k₀ + (k - k₀) ≡ k = omega (arith, g.begun) in
      let n : k + 1 - k₀ ≡ k - k₀ + 1 = omega (arith, g.begun) in
      record {
        begun = omega (arith, g.begun);
        most = omega arith;
        few = g.few;
        size = z;
        carrying = rw n (carrying_more g.carrying (omega (arith, g.few, g.begun)) hs (rw e st));
      }

  pub in_block_all : end ≤ k → Carried F k₀ (end - k₀) before ms os
  in_block_all h = let e : end ≡ k = omega (arith, g.most) in rw e g.carrying.sure

-- ---- the forward loop

-- the next block ends with step `end`, and the metrics are bytes again
pub record Going (F : Costs) (m n size k end : ℕ) (metrics : List ℕ) (offset : ℕ) (rows : List ℕ) : Type 0 where
  pub next : k ≡ end - 6
  pub whole : end % 6 ≡ n % 6
  pub most : end ≤ n + 6
  pub length_is : length rows ≡ size
  pub metrics_are : Metrics F m k offset metrics
  pub origins_are : (b : ℕ) → b < k / 6 → Origins F m (n % 6 + 6 * b) 6 (λ r. at rows (64 * b + r))
  pub bounded : (t : ℕ) → t < 64 → at metrics t ≤ 168

pub going_none : (F : Costs) (m n : ℕ) (ms rows : List ℕ) → ((s : ℕ) → s < 64 → held ms s ≡ pick (eqb s m) 0 far)
    → Going F m n (length rows) 0 (n % 6) ms 0 rows
unfolding metric
going_none F m n ms rows h = record {
  next = omega arith;
  whole = omega arith;
  most = omega arith;
  length_is = refl;
  metrics_are = λ s q. add-zero (held ms s) ∙ h s q;
  origins_are = λ b q. absurd (omega arith);
  bounded = λ t q. rw (sym (lane_lane t q)) (rw (h (lane t) (lane_lt t)) (small (eqb (lane t) m)));
}
  where
    small : (t : Bool) → pick t 0 far ≤ 168
    small true = omega arith
    small false = omega arith

-- a row of a buffer after a list was put into it
row_placed : (rows os : List ℕ) (p : ℕ) → p + length os ≤ length rows → (i : ℕ) → i < length os → at (placed rows p os) (p + i) ≡ at os i
row_placed rows os p h i l =
    let e : length (take p rows) ≡ p = length-take-le p rows (omega arith) in
    get_or-append (take p rows ++ os) (drop (p + length os) rows) 0 (p + i) (omega (arith, e, length-append (take p rows) os))
    ∙ ap (λ (x : ℕ). at (take p rows ++ os) (x + i)) (sym e)
    ∙ get_or-append-add (take p rows) os i 0

row_kept : (rows os : List ℕ) (p : ℕ) → p + length os ≤ length rows → (i : ℕ) → i < p → at (placed rows p os) i ≡ at rows i
row_kept rows os p h i l =
    let e : length (take p rows) ≡ p = length-take-le p rows (omega arith) in
    get_or-append (take p rows ++ os) (drop (p + length os) rows) 0 i (omega (arith, e, length-append (take p rows) os))
    ∙ get_or-append (take p rows) os 0 i (omega (arith, e))
    ∙ get_or-take p rows i 0 l

-- the same by the number of the next block
pub going_begun : {F : Costs} {m n size : ℕ} {ms rows : List ℕ} → Going F m n size 0 (n % 6) ms 0 rows → Going F m n size (n % 6 + 6 * 0 - 6) (n % 6 + 6 * 0) ms 0 rows
going_begun {n = n} g =
    let begin : n % 6 + 6 * 0 - 6 ≡ 0 = omega arith in
    let end : n % 6 + 6 * 0 ≡ n % 6 = omega arith in
    rw (begin, end) g

pub going_next : {F : Costs} {m n size : ℕ} (block : ℕ) {ms rows : List ℕ} {o : ℕ} → Going F m n size (n % 6 + 6 * block) (n % 6 + 6 * block + 6) ms o rows
    → Going F m n size (n % 6 + 6 * (block + 1) - 6) (n % 6 + 6 * (block + 1)) ms o rows
going_next {n = n} block g =
    let begin : n % 6 + 6 * (block + 1) - 6 ≡ n % 6 + 6 * block = omega arith in
    let end : n % 6 + 6 * (block + 1) ≡ n % 6 + 6 * block + 6 = omega arith in
    rw (begin, end) g

module _ {F : Costs} {m n size k end : ℕ} {ms : List ℕ} {o : ℕ} {rows : List ℕ} (g : Going F m n size k end ms o rows) (hs : (k s b : ℕ) → F k s b ≤ 14) (hn : n ≤ 1632) where
  -- the offset is at most a metric
  pub offset_le : o ≤ 30000
  offset_le = omega (arith, g.next, g.most, g.metrics_are 0 (omega arith), metric_le F hs m k 0)

  module _ {next os : List ℕ} (c : Carried F k (end - k) ms next os) (l : end ≤ n) where
    after : Metrics F m end o next
    after = let e : k + (end - k) ≡ end = omega (arith, g.next) in rw e at (c.metrics_are m o g.metrics_are)

    -- the steps before the first whole block
    pub going_first : end < 6 → Going F m n size end (end + 6) next o rows
    going_first h = record {
      next = omega arith;
      whole = omega (arith, g.whole);
      most = omega arith;
      length_is = g.length_is;
      metrics_are = after;
      origins_are = λ b q. absurd (omega arith);
      bounded = λ t q. omega (arith, ap (at next) (lane_lane t q), after (lane t) (lane_lt t), metric_le F hs m end (lane t));
    }

    -- all metrics lie within 84 of each other
    pub close : 6 ≤ end → (s t : ℕ) → s < 64 → t < 64 → at next s ≤ at next t + 84
    close q s t hs' ht =
        omega (
          arith,
          ap (at next) (lane_lane s hs'),
          ap (at next) (lane_lane t ht),
          after (lane s) (lane_lt s),
          after (lane t) (lane_lt t),
          spread F hs m end (lane s) (lane t) q (lane_lt s),
        )

    -- a whole block
    pub going_more : 6 ≤ end → length os ≡ 64 → 64 * (n / 6) ≤ size → (lower : List ℕ) (o' : ℕ) → ((t : ℕ) → t < 64 → at lower t + o' ≡ at next t + o)
        → ((t : ℕ) → t < 64 → at lower t ≤ 168) → Going F m n size end (end + 6) lower o' (placed rows (64 * (end / 6 - 1)) os)
    going_more h lo room lower o' e z =
        record {
          next = omega arith;
          whole = omega (arith, g.whole);
          most = omega arith;
          length_is = length_placed rows (64 * (end / 6 - 1)) os fits ∙ g.length_is;
          metrics_are = λ s q. e (lane s) (lane_lt s) ∙ after s q;
          origins_are = λ b q. go b q (ℕ_discrete b (end / 6 - 1));
          bounded = z;
        }
      where
        fits : 64 * (end / 6 - 1) + length os ≤ length rows
        fits = omega (arith, g.length_is)

        go : (b : ℕ) → b < end / 6 → Dec (b ≡ end / 6 - 1) → Origins F m (n % 6 + 6 * b) 6 (λ r. at (placed rows (64 * (end / 6 - 1)) os) (64 * b + r))
        go b q (yes w) s r =
            let k' : n % 6 + 6 * (end / 6 - 1) ≡ k = omega (arith, g.next, g.whole) in
            let six : end - k ≡ 6 = omega (arith, g.next) in
            let t : at os (lane s) ≡ lane (origin (λ i. choices F m (k + i)) 6 s) = rw six at (c.origins_are m o g.metrics_are s r) in
            rw (w, k') (row_placed rows os (64 * (end / 6 - 1)) fits (lane s) (omega (arith, lane_lt s)) ∙ t)
        go b q (no w) s r =
            row_kept rows os (64 * (end / 6 - 1)) fits (64 * b + lane s) (omega (arith, lane_lt s, g.next))
            ∙ g.origins_are b (omega (arith, g.next)) s r

  pub going_all : n < end → Forward F m n ms o rows
  going_all h =
      let e : k ≡ n = omega (arith, g.next, g.whole, g.most) in
      record { metrics_are = rw e at g.metrics_are; origins_are = λ b q. g.origins_are b (omega arith) }

-- ---- the bits of a lane

drop-set : (output : List ℕ) (k b : ℕ) → k < length output → drop k (set output k b) ≡ b ∷ drop (suc k) output
drop-set output k b h =
    drop-cons (set output k b) k 0 (rw length-set h) ∙ rw (get_or-set_same output k b 0 h, drop-set-lt (suc k) output k b (omega arith))

low_more : (i r place : ℕ) (output all : List ℕ) → place + i < length output → reverse (low (suc i) r) ++ drop (place + suc i) output ≡ all
    → reverse (low i (r / 2)) ++ drop (place + i) (set output (place + i) (r % 2)) ≡ all
unfolding low
low_more i r place output all h e =
    let q : place + suc i ≡ suc (place + i) = omega arith in
    rw (drop-set output (place + i) (r % 2) h)
    (sym (append_assoc (reverse (low i (r / 2))) (r % 2 ∷ []) (drop (suc (place + i)) output)) ∙ (rw (reverse-cons, q) at e))

-- the bits still to be written, then what is written, are all
pub record Lowering (lane n place : ℕ) (output₀ : List ℕ) (r i : ℕ) (output : List ℕ) : Type 0 where
  pub most : i ≤ n
  pub size : length output ≡ length output₀
  pub front : take place output ≡ take place output₀
  pub back : reverse (low i r) ++ drop (place + i) output ≡ reverse (low n lane) ++ drop (place + n) output₀

pub lowering_none : (lane n place : ℕ) (output : List ℕ) → Lowering lane n place output lane n output
lowering_none lane n place output = record { most = omega arith; size = refl; front = refl; back = refl }

pub lowering_more : {lane n place : ℕ} {output₀ : List ℕ} {r i : ℕ} {output : List ℕ} → place + n ≤ length output₀ → 0 < i → Lowering lane n place output₀ r i output
    → Lowering lane n place output₀ (r / 2) (i - 1) (set output (place + (i - 1)) (r % 2))
lowering_more {i = zero} h l g = absurd (omega arith)
lowering_more {place = place} {r = r} {i = suc i} {output = output} h l g = record {
  most = omega (arith, g.most);
  size = length-set output _ _ ∙ g.size;
  front = take-set-le place output _ _ (omega arith) ∙ g.front;
  back = let one : suc i - 1 ≡ i = omega arith in rw one (low_more i r place output _ (omega (arith, g.most, g.size)) g.back);
}

pub lowering_all : {lane n place : ℕ} {output₀ : List ℕ} {r i : ℕ} {output : List ℕ} → i ≡ 0 → Lowering lane n place output₀ r i output
    → output ≡ take place output₀ ++ reverse (low n lane) ++ drop (place + n) output₀
unfolding low
lowering_all {lane = lane} {n = n} {place = place} {output₀ = output₀} {i = zero} {output = output} e g =
    let b : drop place output ≡ reverse (low n lane) ++ drop (place + n) output₀ = rw add-zero at g.back in
    sym (take-append-drop place output)
    ∙ ap₂ (λ (x y : List ℕ). x ++ y) g.front b
    ∙ sym (append_assoc (take place output₀) (reverse (low n lane)) (drop (place + n) output₀))
lowering_all {i = suc i} e g = absurd (omega arith)

-- ---- the trace loop

-- the bits still to be written, then what is written, are the whole
pub Whole : List ℕ → ℕ → ℕ → ℕ → List ℕ → List ℕ → Type 0
Whole rows rest b r output all = reverse (traced rows rest b r) ++ drop (rest + 6 * b) output ≡ all

pub trace_none : (rows : List ℕ) (r : ℕ) (output : List ℕ)
    → Whole rows (length output % 6) (length output / 6) r output (reverse (traced rows (length output % 6) (length output / 6) r))
unfolding Whole
trace_none rows r output =
    let n = length output in
    let e : n % 6 + 6 * (n / 6) ≡ n = omega arith in
    ap (λ (i : ℕ). reverse (traced rows (n % 6) (n / 6) r) ++ drop i output) e
    ∙ ap (λ (l : List ℕ). reverse (traced rows (n % 6) (n / 6) r) ++ l) (drop-length output)
    ∙ append-nil (reverse (traced rows (n % 6) (n / 6) r))

-- an output with a list put into it, from that place on
drop_put : (output s : List ℕ) (p n : ℕ) → p ≤ length output → drop p (take p output ++ s ++ drop n output) ≡ s ++ drop n output
drop_put output s p n h =
    ap (drop p) (append_assoc (take p output) s (drop n output)) ∙ drop_at (take p output) (s ++ drop n output) p (length-take-le p output h)

pub trace_more : (rows : List ℕ) (rest b r : ℕ) (output new all : List ℕ) → 0 < b → rest + 6 * b ≤ length output → Whole rows rest b r output all
    → new ≡ take (rest + 6 * (b - 1)) output ++ reverse (low 6 r) ++ drop (rest + 6 * (b - 1) + 6) output
    → Whole rows rest (b - 1) (at rows (64 * (b - 1) + r)) new all
unfolding Whole traced
trace_more rows rest zero r output new all h l w e = absurd (omega arith)
trace_more rows rest (suc b) r output new all h l w e =
    let one : suc b - 1 ≡ b = omega arith in
    let q : rest + 6 * b + 6 ≡ rest + 6 * suc b = omega arith in
    let t : List ℕ = traced rows rest b (at rows (64 * b + r)) in
    rw one
    (ap (λ (x : List ℕ). reverse t ++ drop (rest + 6 * b) x) (rw one at e)
    ∙ ap (λ (x : List ℕ). reverse t ++ x) (drop_put output (reverse (low 6 r)) (rest + 6 * b) (rest + 6 * b + 6) (omega arith))
    ∙ sym (append_assoc (reverse t) (reverse (low 6 r)) (drop (rest + 6 * b + 6) output))
    ∙ ap₂ (λ (x : List ℕ) (i : ℕ). x ++ drop i output) (sym (reverse-append (low 6 r) t)) q
    ∙ w)

pub trace_all : (rows : List ℕ) (rest b r : ℕ) (output new all : List ℕ) → b ≡ 0 → Whole rows rest b r output all
    → new ≡ take 0 output ++ reverse (low rest r) ++ drop (0 + rest) output → new ≡ all
unfolding Whole traced
trace_all rows rest zero r output new all h w e =
    let q : 0 + rest ≡ rest + 6 * 0 = omega arith in
    e ∙ ap (λ (i : ℕ). reverse (low rest r) ++ drop i output) q ∙ w
trace_all rows rest (suc b) r output new all h w e = absurd (omega arith)

-- ---- the newest bits of a path are those of the memory that it ends in

low_add : (j r c : ℕ) → low j (r + 2 ^ j * c) ≡ low j r
unfolding low
low_add zero r c = refl
low_add (suc j) r c =
    let e : 2 ^ suc j * c ≡ 2 * (2 ^ j * c) = ap (λ (x : ℕ). x * c) (pow_suc j) ∙ mul_assoc 2 (2 ^ j) c in
    let a : (r + 2 ^ suc j * c) % 2 ≡ r % 2 = omega (arith, e) in
    let b : (r + 2 ^ suc j * c) / 2 ≡ r / 2 + 2 ^ j * c = omega (arith, e) in
    ap₂ (λ (x y : ℕ). x ∷ low j y) a b ∙ ap (λ (l : List ℕ). r % 2 ∷ l) (low_add j (r / 2) c)
  where
    pow_suc : (j : ℕ) → 2 ^ suc j ≡ 2 * 2 ^ j
    pow_suc j = omega (arith, two-pow-succ j)

-- the oldest bit of the six is not among five
low_top : (j r d : ℕ) → j ≤ 5 → low j (r + 32 * d) ≡ low j r
low_top j r d h =
    let e : 32 * d ≡ 2 ^ j * (2 ^ (5 - j) * d)
    = ap (λ (x : ℕ). 2 ^ x * d) five ∙ ap (λ (x : ℕ). x * d) (pow-add 2 j (5 - j)) ∙ mul_assoc (2 ^ j) (2 ^ (5 - j)) d in
    ap (λ (x : ℕ). low j (r + x)) e ∙ low_add j r (2 ^ (5 - j) * d)
  where
    five : 5 ≡ j + (5 - j)
    five = omega arith

lane_top : (s : ℕ) → s < 64 → s / 32 ≡ lane s % 2
unfolding lane
lane_top s h = computed.agree_at (λ s. s / 32) (λ s. lane s % 2) 64 tt s h

lane_back : (s d : ℕ) → s < 64 → d < 2 → lane (from s d) ≡ lane s / 2 + 32 * d
unfolding lane
lane_back s zero h l = computed.agree_at (λ s. lane (from s 0)) (λ s. lane s / 2 + 32 * 0) 64 tt s h
lane_back s (suc zero) h l = computed.agree_at (λ s. lane (from s 1)) (λ s. lane s / 2 + 32 * 1) 64 tt s h
lane_back s (suc (suc d)) h l = absurd (omega arith)

module _ (D : ℕ → ℕ → ℕ) (bit : (k s : ℕ) → D k s < 2) where
  origin_lt : (k j s : ℕ) → s < 64 → origin (λ i. D (k + i)) j s < 64
  unfolding origin
  origin_lt k zero s h = h
  origin_lt k (suc j) s h = origin_lt k j (from s (D (k + j) s)) (omega (arith, bit (k + j) s))

  newest : (k j s : ℕ) → j ≤ 6 → s < 64 → path D (k + j) s ≡ low j (lane s) ++ path D k (origin (λ i. D (k + i)) j s)
  unfolding path low origin
  newest k zero s h l = ap (λ (n : ℕ). path D n s) (add-zero k)
  newest k (suc j) s h l =
      let d : ℕ = D (k + j) s in
      let hd : d < 2 = bit (k + j) s in
      let n : k + suc j ≡ suc (k + j) = omega arith in
      let lows : low j (lane (from s d)) ≡ low j (lane s / 2) = ap (low j) (lane_back s d l hd) ∙ low_top j (lane s / 2) d (omega arith) in
      ap (λ (n : ℕ). path D n s) n
      ∙ ap₂ (λ (x : ℕ) (t : List ℕ). x ∷ t) (lane_top s l)
      (newest k j (from s d) (omega arith) (omega arith) ∙ ap (λ (t : List ℕ). t ++ path D k (origin (λ i. D (k + i)) j (from s d))) lows)

-- ---- the whole run

module _ {F : Costs} {m n : ℕ} {ms : List ℕ} {o : ℕ} {rows : List ℕ} (f : Forward F m n ms o rows) where
  bit : (k s : ℕ) → choices F m k s < 2
  bit k s = choice_lt (metric F m k) (F k) s

  traced_path : (b : ℕ) → b ≤ n / 6 → (s : ℕ) → s < 64 → traced rows (n % 6) b (lane s) ≡ survivor F m (n % 6 + 6 * b) s
  unfolding traced path
  traced_path zero h s l =
      let e : n % 6 + 6 * 0 ≡ 0 + n % 6 = omega arith in
      sym (ap (λ (i : ℕ). survivor F m i s) e ∙ newest (choices F m) bit 0 (n % 6) s (omega arith) l ∙ append-nil (low (n % 6) (lane s)))
  traced_path (suc b) h s l =
      let k = n % 6 + 6 * b in
      let e : n % 6 + 6 * suc b ≡ k + 6 = omega arith in
      let t : ℕ = origin (λ i. choices F m (k + i)) 6 s in
      ap (λ (r : ℕ). low 6 (lane s) ++ traced rows (n % 6) b r) (f.origins_are b (omega arith) s l)
      ∙ ap (λ (p : List ℕ). low 6 (lane s) ++ p) (traced_path b (omega arith) t (origin_lt (choices F m) bit k 6 s l))
      ∙ sym (ap (λ (i : ℕ). survivor F m i s) e ∙ newest (choices F m) bit k 6 s (omega arith) l)

  pub rows_small : (i : ℕ) → i < 64 * (n / 6) → at rows i < 64
  rows_small i h =
      let r = i % 64 in
      let e : 64 * (i / 64) + r ≡ i = omega arith in
      let q : at rows (64 * (i / 64) + r) ≡ lane (origin (λ j. choices F m (n % 6 + 6 * (i / 64) + j)) 6 (lane r))
      = ap (λ (x : ℕ). at rows (64 * (i / 64) + x)) (sym (lane_lane r (omega arith))) ∙ f.origins_are (i / 64) (omega arith) (lane r) (lane_lt r) in
      rw (sym e) (rw q (lane_lt (origin (λ j. choices F m (n % 6 + 6 * (i / 64) + j)) 6 (lane r))))

  ends_same : (os : List ℕ) → ((s : ℕ) → s < 64 → at os s ≡ held ms s) → {s : ℕ} → FirstLeast (at os) 64 s → FirstLeast (metric F m n) 64 s
  ends_same os eo {s} e =
      record {
        small = e.small;
        least = λ t h. omega (arith, e.least t h, f.metrics_are t h, f.metrics_are s e.small, eo t h, eo s e.small);
        first = λ t h. omega (arith, e.first t h, f.metrics_are t (below t h), f.metrics_are s e.small, eo t (below t h), eo s e.small);
      }
    where
      below : (t : ℕ) → t < s → t < 64
      below t h = omega (arith, e.small)

  pub decoded : ((k s b : ℕ) → F k s b ≤ 14) → m < 64 → (os : List ℕ) → ((s : ℕ) → s < 64 → at os s ≡ held ms s) → {s : ℕ} → FirstLeast (at os) 64 s → (l : ℕ) → l ≡ lane s
      → Decoded (cost_from F 0 m) n m (reverse (traced rows (n % 6) (n / 6) l)) (at os s + o) s
  decoded h hm os eo {s} e l el =
      let all : n % 6 + 6 * (n / 6) ≡ n = omega arith in
      let same : traced rows (n % 6) (n / 6) l ≡ survivor F m n s
      = ap (traced rows (n % 6) (n / 6)) el ∙ traced_path (n / 6) (omega arith) s e.small ∙ ap (λ (i : ℕ). survivor F m i s) all in
      let a : Answer F n m s (reverse (survivor F m n s)) = answer F h m hm s n (ends_same os eo e) in
      rw same
      (record { best = a.best; costs = ap (λ (x : ℕ). x + o) (eo s e.small) ∙ (f.metrics_are s e.small ∙ sym a.costs); ends = sym a.ends })

pub total_le : {F : Costs} {m n : ℕ} {ms : List ℕ} {o : ℕ} {rows : List ℕ} → Forward F m n ms o rows → ((k s b : ℕ) → F k s b ≤ 14) → n ≤ 1632
    → (s v : ℕ) → s < 64 → v ≡ held ms s → v + o ≤ 30000
total_le {F} {m} {n} f h l s v q e = omega (arith, f.metrics_are s q, metric_le F h m n s)

-- ---- costs that are the same out of every memory

cost_same : (F G : Costs) → ((k s b : ℕ) → s < 64 → b < 2 → F k s b ≡ G k s b) → (k m : ℕ) → m < 64 → {bs : List ℕ} → Bits bs → cost_from F k m bs ≡ cost_from G k m bs
unfolding cost_from
cost_same F G e k m h none = refl
cost_same F G e k m h (more {b} {l} q w) = ap₂ (λ (x y : ℕ). x + y) (e k m b h q) (cost_same F G e (suc k) (next_memory m b) (next_lt m b h q) w)

pub decoded_by : (F G : Costs) → ((k s b : ℕ) → s < 64 → b < 2 → F k s b ≡ G k s b) → (m n : ℕ) → m < 64 → {bits : List ℕ} {total after : ℕ}
    → Decoded (cost_from F 0 m) n m bits total after → Decoded (cost_from G 0 m) n m bits total after
decoded_by F G e m n h d = decoded_same n m (λ ys w l. cost_same F G e 0 m h w) d
