-- The survivor of the first memory with the least metric is the best sequence.
-- Assumes nothing.
use mathlib.Core.Path.{◌≡◌, refl, sym, ◌∙◌, ap}
use mathlib.Core.Bool.{Bool, true, false}
use mathlib.Core.Logic.{⊎_elim}
use mathlib.Core.List.{List, [], ◌∷◌, ◌++◌, reverse, reverse-cons, reverse-reverse}
use Prim.Native.Nat.{ℕ, zero, suc, ◌+◌, ◌*◌, ◌/◌, ◌%◌, ◌^◌, ◌≤◌, ◌<◌}
use native.Mathlib.Omega.{arith}
use native.Mathlib.Nat.{eq-or-lt_of_le, two-pow-succ, mul-suc, add-zero, zero-add, suc-add, add-suc, mul-add}
use borrow.Author.Tests.{ltb-true, ltb-false, eqb-true, eq-eqb}
use lib.Dec.{ltb, eqb}
use lib.ListN.{length, length-reverse, replicate, length-replicate}
use Rattle.common.specs.Choice.{pick}
use Rattle.convolutional_code.specs.Bits.{Bits, none, more}
use Rattle.convolutional_code.specs.Code.{next_memory, memory_after}
use Rattle.convolutional_code.proofs.Bits.{bits_tail, zero_bits, next_lt, memory_snoc}
use Rattle.viterbi_decoder.specs.Best.{Best}
use Rattle.viterbi_decoder.proofs.Order.{rank, bits_head, rank_ties}
use Rattle.convolutional_code.specs.Costs.{Costs, cost_from}
use Rattle.viterbi_decoder.specs.Metric.{far, from, via, choice, metric, path, survivor, FirstLeast}

-- memory, cost and rank of bits that stand newest first
memory : ℕ → List ℕ → ℕ
memory m [] = m
memory m (b ∷ bs) = next_memory (memory m bs) b

cost : Costs → ℕ → List ℕ → ℕ
cost F m [] = 0
cost F m (b ∷ bs) = cost F m bs + F (length bs) (memory m bs) b

value : List ℕ → ℕ
value [] = 0
value (b ∷ bs) = value bs + b * 2 ^ length bs

memory_lt : (m : ℕ) → m < 64 → {bs : List ℕ} → Bits bs → memory m bs < 64
unfolding memory
memory_lt m h none = h
memory_lt m h (more q w) = omega (arith, memory_lt m h w)

cost_le : (F : Costs) (m c : ℕ) → ((k s b : ℕ) → F k s b ≤ c) → (bs : List ℕ) → cost F m bs ≤ c * length bs
unfolding cost
cost_le F m c h [] = omega arith
cost_le F m c h (b ∷ bs) = omega (arith, mul-suc c (length bs), cost_le F m c h bs, h (length bs) (memory m bs) b)

value_lt : (bs : List ℕ) → Bits bs → value bs < 2 ^ length bs
unfolding value
value_lt [] w = omega arith
value_lt (zero ∷ bs) w = omega (arith, value_lt bs (bits_tail w), two-pow-succ (length bs))
value_lt (suc zero ∷ bs) w = omega (arith, value_lt bs (bits_tail w), two-pow-succ (length bs))
value_lt (suc (suc b) ∷ bs) w = absurd (omega (arith, bits_head w))

-- of two sequences of one length from one memory, the one that leads to the smaller memory comes first
order : (m : ℕ) → m < 64 → (xs ys : List ℕ) → Bits xs → Bits ys → length xs ≡ length ys → memory m xs < memory m ys → value xs < value ys
unfolding memory value
order m h [] [] v w l o = absurd (omega arith)
order m h [] (y ∷ ys) v w l o = absurd (omega arith)
order m h (x ∷ xs) [] v w l o = absurd (omega arith)
order m h (zero ∷ xs) (zero ∷ ys) v w l o =
    omega (arith, order m h xs ys (bits_tail v) (bits_tail w) (omega arith) (omega arith))
order m h (zero ∷ xs) (suc zero ∷ ys) v w l o =
    let e : length xs ≡ length ys = omega arith in
    omega (arith, value_lt xs (bits_tail v), ap (λ (n : ℕ). 2 ^ n) e)
order m h (zero ∷ xs) (suc (suc y) ∷ ys) v w l o = absurd (omega (arith, bits_head w))
order m h (suc zero ∷ xs) (zero ∷ ys) v w l o = absurd (omega (arith, memory_lt m h (bits_tail w)))
order m h (suc zero ∷ xs) (suc zero ∷ ys) v w l o =
    let e : length xs ≡ length ys = omega arith in
    omega (arith, order m h xs ys (bits_tail v) (bits_tail w) e (omega arith), ap (λ (n : ℕ). 2 ^ n) e)
order m h (suc zero ∷ xs) (suc (suc y) ∷ ys) v w l o = absurd (omega (arith, bits_head w))
order m h (suc (suc x) ∷ xs) (y ∷ ys) v w l o = absurd (omega (arith, bits_head v))

-- what the choice gives: of the two ways into s the cheaper, and d = 0 on a tie
pub record Chosen (M : ℕ → ℕ) (f : ℕ → ℕ → ℕ) (s d : ℕ) : Type 0 where
  pub bit : d < 2
  pub least : (e : ℕ) → e < 2 → via M f s d ≤ via M f s e
  pub tie : (e : ℕ) → e < d → via M f s d < via M f s e

-- what holds of 0 and of 1 holds of each number below 2
of_two : (P : ℕ → Type 0) → P 0 → P 1 → (e : ℕ) → e < 2 → P e
of_two P a b zero h = a
of_two P a b (suc zero) h = b
of_two P a b (suc (suc n)) h = absurd (omega arith)

pub chosen : (M : ℕ → ℕ) (f : ℕ → ℕ → ℕ) (s : ℕ) → Chosen M f s (choice M f s)
unfolding choice
chosen M f s = go (ltb (via M f s 1) (via M f s 0)) refl
  where
    go : (t : Bool) → ltb (via M f s 1) (via M f s 0) ≡ t → Chosen M f s (pick t 1 0)
    go true e =
        let l : via M f s 1 < via M f s 0 = ltb-true _ _ e in
        record {
          bit = omega arith;
          least = of_two (λ d. via M f s 1 ≤ via M f s d) (omega arith) (omega arith);
          tie = elim [ zero ↦ λ h. l | suc n ↦ λ h. absurd (omega arith) ];
        }
    go false e =
        let l : via M f s 0 ≤ via M f s 1 = ltb-false _ _ e in
        record {
          bit = omega arith;
          least = of_two (λ d. via M f s 0 ≤ via M f s d) (omega arith) l;
          tie = λ e h. absurd (omega arith);
        }

pub choice_lt : (M : ℕ → ℕ) (f : ℕ → ℕ → ℕ) (s : ℕ) → choice M f s < 2
choice_lt M f s = (chosen M f s).bit

survivor_length : (F : Costs) (m k s : ℕ) → length (survivor F m k s) ≡ k
unfolding path
survivor_length F m zero s = refl
survivor_length F m (suc k) s = ap suc (survivor_length F m k (from s (choice (metric F m k) (F k) s)))

survivor_bits : (F : Costs) (m k s : ℕ) → s < 64 → Bits (survivor F m k s)
unfolding path
survivor_bits F m zero s h = none
survivor_bits F m (suc k) s h =
    let top : s / 32 < 2 = omega arith in
    more top (survivor_bits F m k (from s (choice (metric F m k) (F k) s)) (omega (arith, (chosen (metric F m k) (F k) s).bit)))

-- a step out of p costs at most what the bit costs
pub step_le : (F : Costs) (m k p b : ℕ) → p < 64 → b < 2 → metric F m (suc k) (next_memory p b) ≤ metric F m k p + F k p b
unfolding metric via
step_le F m k p b h l =
    let s : ℕ = next_memory p b in
    let top : s / 32 ≡ b = omega arith in
    let back : from s (p % 2) ≡ p = omega arith in
    let same : via (metric F m k) (F k) s (p % 2) ≡ metric F m k p + F k p b = rw (top, back) in
    omega (arith, (chosen (metric F m k) (F k) s).least (p % 2) (omega arith), same)

-- no bits that lead to s cost less than its metric
least_bound : (F : Costs) (m : ℕ) → m < 64 → {bs : List ℕ} → Bits bs → metric F m (length bs) (memory m bs) ≤ cost F m bs
unfolding metric memory cost
least_bound F m h none = rw (eq-eqb m m refl) (omega arith)
least_bound F m h (more {b} {l} q w) =
    omega (arith, step_le F m (length l) (memory m l) b (memory_lt m h w) q, least_bound F m h w)

-- six steps lead to every memory
sixth : ℕ → List ℕ
sixth s = s / 32 % 2 ∷ s / 16 % 2 ∷ s / 8 % 2 ∷ s / 4 % 2 ∷ s / 2 % 2 ∷ s % 2 ∷ []

digit : (n : ℕ) → n % 2 < 2
digit n = omega arith

sixth_bits : (s : ℕ) → Bits (sixth s)
unfolding sixth
sixth_bits s = more (digit (s / 32)) (more (digit (s / 16)) (more (digit (s / 8)) (more (digit (s / 4)) (more (digit (s / 2)) (more (digit s) none)))))

lead1 : (p s : ℕ) → p < 64 → next_memory p (s % 2) / 32 ≡ s % 2
lead1 p s h = omega arith

lead2 : (m s : ℕ) → m < 64 → m / 32 ≡ s % 2 → next_memory m (s / 2 % 2) / 16 ≡ s % 4
lead2 m s h e = omega arith

lead3 : (m s : ℕ) → m < 64 → m / 16 ≡ s % 4 → next_memory m (s / 4 % 2) / 8 ≡ s % 8
lead3 m s h e = omega arith

lead4 : (m s : ℕ) → m < 64 → m / 8 ≡ s % 8 → next_memory m (s / 8 % 2) / 4 ≡ s % 16
lead4 m s h e = omega arith

lead5 : (m s : ℕ) → m < 64 → m / 4 ≡ s % 16 → next_memory m (s / 16 % 2) / 2 ≡ s % 32
lead5 m s h e = omega arith

lead6 : (m s : ℕ) → s < 64 → m / 2 ≡ s % 32 → next_memory m (s / 32 % 2) ≡ s
lead6 m s h e = omega arith

pub six_lead : (p s : ℕ) → p < 64 → s < 64
    → next_memory (next_memory (next_memory (next_memory (next_memory (next_memory p (s % 2)) (s / 2 % 2)) (s / 4 % 2)) (s / 8 % 2)) (s / 16 % 2)) (s / 32 % 2) ≡ s
six_lead p s h l =
    let h1 = next_lt p (s % 2) h (digit s) in
    let h2 = next_lt _ (s / 2 % 2) h1 (digit (s / 2)) in
    let h3 = next_lt _ (s / 4 % 2) h2 (digit (s / 4)) in
    let h4 = next_lt _ (s / 8 % 2) h3 (digit (s / 8)) in
    lead6 _ s l (lead5 _ s h4 (lead4 _ s h3 (lead3 _ s h2 (lead2 _ s h1 (lead1 p s h)))))

six_le : (F : Costs) → ((k s b : ℕ) → F k s b ≤ 14) → (m s : ℕ) → m < 64 → s < 64 → metric F m 6 s ≤ 84
unfolding memory sixth
six_le F c m s h l =
    let q : metric F m 6 (memory m (sixth s)) ≤ cost F m (sixth s) = least_bound F m h (sixth_bits s) in
    let e : memory m (sixth s) ≡ s = six_lead m s h l in
    omega (arith, rw e at q, cost_le F m 14 c (sixth s))

-- a metric is the cost of the survivor, which leads to s; in the first five steps, where no sequence has led to every memory, one that is below `far`
record Real (F : Costs) (m k s : ℕ) : Type 0 where
  ends : memory m (survivor F m k s) ≡ s
  costs : cost F m (survivor F m k s) ≡ metric F m k s

Near : Costs → ℕ → ℕ → ℕ → Type 0
Near F m k s = k < 6 → metric F m k s < far

module _ (F : Costs) (c : (k s b : ℕ) → F k s b ≤ 14) (m : ℕ) (hm : m < 64) where
  near_soon : (k s : ℕ) → s < 64 → Near F m (suc k) s → k < 6 → metric F m (suc k) s < far
  unfolding Near
  near_soon k s l n h = ⊎_elim six less (eq-or-lt_of_le h)
    where
      six : suc k ≡ 6 → metric F m (suc k) s < far
      six e = rw e (omega (arith, six_le F c m s hm l))

      less : suc k < 6 → metric F m (suc k) s < far
      less q = n q

  real : (k s : ℕ) → s < 64 → Near F m k s → Real F m k s
  unfolding metric path via memory cost Near
  real zero s h l = go (eqb s m) refl (l (omega arith))
    where
      go : (t : Bool) → eqb s m ≡ t → pick t 0 far < far → Real F m zero s
      go true e q = record { ends = sym (eqb-true s m e); costs = rw e }
      go false e q = absurd (omega arith)
  real (suc k) s h l =
      let d : ℕ = choice (metric F m k) (F k) s in
      let small : d < 2 = (chosen (metric F m k) (F k) s).bit in
      let r : Real F m k (from s d) = real k (from s d) (omega arith) (λ q. omega (arith, near_soon k s h l q)) in
      record {
        ends = rw r.ends (omega arith);
        costs = rw (r.costs, r.ends, survivor_length F m k (from s d));
      }

  -- of the bits that lead to s and cost its metric, its survivor comes first
  abbrev First : List ℕ → Type 0
  First bs = metric F m (length bs) (memory m bs) ≡ cost F m bs → value (survivor F m (length bs) (memory m bs)) ≤ value bs

  -- where the metric of the memory of bs is the cost of bs, the survivor of no memory up to that one comes after bs
  upto : (bs : List ℕ) → Bits bs → First bs → metric F m (length bs) (memory m bs) ≡ cost F m bs
      → (p : ℕ) → p ≤ memory m bs → Near F m (length bs) p → value (survivor F m (length bs) p) ≤ value bs
  upto bs w first same p le near = ⊎_elim equal less (eq-or-lt_of_le le)
    where
      equal : p ≡ memory m bs → value (survivor F m (length bs) p) ≤ value bs
      equal e = rw e (first same)

      less : p < memory m bs → value (survivor F m (length bs) p) ≤ value bs
      less l =
          let in64 : p < 64 = omega (arith, memory_lt m hm w) in
          let r : Real F m (length bs) p = real (length bs) p in64 near in
          omega (
            arith,
            order m hm (survivor F m (length bs) p) bs (survivor_bits F m (length bs) p in64) w (survivor_length F m (length bs) p)
                (omega (arith, r.ends)),
          )

  -- one step more
  module _ (b : ℕ) (bs : List ℕ) (hb : b < 2) (w : Bits bs) (ih : First bs) where
    abbrev k : ℕ
    k = length bs

    abbrev p : ℕ
    p = memory m bs

    abbrev s : ℕ
    s = next_memory p b

    abbrev M : ℕ → ℕ
    M = metric F m k

    abbrev d : ℕ
    d = choice M (F k) s

    same_way : via M (F k) s (p % 2) ≡ M p + F k p b
    unfolding via
    same_way =
        let top : s / 32 ≡ b = omega (arith, memory_lt m hm w) in
        let back : from s (p % 2) ≡ p = omega (arith, memory_lt m hm w) in
        rw (top, back)

    module _ (e : via M (F k) s d ≡ cost F m bs + F k p b) where
      near : Near F m k (from s d)
      unfolding via cost Near
      near q = omega (arith, cost_le F m 14 c bs, c k p b)

      not_after : from s d ≤ p
      not_after =
          let no_less : ¬ (p % 2 < d) = λ l. omega (arith, (chosen M (F k) s).tie (p % 2) l, same_way, least_bound F m hm w) in
          omega (arith, memory_lt m hm w)

      step_first : value (s / 32 ∷ survivor F m k (from s d)) ≤ value (b ∷ bs)
      unfolding value
      step_first =
          let top : s / 32 ≡ b = omega (arith, memory_lt m hm w) in
          let same : M p ≡ cost F m bs = omega (arith, (chosen M (F k) s).least (p % 2) (omega arith), same_way, least_bound F m hm w) in
          rw (top, survivor_length F m k (from s d)) (omega (arith, upto bs w ih same (from s d) not_after near))

  first_bound : (bs : List ℕ) → Bits bs → First bs
  unfolding metric path memory cost
  first_bound [] w = λ e. omega arith
  first_bound (b ∷ bs) w = step_first b bs (bits_head w) (bits_tail w) (first_bound bs (bits_tail w))

-- the same in the order of time

cost_snoc : (F : Costs) (k m : ℕ) (xs : List ℕ) (b : ℕ)
    → cost_from F k m (xs ++ (b ∷ [])) ≡ cost_from F k m xs + F (k + length xs) (memory_after m xs) b
unfolding cost_from memory_after
cost_snoc F k m [] b = rw (add-zero k) (omega arith)
cost_snoc F k m (x ∷ xs) b = rw (cost_snoc F (suc k) (next_memory m x) xs b, suc-add, ← add-suc) (omega arith)

rank_snoc : (xs : List ℕ) (b : ℕ) → rank (xs ++ (b ∷ [])) ≡ rank xs + b * 2 ^ length xs
unfolding rank
rank_snoc [] b = omega (arith)
rank_snoc (x ∷ xs) b = rw (rank_snoc xs b, two-pow-succ, mul-add) (omega arith)

bits_snoc : {xs : List ℕ} (b : ℕ) → Bits xs → b < 2 → Bits (xs ++ (b ∷ []))
bits_snoc b none h = more h none
bits_snoc b (more l w) h = more l (bits_snoc b w h)

memory_reverse : (m : ℕ) (bs : List ℕ) → memory_after m (reverse bs) ≡ memory m bs
unfolding memory memory_after
memory_reverse m [] = refl
memory_reverse m (b ∷ bs) = rw (reverse-cons b bs, memory_snoc, memory_reverse m bs)

cost_reverse : (F : Costs) (m : ℕ) (bs : List ℕ) → cost_from F 0 m (reverse bs) ≡ cost F m bs
unfolding cost cost_from
cost_reverse F m [] = refl
cost_reverse F m (b ∷ bs) = rw (reverse-cons b bs, cost_snoc, zero-add, length-reverse, memory_reverse m bs, cost_reverse F m bs)

rank_reverse : (bs : List ℕ) → rank (reverse bs) ≡ value bs
unfolding value rank
rank_reverse [] = refl
rank_reverse (b ∷ bs) = rw (reverse-cons b bs, rank_snoc, length-reverse, rank_reverse bs)

bits_reverse : {bs : List ℕ} → Bits bs → Bits (reverse bs)
bits_reverse none = none
bits_reverse (more {b} {l} h w) = rw (reverse-cons b l) (bits_snoc b (bits_reverse w) h)

back_cost : (F : Costs) (m : ℕ) (ys : List ℕ) → cost_from F 0 m ys ≡ cost F m (reverse ys)
back_cost F m ys = rw reverse-reverse at (cost_reverse F m (reverse ys))

back_rank : (ys : List ℕ) → rank ys ≡ value (reverse ys)
back_rank ys = rw reverse-reverse at (rank_reverse (reverse ys))

pub record Answer (F : Costs) (n m s : ℕ) (bs : List ℕ) : Type 0 where
  pub best : Best (cost_from F 0 m) n bs
  pub costs : cost_from F 0 m bs ≡ metric F m n s
  pub ends : memory_after m bs ≡ s

module _ (F : Costs) (c : (k s b : ℕ) → F k s b ≤ 14) (m : ℕ) (hm : m < 64) (s n : ℕ) (e : FirstLeast (metric F m n) 64 s) where
  -- what holds of s against any bits, newest first
  below : (zs : List ℕ) → Bits zs → length zs ≡ n → metric F m n s ≤ cost F m zs
  below zs w l =
      let q : metric F m n (memory m zs) ≤ cost F m zs = rw l at (least_bound F m hm w) in
      omega (arith, e.least (memory m zs) (memory_lt m hm w))

  near_end : Near F m n s
  unfolding Near
  near_end h =
      let zs : List ℕ = replicate n 0 in
      let l : length zs ≡ n = length-replicate n 0 in
      omega (arith, below zs (zero_bits n) l, cost_le F m 14 c zs)

  reached : Real F m n s
  reached = real F c m hm n s e.small near_end

  first_of : (zs : List ℕ) → Bits zs → length zs ≡ n → metric F m n s ≡ cost F m zs → value (survivor F m n s) ≤ value zs
  first_of zs w l same =
      let q : metric F m n (memory m zs) ≤ cost F m zs = rw l at (least_bound F m hm w) in
      let least : metric F m n s ≤ metric F m n (memory m zs) = e.least (memory m zs) (memory_lt m hm w) in
      let no_less : ¬ (memory m zs < s) = λ t. omega (arith, e.first (memory m zs) t) in
      let same' : metric F m (length zs) (memory m zs) ≡ cost F m zs = rw l (omega arith) in
      rw l at (upto F c m hm zs w (first_bound F c m hm zs w) same' s (omega arith) (rw l near_end))

  pub answer : Answer F n m s (reverse (survivor F m n s))
  answer =
      let bs : List ℕ = survivor F m n s in
      let cost-is : cost_from F 0 m (reverse bs) ≡ metric F m n s = cost_reverse F m bs ∙ reached.costs in
      let bits : Bits (reverse bs) = bits_reverse (survivor_bits F m n s e.small) in
      let size : length (reverse bs) ≡ n = length-reverse bs ∙ survivor_length F m n s in
      record {
        best =
            record {
              binary = bits;
              size = size;
              least = λ ys w l.
                  omega (arith, cost-is, below (reverse ys) (bits_reverse w) (length-reverse ys ∙ l), back_cost F m ys);
              ties = λ ys w l q.
                  rank_ties (reverse bs) ys bits w (size ∙ sym l)
                  (omega (
                    arith,
                    rank_reverse bs,
                    back_rank ys,
                    first_of (reverse ys) (bits_reverse w) (length-reverse ys ∙ l) (omega (arith, cost-is, back_cost F m ys)),
                  ));
            };
        costs = cost-is;
        ends = memory_reverse m bs ∙ reached.ends;
      }
