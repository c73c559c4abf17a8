-- Hard decisions as costs of the steps; a run that was not harmed has one best sequence, its own bits, by hard decisions and by any that are as clear.
-- Assumes nothing.
use mathlib.Core.Bool.{Bool, true, false}
use mathlib.Core.Path.{◌≡◌, refl, sym, ◌∙◌, ap}
use mathlib.Core.List.{List, [], ◌∷◌, map, flatten}
use Prim.Native.Nat.{ℕ, zero, suc, ◌+◌, ◌*◌, ◌/◌, ◌%◌, ◌<◌, ◌≤◌}
use native.Mathlib.Omega.{arith}
use native.Mathlib.Nat.{mod-lt}
use borrow.Author.Tests.{eqb-true, eq-eqb}
use lib.Dec.{eqb, ltb, ltb→lt}
use lib.ListN.{length, get_or, take, drop, length-map}
use Rattle.common.specs.Choice.{pick, unequal}
use Rattle.common.proofs.Choice.{unequal_le}
use Rattle.common.proofs.Lists.{get_d_map_in}
use Rattle.convolutional_code.specs.Bits.{Bits}
use Rattle.convolutional_code.specs.Code.{taps_x, taps_y, coded, memory_after}
use Rattle.convolutional_code.specs.Costs.{cost_from}
use Rattle.viterbi_decoder.specs.Best.{Best, Decoded}
use Rattle.convolutional_code.proofs.Bits.{bits_tail}
use Rattle.viterbi_decoder.proofs.Ends.{SomeDecoded}
use Rattle.viterbi_decoder.proofs.Laws.{Apart, free, best_same}
use Rattle.viterbi_decoder.proofs.Order.{bits_head}
use Rattle.puncturing.specs.Mode.{mode_of, qpsk_count}
use Rattle.puncturing.specs.Step.{pattern_length}
use Rattle.puncturing.proofs.Places.{tested_at}
use Rattle.puncturing.proofs.Steps.{some_bits}
use Rattle.branch_metrics.specs.Steps.{kind, kind_cost, kind_at, first, punctured_costs}
use Rattle.inner_code.specs.Step.{symbols_of}
use Rattle.inner_code.specs.Encode.{coder_at}
use Rattle.reader.specs.Clear.{Clear, AllClear, none, more}
use Rattle.reader.specs.Cost.{differing, total_cost, run_cost, hard_cost}
use Rattle.reader.proofs.Serial.{flat}
use Rattle.reader.specs.Read.{symbols_per_pattern, length_of_run}
use Rattle.reader.proofs.Patterns.{run_whole, run_symbols_lem, sent_whole}
use Rattle.reader.proofs.Costs.{Splits, sent_bits_lem}
use Rattle.reader.proofs.Existence.{steps_cost, some_best}

-- ---- hard costs

abbrev pub hard : List ℕ → ℕ → ℕ → ℕ
hard ss j v = unequal (get_or (flat ss) j 0) v

flat_i : (ss : List ℕ) (i : ℕ) → get_or (flat ss) (2 * i) 0 ≡ get_or ss i 0 / 2
flat_i [] zero = refl
flat_i [] (suc i) = refl
flat_i (s ∷ ss) zero = refl
flat_i (s ∷ ss) (suc i) = let e : 2 * suc i ≡ suc (suc (2 * i)) = omega arith in rw e (flat_i ss i)

flat_q : (ss : List ℕ) (i : ℕ) → get_or (flat ss) (2 * i + 1) 0 ≡ get_or ss i 0 % 2
flat_q [] i = refl
flat_q (s ∷ ss) zero = refl
flat_q (s ∷ ss) (suc i) = let e : 2 * suc i + 1 ≡ suc (suc (2 * i + 1)) = omega arith in rw e (flat_q ss i)

pub differing_at : (ss : List ℕ) (i s : ℕ) → i < length (map differing ss) → get_or (map differing ss) i (λ s. 0) s ≡ differing (get_or ss i 0) s
differing_at ss i s h = ap (λ (f : ℕ → ℕ). f s) (get_d_map_in differing ss 0 (λ s. 0) i (rw length-map at h))

pub hard_splits : (ss : List ℕ) → Splits (map differing ss) (hard ss) 0
hard_splits ss = record {
  at = λ i s h four.
      let a : 0 + 2 * i ≡ 2 * i = omega arith in
      rw (a, flat_i ss i, flat_q ss i) (differing_at ss i s h);
}

-- ---- each step tells its two bits apart

pub differ_zero : (a b : ℕ) → unequal a b ≡ 0 → a ≡ b
differ_zero a b h = go (eqb a b) refl h
  where
    go : (t : Bool) → eqb a b ≡ t → pick {A = ℕ} t 0 1 ≡ 0 → a ≡ b
    go true e q = eqb-true a b e
    go false e q = absurd (omega arith)

parity : (b c p : ℕ) → b < 2 → c < 2 → (b + p) % 2 ≡ (c + p) % 2 → b ≡ c
parity b c p hb hc e = omega arith

x_apart : (m b c r : ℕ) → b < 2 → c < 2 → unequal r (coded taps_x m b) ≡ 0 → unequal r (coded taps_x m c) ≡ 0 → b ≡ c
x_apart m b c r hb hc p q =
    parity b c (m / 32 % 2 + (m / 16 % 2 + (m / 8 % 2 + (m % 2 + 0)))) hb hc
    (sym (differ_zero r (coded taps_x m b) p) ∙ differ_zero r (coded taps_x m c) q)

y_apart : (m b c r : ℕ) → b < 2 → c < 2 → unequal r (coded taps_y m b) ≡ 0 → unequal r (coded taps_y m c) ≡ 0 → b ≡ c
y_apart m b c r hb hc p q =
    parity b c (m / 16 % 2 + (m / 8 % 2 + (m / 2 % 2 + (m % 2 + 0)))) hb hc
    (sym (differ_zero r (coded taps_y m b) p) ∙ differ_zero r (coded taps_y m c) q)

kind_apart : (ss : List ℕ) (q j m b c : ℕ) → 0 < q → b < 2 → c < 2
    → kind_cost (hard ss) q j (coded taps_x m b) (coded taps_y m b) ≡ 0 → kind_cost (hard ss) q j (coded taps_x m c) (coded taps_y m c) ≡ 0 → b ≡ c
kind_apart ss zero j m b c h hb hc p q = absurd (omega arith)
kind_apart ss (suc zero) j m b c h hb hc p q = y_apart m b c (get_or (flat ss) j 0) hb hc p q
kind_apart ss (suc (suc zero)) j m b c h hb hc p q = x_apart m b c (get_or (flat ss) j 0) hb hc p q
kind_apart ss (suc (suc (suc t))) j m b c h hb hc p q =
    let u : hard ss j (coded taps_x m b) ≡ 0 = omega arith in
    let v : hard ss j (coded taps_x m c) ≡ 0 = omega arith in
    x_apart m b c (get_or (flat ss) j 0) hb hc u v

sends : (rate k : ℕ) → rate < qpsk_count → 0 < kind_at rate k
unfolding kind mode_of flatten
sends rate k h = ltb→lt 0 (kind_at rate k) (tested_at (λ r p. ltb 0 (kind r p)) tt rate (k % pattern_length rate) h (mod-lt k (some_bits rate h)))

apart : (ss : List ℕ) (rate : ℕ) → rate < qpsk_count → Apart (punctured_costs rate (hard ss))
unfolding punctured_costs
apart ss rate h k s b c hb hc p q = kind_apart ss (kind_at rate k) (first rate k) s b c (sends rate k h) hb hc p q

-- ---- a run, whatever was received

differ_le : (a b : ℕ) → unequal a b ≤ 7
differ_le a b = omega (arith, unequal_le a b)

module _ (rate m : ℕ) (hr : rate < qpsk_count) (hm : m < 64) (ss : List ℕ) (whole : length ss % symbols_per_pattern rate ≡ 0) where
  abbrev n : ℕ
  n = length_of_run rate ss

  steps : (ys : List ℕ) → Bits ys → length ys ≡ n → cost_from (punctured_costs rate (hard ss)) 0 m ys ≡ hard_cost ss rate m ys
  steps = steps_cost (map differing ss) (hard ss) (hard_splits ss) rate m hr hm (length ss) (sym (length-map ss differing)) whole

  -- there is a best sequence
  pub hard_decoded : SomeDecoded (hard_cost ss rate m) n m
  hard_decoded =
      some_best (map differing ss) (hard ss) (hard_splits ss) rate m hr hm (length ss) (sym (length-map ss differing)) whole (λ j v. differ_le (get_or (flat ss) j 0) v)

  -- bits that differ nowhere are the best
  free_best : (bits best : List ℕ) → Bits bits → length bits ≡ n → hard_cost ss rate m bits ≡ 0 → Best (hard_cost ss rate m) n best → best ≡ bits
  free_best bits best w l z b =
      free (punctured_costs rate (hard ss)) (apart ss rate hr) n m bits best (best_same n (λ ys v e. sym (steps ys v e)) b) w l (steps bits w l ∙ z)

-- ---- an unharmed run

differ_same : (a : ℕ) → unequal a a ≡ 0
differ_same a = rw (eq-eqb a a refl)

-- the coding of bits differs from itself nowhere
same_free : (ss : List ℕ) → total_cost (map differing ss) ss ≡ 0
unfolding total_cost
same_free [] = refl
same_free (s ∷ ss) = omega (arith, differ_same (s / 2), differ_same (s % 2), same_free ss)

-- so a sequence is the best one of its own coding
pub own_best : (rate m : ℕ) → rate < qpsk_count → m < 64 → {bits : List ℕ} → Bits bits → length bits % pattern_length rate ≡ 0 → (ss : List ℕ) → ss ≡ symbols_of (coder_at rate m) bits
    → {best : List ℕ} {total after : ℕ} → Decoded (hard_cost ss rate m) (length_of_run rate ss) m best total after
    → (best ≡ bits) × (total ≡ 0) × (after ≡ memory_after m bits)
own_best rate m hr hm {bits} w e ss es {best} d =
    let q = sent_whole rate m hr hm bits w e ss es in
    let z : hard_cost ss rate m bits ≡ 0 = ap (total_cost (map differing ss)) (sym es) ∙ same_free ss in
    let b : best ≡ bits = free_best rate m hr hm ss q.0 bits best w q.1 z d.best in
    (b, d.costs ∙ (ap (hard_cost ss rate m) b ∙ z), d.ends ∙ ap (memory_after m) b)

-- ---- clear decisions of any kind

pub clear_length : {R : Type 0} {cost : R → ℕ → ℕ} {rs : List R} {ss : List ℕ} → AllClear cost rs ss → length rs ≡ length ss
clear_length none = refl
clear_length (more c g) = ap suc (clear_length g)

pub clear_take : {R : Type 0} {cost : R → ℕ → ℕ} {rs : List R} {ss : List ℕ} (k : ℕ) → AllClear cost rs ss → AllClear cost (take k rs) (take k ss)
clear_take zero g = none
clear_take (suc k) none = none
clear_take (suc k) (more c g) = more c (clear_take k g)

pub clear_drop : {R : Type 0} {cost : R → ℕ → ℕ} {rs : List R} {ss : List ℕ} (k : ℕ) → AllClear cost rs ss → AllClear cost (drop k rs) (drop k ss)
clear_drop zero g = g
clear_drop (suc k) none = none
clear_drop (suc k) (more c g) = clear_drop k g

-- hard decisions are clear
pub differing_clear : (s : ℕ) → Clear differing s s
differing_clear s = record { free_sent = omega (arith, differ_same (s / 2), differ_same (s % 2)); only = only }
  where
    same : (s t : ℕ) → s / 2 ≡ t / 2 → s % 2 ≡ t % 2 → t ≡ s
    same s t a b = omega arith

    only : (t : ℕ) → t < 4 → differing s t ≡ 0 → t ≡ s
    only t h z = same s t (differ_zero (s / 2) (t / 2) (omega arith)) (differ_zero (s % 2) (t % 2) (omega arith))

pub hard_clear : (ss : List ℕ) → AllClear differing ss ss
hard_clear [] = none
hard_clear (s ∷ ss) = more (differing_clear s) (hard_clear ss)

-- the symbols sent cost nothing, and only they
pub clear_free : {R : Type 0} {cost : R → ℕ → ℕ} {rs : List R} {ss : List ℕ} → AllClear cost rs ss → total_cost (map cost rs) ss ≡ 0
unfolding total_cost
clear_free none = refl
clear_free (more c g) = omega (arith, c.free_sent, clear_free g)

pub clear_only : {R : Type 0} {cost : R → ℕ → ℕ} {rs : List R} {ss : List ℕ} → AllClear cost rs ss → (xs : List ℕ) → length xs ≡ length ss → Bits (flat xs)
    → total_cost (map cost rs) xs ≡ 0 → xs ≡ ss
unfolding total_cost
clear_only none [] l w z = refl
clear_only none (x ∷ xs) l w z = absurd (omega arith)
clear_only (more c g) [] l w z = absurd (omega arith)
clear_only (more {s = s} {ss = ss} c g) (x ∷ xs) l w z =
    let i : x / 2 < 2 = bits_head w in
    let a : x ≡ s = c.only x (omega arith) (omega arith) in
    let b : xs ≡ ss = clear_only g xs (omega arith) (bits_tail (bits_tail w)) (omega arith) in
    cc

-- so a sequence is the best one where its coding was received clearly
pub clear_best : {R : Type 0} (cost : R → ℕ → ℕ) (rate m : ℕ) → rate < qpsk_count → m < 64 → {bits : List ℕ} → Bits bits → length bits % pattern_length rate ≡ 0
    → (rs : List R) (ss : List ℕ) → ss ≡ symbols_of (coder_at rate m) bits → AllClear cost rs ss
    → {best : List ℕ} {total after : ℕ} → Decoded (run_cost (map cost rs) rate m) (length_of_run rate ss) m best total after
    → (best ≡ bits) × (total ≡ 0) × (after ≡ memory_after m bits)
clear_best cost rate m hr hm {bits} w e rs ss es g {best} d =
    let q = sent_whole rate m hr hm bits w e ss es in
    let v : Bits best = d.best.binary in
    let l : length best ≡ length_of_run rate ss = d.best.size in
    let f : length best % pattern_length rate ≡ 0 = ap (λ (k : ℕ). k % pattern_length rate) l ∙ run_whole rate hr (length ss) in
    let z : run_cost (map cost rs) rate m bits ≡ 0 = ap (total_cost (map cost rs)) (sym es) ∙ clear_free g in
    let y : run_cost (map cost rs) rate m best ≡ 0 = omega (arith, d.best.least bits w q.1) in
    let c : symbols_of (coder_at rate m) best ≡ ss =
    clear_only g (symbols_of (coder_at rate m) best) (run_symbols_lem rate hr (length ss) q.0 m hm best v l) (sent_bits_lem rate m hr hm v) y in
    -- both sequences have the coding that was sent, and hard decisions on it have one best sequence
    let h = hard_decoded rate m hr hm ss q.0 in
    let a = own_best rate m hr hm w e ss es h.decoded in
    let b = own_best rate m hr hm v f ss (sym c) h.decoded in
    let r : best ≡ bits = sym b.0 ∙ a.0 in
    (r, d.costs ∙ y, d.ends ∙ ap (memory_after m) r)
