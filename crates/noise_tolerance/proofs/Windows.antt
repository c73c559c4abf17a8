-- Symbols that are sparse in doubt make steps that are: windows of whole patterns hold those of the steps.
-- Assumes nothing.
use mathlib.Core.Path.{◌≡◌, refl, sym, ◌∙◌, ap, ap₂}
use mathlib.Core.List.{List, [], ◌∷◌}
use Prim.Native.Nat.{ℕ, zero, suc, ◌+◌, ◌-◌, ◌*◌, ◌/◌, ◌%◌, ◌≤◌, ◌<◌}
use native.Mathlib.Decide.{dec_le}
use native.Mathlib.Nat.{div-add-mod, mod-lt, mul-add, mul-mod_right, mul-div_right, mul-le-mul_left, add-zero}
use native.Mathlib.Omega.{arith}
use lib.ListN.{length, take, drop, length-take, length-drop, take-append-drop}
use lib.Seq.{get_or-take, take_all, take-add, drop-drop, length-take-le}
use Rattle.convolutional_code.specs.Bits.{Bits}
use Rattle.convolutional_code.specs.Code.{next_memory, memory_after}
use Rattle.convolutional_code.specs.Costs.{Costs, cost_from}
use Rattle.convolutional_code.proofs.Bits.{bits_take}
use Rattle.puncturing.specs.Mode.{qpsk_count}
use Rattle.puncturing.specs.Step.{pattern_length}
use Rattle.puncturing.proofs.Steps.{some_bits}
use Rattle.inner_code.specs.Step.{symbols_of}
use Rattle.inner_code.specs.Encode.{coder_at}
use Rattle.branch_metrics.specs.Steps.{punctured_costs}
use Rattle.reader.specs.Cost.{total_cost}
use Rattle.reader.specs.Read.{symbols_per_pattern, length_of_run}
use Rattle.reader.proofs.Costs.{Splits, run_is}
use Rattle.reader.proofs.Patterns.{some_symbols, sent_whole}
use Rattle.reader.proofs.Streams.{front_is, memory_append}
use Rattle.noise_tolerance.specs.Noise.{SparseSymbols, QuietEnd}
use Rattle.noise_tolerance.proofs.SparseSteps.{Sparse}

-- ---- windows within windows

cost_front : (F : Costs) (n o k m : ℕ) (xs : List ℕ) → n ≤ o → cost_from F k m (take n xs) ≤ cost_from F k m (take o xs)
unfolding cost_from
cost_front F zero o k m xs h = omega arith
cost_front F (suc n) zero k m xs h = absurd (omega arith)
cost_front F (suc n) (suc o) k m [] h = omega arith
cost_front F (suc n) (suc o) k m (x ∷ xs) h = omega (arith, cost_front F n o (suc k) (next_memory m x) xs (omega arith))

cost_within : (F : Costs) (r n o k m : ℕ) (xs : List ℕ) → r + n ≤ o → cost_from F (k + r) (memory_after m (take r xs)) (take n (drop r xs)) ≤ cost_from F k m (take o xs)
unfolding cost_from memory_after
cost_within F zero n o k m xs h = rw (add-zero k) (cost_front F n o k m xs (omega arith))
cost_within F (suc r) n zero k m xs h = absurd (omega arith)
cost_within F (suc r) zero (suc o) k m [] h = omega arith
cost_within F (suc r) (suc n) (suc o) k m [] h = omega arith
cost_within F (suc r) n (suc o) k m (x ∷ xs) h =
    let e : suc k + r ≡ k + suc r = omega arith in
    let g = ap (λ (j : ℕ). cost_from F j (memory_after (next_memory m x) (take r xs)) (take n (drop r xs))) e in
    omega (arith, cost_within F r n o (suc k) (next_memory m x) xs (omega arith))

-- a front of n + o steps is one of n steps and then one of o
cost_parts : (F : Costs) (n o k m : ℕ) (xs : List ℕ)
    → cost_from F k m (take (n + o) xs) ≡ cost_from F k m (take n xs) + cost_from F (k + n) (memory_after m (take n xs)) (take o (drop n xs))
unfolding cost_from memory_after
cost_parts F zero o k m xs =
    let a : 0 + o ≡ o = omega arith in
    rw (a, add-zero k) (omega arith)
cost_parts F (suc n) zero k m [] = let a : suc n + 0 ≡ suc n = omega arith in rw a refl
cost_parts F (suc n) (suc o) k m [] = let a : suc n + suc o ≡ suc (n + suc o) = omega arith in rw a refl
cost_parts F (suc n) o k m (x ∷ xs) =
    let a : suc n + o ≡ suc (n + o) = omega arith in
    let e : suc k + n ≡ k + suc n = omega arith in
    let g = ap (λ (j : ℕ). cost_from F j (memory_after (next_memory m x) (take n xs)) (take o (drop n xs))) e in
    rw a (omega (arith, cost_parts F n o (suc k) (next_memory m x) xs))

-- so it is of symbols
none_left : (o : ℕ) (ss : List ℕ) → total_cost (take o []) ss ≡ 0
unfolding total_cost
none_left zero ss = refl
none_left (suc o) ss = refl

none_right_all : (cs : List (ℕ → ℕ)) → total_cost cs [] ≡ 0
unfolding total_cost
none_right_all [] = refl
none_right_all (c ∷ cs) = refl

none_right : (o : ℕ) (cs : List (ℕ → ℕ)) → total_cost cs (take o []) ≡ 0
unfolding total_cost
none_right o [] = refl
none_right zero (c ∷ cs) = refl
none_right (suc o) (c ∷ cs) = refl

total_parts : (n o : ℕ) (cs : List (ℕ → ℕ)) (ss : List ℕ)
    → total_cost (take (n + o) cs) (take (n + o) ss) ≡ total_cost (take n cs) (take n ss) + total_cost (take o (drop n cs)) (take o (drop n ss))
unfolding total_cost
total_parts zero o cs ss = let a : 0 + o ≡ o = omega arith in rw a (omega arith)
total_parts (suc n) o [] ss = let a : suc n + o ≡ suc (n + o) = omega arith in rw a (omega (arith, none_left o (take o (drop (suc n) ss))))
total_parts (suc n) o (c ∷ cs) [] = let a : suc n + o ≡ suc (n + o) = omega arith in rw a (omega (arith, none_right o (take o (drop n cs))))
total_parts (suc n) o (c ∷ cs) (s ∷ ss) = let a : suc n + o ≡ suc (n + o) = omega arith in rw a (omega (arith, total_parts n o cs ss))

-- a part costs no more than all
pub total_part : (n : ℕ) (cs : List (ℕ → ℕ)) (ss : List ℕ) → total_cost (take n cs) (take n ss) ≤ total_cost cs ss
unfolding total_cost
total_part zero cs ss = omega arith
total_part (suc n) [] ss = omega arith
total_part (suc n) (c ∷ cs) [] = omega arith
total_part (suc n) (c ∷ cs) (s ∷ ss) = omega (arith, total_part n cs ss)

pub total_later : (i j : ℕ) (cs : List (ℕ → ℕ)) (ss : List ℕ) → i ≤ j → total_cost (drop j cs) (drop j ss) ≤ total_cost (drop i cs) (drop i ss)
unfolding total_cost
total_later zero zero cs ss h = omega arith
total_later (suc i) zero cs ss h = absurd (omega arith)
total_later zero (suc j) [] ss h = omega arith
total_later zero (suc j) (c ∷ cs) [] h = rw (none_right_all (drop j cs)) (omega arith)
total_later zero (suc j) (c ∷ cs) (s ∷ ss) h = omega (arith, total_later zero j cs ss (omega arith))
total_later (suc i) (suc j) [] ss h = omega arith
total_later (suc i) (suc j) (c ∷ cs) [] h = rw (none_right_all (drop j cs)) (omega arith)
total_later (suc i) (suc j) (c ∷ cs) (s ∷ ss) h = total_later i j cs ss (omega arith)

-- ---- the costs of whole patterns

pub splits_take : (n : ℕ) {costs : List (ℕ → ℕ)} {c : ℕ → ℕ → ℕ} → Splits costs c 0 → Splits (take n costs) c 0
splits_take n {costs} h = record {
  at = λ i s l four.
      let k = length-take n costs in
      ap (λ (f : ℕ → ℕ). f s) (get_or-take n costs i (λ s. 0) (omega arith)) ∙ h.at i s (omega arith) four;
}

module _ (costs : List (ℕ → ℕ)) (c : ℕ → ℕ → ℕ) (splits : Splits costs c 0) (rate : ℕ) (hr : rate < qpsk_count) (m : ℕ) (hm : m < 64) (bits : List ℕ) (w : Bits bits)
    (whole : length bits % pattern_length rate ≡ 0) (ss : List ℕ) (es : ss ≡ symbols_of (coder_at rate m) bits) (size : length ss ≡ length costs) where
  abbrev P : ℕ
  P = pattern_length rate

  abbrev S : ℕ
  S = symbols_per_pattern rate

  abbrev N : ℕ
  N = length ss / S

  abbrev F : Costs
  F = punctured_costs rate c

  bit_count_lem : length bits ≡ P * N
  bit_count_lem = (sent_whole rate m hr hm bits w whole ss es).1

  symbol_count_lem : length ss ≡ S * N
  symbol_count_lem = omega (arith, div-add-mod (length ss) S, (sent_whole rate m hr hm bits w whole ss es).0)

  front_cost : (q : ℕ) → q ≤ N → cost_from F 0 m (take (P * q) bits) ≡ total_cost (take (S * q) costs) (take (S * q) ss)
  front_cost q h =
      let lb : length (take (P * q) bits) ≡ P * q = length-take-le (P * q) bits (omega (arith, bit_count_lem, mul-le-mul_left P h)) in
      let ls : length (take (S * q) ss) ≡ S * q = length-take-le (S * q) ss (omega (arith, symbol_count_lem, mul-le-mul_left S h)) in
      let lc : length (take (S * q) costs) ≡ S * q = length-take-le (S * q) costs (omega (arith, size, symbol_count_lem, mul-le-mul_left S h)) in
      let wb : length (take (P * q) bits) % P ≡ 0 = ap (λ (k : ℕ). k % P) lb ∙ mul-mod_right P q in
      let ws : length (take (S * q) ss) % S ≡ 0 = ap (λ (k : ℕ). k % S) ls ∙ mul-mod_right S q in
      let rs : length_of_run rate (take (S * q) ss) ≡ P * q = ap (λ (k : ℕ). P * (k / S)) ls ∙ ap (λ (k : ℕ). P * k) (mul-div_right q (some_symbols rate hr)) in
      let f : take (S * q) ss ≡ symbols_of (coder_at rate m) (take (P * q) bits) =
      front_is rate hr m hm bits w (take (S * q) ss) (drop (S * q) ss) ws (take-append-drop (S * q) ss ∙ es)
      ∙ ap (λ (k : ℕ). symbols_of (coder_at rate m) (take k bits)) rs in
      sym (run_is (take (S * q) costs) c (splits_take (S * q) splits) rate m hr hm (bits_take (P * q) w) wb (sym (ap length f) ∙ (ls ∙ sym lc)))
      ∙ ap (total_cost (take (S * q) costs)) (sym f)

  -- also beyond the end
  front_cost_all : (q : ℕ) → cost_from F 0 m (take (P * q) bits) ≡ total_cost (take (S * q) costs) (take (S * q) ss)
  front_cost_all q = by (dec_le q N)
    where
      by : Dec (q ≤ N) → cost_from F 0 m (take (P * q) bits) ≡ total_cost (take (S * q) costs) (take (S * q) ss)
      by (yes h) = front_cost q h
      by (no h) =
          let le : N ≤ q = omega arith in
          let a : take (P * q) bits ≡ take (P * N) bits = take_all (P * q) bits (omega (arith, bit_count_lem, mul-le-mul_left P le)) ∙ sym (take_all (P * N) bits (omega (arith, bit_count_lem))) in
          let b : take (S * q) costs ≡ take (S * N) costs =
          take_all (S * q) costs (omega (arith, size, symbol_count_lem, mul-le-mul_left S le)) ∙ sym (take_all (S * N) costs (omega (arith, size, symbol_count_lem))) in
          let d : take (S * q) ss ≡ take (S * N) ss = take_all (S * q) ss (omega (arith, symbol_count_lem, mul-le-mul_left S le)) ∙ sym (take_all (S * N) ss (omega (arith, symbol_count_lem))) in
          ap (cost_from F 0 m) a ∙ (front_cost N (omega arith) ∙ sym (ap₂ total_cost b d))

  -- a window of whole patterns
  window_cost : (a b : ℕ) → cost_from F (P * a) (memory_after m (take (P * a) bits)) (take (P * b) (drop (P * a) bits)) ≡ total_cost (take (S * b) (drop (S * a) costs)) (take (S * b) (drop (S * a) ss))
  window_cost a b =
      let p : P * (a + b) ≡ P * a + P * b = mul-add P a b in
      let s : S * (a + b) ≡ S * a + S * b = mul-add S a b in
      let x = ap (λ (k : ℕ). cost_from F 0 m (take k bits)) p ∙ cost_parts F (P * a) (P * b) 0 m bits in
      let y = ap (λ (k : ℕ). total_cost (take k costs) (take k ss)) s ∙ total_parts (S * a) (S * b) costs ss in
      let z : 0 + P * a ≡ P * a = omega arith in
      let v = ap (λ (k : ℕ). cost_from F k (memory_after m (take (P * a) bits)) (take (P * b) (drop (P * a) bits))) z in
      omega (arith, x, y, v, front_cost_all (a + b), front_cost_all a)

  -- what is sparse by symbols is so by steps
  pub sparse_steps : (b n t : ℕ) → n + P ≤ P * b + 1 → SparseSymbols (S * b) t costs ss → Sparse F n t 0 m bits
  unfolding SparseSymbols Sparse
  sparse_steps b n t h sparse i =
      let a = i / P in
      let r = i % P in
      let d : P * a + r ≡ i = div-add-mod i P in
      let l : r < P = mod-lt i (some_bits rate hr) in
      let o = cost_within F r n (P * b) (P * a) (memory_after m (take (P * a) bits)) (drop (P * a) bits) (omega arith) in
      let e : memory_after (memory_after m (take (P * a) bits)) (take r (drop (P * a) bits)) ≡ memory_after m (take i bits) =
      sym (memory_append m (take (P * a) bits) (take r (drop (P * a) bits))) ∙ (ap (memory_after m) (sym (take-add (P * a) r bits)) ∙ ap (λ (k : ℕ). memory_after m (take k bits)) d) in
      let f : drop r (drop (P * a) bits) ≡ drop i bits = drop-drop r (P * a) bits ∙ ap (λ (k : ℕ). drop k bits) d in
      let g : 0 + i ≡ P * a + r = omega arith in
      let v : cost_from F (P * a + r) (memory_after (memory_after m (take (P * a) bits)) (take r (drop (P * a) bits))) (take n (drop r (drop (P * a) bits))) ≡ cost_from F (0 + i) (memory_after m (take i bits)) (take n (drop i bits)) =
      λ j. cost_from F (sym g j) (e j) (take n (f j)) in
      omega (arith, o, v, window_cost a b, sparse (S * a))

  -- and where the last patterns cost nothing, neither do the last steps
  pub quiet_steps : (tail depth : ℕ) → depth ≤ P * tail → QuietEnd (S * tail) costs ss
      → (i : ℕ) → length bits ≤ i + depth → cost_from F (0 + i) (memory_after m (take i bits)) (drop i bits) ≡ 0
  unfolding QuietEnd
  quiet_steps tail depth h quiet i le =
      let a = i / P in
      let r = i % P in
      let d : P * a + r ≡ i = div-add-mod i P in
      let l : r < P = mod-lt i (some_bits rate hr) in
      let o = cost_within F r (length bits) (P * suc N) (P * a) (memory_after m (take (P * a) bits)) (drop (P * a) bits) (omega (arith, bit_count_lem)) in
      let e : memory_after (memory_after m (take (P * a) bits)) (take r (drop (P * a) bits)) ≡ memory_after m (take i bits) =
      sym (memory_append m (take (P * a) bits) (take r (drop (P * a) bits))) ∙ (ap (memory_after m) (sym (take-add (P * a) r bits)) ∙ ap (λ (k : ℕ). memory_after m (take k bits)) d) in
      let f : take (length bits) (drop r (drop (P * a) bits)) ≡ drop i bits =
      ap (take (length bits)) (drop-drop r (P * a) bits ∙ ap (λ (k : ℕ). drop k bits) d) ∙ take_all (length bits) (drop i bits) (omega (arith, length-drop i bits)) in
      let g : 0 + i ≡ P * a + r = omega arith in
      let v : cost_from F (P * a + r) (memory_after (memory_after m (take (P * a) bits)) (take r (drop (P * a) bits))) (take (length bits) (drop r (drop (P * a) bits))) ≡ cost_from F (0 + i) (memory_after m (take i bits)) (drop i bits) =
      λ j. cost_from F (sym g j) (e j) (f j) in
      let near : length ss - S * tail ≤ S * a = behind a r d l in
      omega (
        arith,
        o,
        v,
        window_cost a (suc N),
        total_part (S * suc N) (drop (S * a) costs) (drop (S * a) ss),
        total_later (length ss - S * tail) (S * a) costs ss near,
        quiet,
      )
    where
      behind : (a r : ℕ) → P * a + r ≡ i → r < P → length ss - S * tail ≤ S * a
      behind a r d l = by (dec_le N (a + tail))
        where
          by : Dec (N ≤ a + tail) → length ss - S * tail ≤ S * a
          by (yes n) = omega (arith, symbol_count_lem, mul-le-mul_left S n)
          by (no n) = absurd (omega (arith, bit_count_lem, mul-le-mul_left P (lt_of n), h, le))
            where
              lt_of : ¬ (N ≤ a + tail) → suc a + tail ≤ N
              lt_of n = omega arith
