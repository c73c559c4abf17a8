-- A run whose memory is not known: where the coded bits were received clearly, two sequences that cost nothing over six patterns begin with the same memory.
-- So six patterns of symbols are the coding of one memory and one sequence of bits.
-- Assumes nothing.
use mathlib.Core.Path.{◌≡◌, refl, sym, ◌∙◌, ap, subst}
use mathlib.Core.Bool.{Bool, true, false}
use mathlib.Core.List.{List, [], ◌∷◌, ◌++◌, flatten, map}
use Prim.Native.Nat.{ℕ, zero, suc, ◌+◌, ◌*◌, ◌/◌, ◌%◌, ◌≤◌, ◌<◌}
use native.Mathlib.Nat.{mod-lt}
use native.Mathlib.Decide.{ℕ_discrete}
use native.Mathlib.Omega.{arith}
use borrow.Author.Tests.{eq-eqb, ne_eqb}
use lib.Bits.{bit_xor}
use lib.Dec.{T, eqb, ltb, lit<, eqb→eq, ltb→lt}
use lib.ListN.{length, length-map}
use Rattle.common.specs.Choice.{pick}
use Rattle.common.proofs.Computed.{both, both_left, both_right, below, below_at}
use Rattle.convolutional_code.specs.Bits.{Bits, more}
use Rattle.convolutional_code.specs.Code.{taps_x, taps_y, coded, next_memory}
use Rattle.puncturing.specs.Mode.{mode_of}
use Rattle.puncturing.specs.Step.{pattern_length}
use Rattle.branch_metrics.specs.Steps.{kind, kind_cost, kind_at, first, punctured_costs}
use Rattle.convolutional_code.specs.Costs.{cost_from}
use Rattle.inner_code.specs.Step.{symbols_of}
use Rattle.inner_code.specs.Encode.{coder_at}
use Rattle.reader.specs.Cost.{differing, total_cost}
use Rattle.reader.proofs.Costs.{run_is}
use Rattle.reader.proofs.Patterns.{sent_whole}
use Rattle.reader.proofs.Unharmed.{hard, hard_splits, differ_zero, hard_decoded, own_best, hard_clear, clear_free}

-- ---- the code is linear

same_test : List ℕ → ℕ → ℕ → ℕ → ℕ → Bool
same_test taps m b n c = pick (eqb (coded taps m b) (coded taps n c)) (eqb (coded taps (bit_xor m n) (bit_xor b c)) 0) true

next_test : ℕ → ℕ → ℕ → ℕ → Bool
next_test m b n c = both (eqb (bit_xor (next_memory m b) (next_memory n c)) (next_memory (bit_xor m n) (bit_xor b c))) (pick (eqb (bit_xor m n) 0) (eqb m n) true)

all_test : ℕ → ℕ → ℕ → ℕ → Bool
all_test m b n c = both (same_test taps_x m b n c) (both (same_test taps_y m b n c) (next_test m b n c))

linear : (m b n c : ℕ) → m < 64 → b < 2 → n < 64 → c < 2 → T (all_test m b n c)
unfolding all_test same_test next_test
linear m b n c hm hb hn hc =
    let u : (2 * m + b) / 2 ≡ m = omega arith in
    let v : (2 * m + b) % 2 ≡ b = omega arith in
    let x : (2 * n + c) / 2 ≡ n = omega arith in
    let y : (2 * n + c) % 2 ≡ c = omega arith in
    rw (u, v, x, y) at
    (below_at (λ j. all_test ((2 * m + b) / 2) ((2 * m + b) % 2) (j / 2) (j % 2)) 128
    (below_at (λ i. below (λ j. all_test (i / 2) (i % 2) (j / 2) (j % 2)) 128) 128 tt (2 * m + b) (omega arith)) (2 * n + c) (omega arith))

module _ (m b n c : ℕ) (hm : m < 64) (hb : b < 2) (hn : n < 64) (hc : c < 2) where
  t : T (all_test m b n c)
  t = linear m b n c hm hb hn hc

  rest : T (both (same_test taps_y m b n c) (next_test m b n c))
  unfolding all_test
  rest = both_right (same_test taps_x m b n c) (both (same_test taps_y m b n c) (next_test m b n c)) t

  from_test : (taps : List ℕ) → T (same_test taps m b n c) → coded taps m b ≡ coded taps n c → coded taps (bit_xor m n) (bit_xor b c) ≡ 0
  unfolding same_test
  from_test taps w e = eqb→eq (coded taps (bit_xor m n) (bit_xor b c)) 0 (rw (eq-eqb (coded taps m b) (coded taps n c) e) at w)

  x_zero : coded taps_x m b ≡ coded taps_x n c → coded taps_x (bit_xor m n) (bit_xor b c) ≡ 0
  unfolding all_test
  x_zero = from_test taps_x (both_left (same_test taps_x m b n c) (both (same_test taps_y m b n c) (next_test m b n c)) t)

  y_zero : coded taps_y m b ≡ coded taps_y n c → coded taps_y (bit_xor m n) (bit_xor b c) ≡ 0
  y_zero = from_test taps_y (both_left (same_test taps_y m b n c) (next_test m b n c) rest)

  next_xor : bit_xor (next_memory m b) (next_memory n c) ≡ next_memory (bit_xor m n) (bit_xor b c)
  unfolding next_test
  next_xor =
      eqb→eq (bit_xor (next_memory m b) (next_memory n c)) (next_memory (bit_xor m n) (bit_xor b c))
      (both_left (eqb (bit_xor (next_memory m b) (next_memory n c)) (next_memory (bit_xor m n) (bit_xor b c))) (pick (eqb (bit_xor m n) 0) (eqb m n) true) (both_right (same_test taps_y m b n c) (next_test m b n c) rest))

  xor_same : bit_xor m n ≡ 0 → m ≡ n
  unfolding next_test
  xor_same e =
      eqb→eq m n
      (rw (eq-eqb (bit_xor m n) 0 e) at
      (both_right (eqb (bit_xor (next_memory m b) (next_memory n c)) (next_memory (bit_xor m n) (bit_xor b c))) (pick (eqb (bit_xor m n) 0) (eqb m n) true) (both_right (same_test taps_y m b n c) (next_test m b n c) rest)))

-- ---- differences that no coded bit shows die out

-- the coded bits of a kind are all zero
abbrev zeros : ℕ → ℕ → ℕ → Bool
zeros zero d e = true
zeros (suc zero) d e = eqb (coded taps_y d e) 0
zeros (suc (suc zero)) d e = eqb (coded taps_x d e) 0
zeros (suc (suc (suc q))) d e = both (eqb (coded taps_x d e) 0) (eqb (coded taps_y d e) 0)

-- no way from the difference d through steps of these kinds shows nothing
abbrev dies : List ℕ → ℕ → Bool
dies [] d = false
dies (q ∷ qs) d = both (pick (zeros q d 0) (dies qs (next_memory d 0)) true) (pick (zeros q d 1) (dies qs (next_memory d 1)) true)

-- the kinds of n steps from step k on
unfoldable kinds_from : ℕ → ℕ → ℕ → List ℕ
kinds_from rate k zero = []
kinds_from rate k (suc n) = kind_at rate k ∷ kinds_from rate (suc k) n

abbrev six : List ℕ → List ℕ
six l = l ++ l ++ l ++ l ++ l ++ l

abbrev kinds : ℕ → List ℕ
kinds zero = 3 ∷ []
kinds (suc zero) = 3 ∷ 1 ∷ 3 ∷ 1 ∷ []
kinds (suc (suc zero)) = 3 ∷ 1 ∷ 2 ∷ []
kinds (suc (suc (suc zero))) = 3 ∷ 1 ∷ 2 ∷ 1 ∷ 2 ∷ []
kinds (suc (suc (suc (suc r)))) = 3 ∷ 1 ∷ 1 ∷ 1 ∷ 2 ∷ 1 ∷ 2 ∷ []

kinds_are : (rate : ℕ) → rate < 5 → kinds_from rate 0 (6 * pattern_length rate) ≡ six (kinds rate)
unfolding kind mode_of flatten kinds_from
kinds_are zero h = refl
kinds_are (suc zero) h = refl
kinds_are (suc (suc zero)) h = refl
kinds_are (suc (suc (suc zero))) h = refl
kinds_are (suc (suc (suc (suc zero)))) h = refl
kinds_are (suc (suc (suc (suc (suc r))))) h = absurd (omega arith)

abbrev die_test : List ℕ → Bool
die_test l = below (λ d. pick (eqb d 0) true (dies l d)) 64

tests : (rate : ℕ) → rate < 5 → T (die_test (six (kinds rate)))
tests zero h = tt
tests (suc zero) h = tt
tests (suc (suc zero)) h = tt
tests (suc (suc (suc zero))) h = tt
tests (suc (suc (suc (suc zero)))) h = tt
tests (suc (suc (suc (suc (suc r))))) h = absurd (omega arith)

all_die : (rate d : ℕ) → rate < 5 → d < 64 → (d ≡ 0 → ⊥) → T (dies (kinds_from rate 0 (6 * pattern_length rate)) d)
all_die rate d hr hd n =
    subst (λ (l : List ℕ). T (dies l d)) (sym (kinds_are rate hr))
    (rw (ne_eqb d 0 n) at (below_at (λ d. pick (eqb d 0) true (dies (six (kinds rate)) d)) 64 (tests rate hr) d hd))

-- ---- the theorem

bits_xor : (b e : ℕ) → b < 2 → e < 2 → bit_xor b e < 2
bits_xor b e hb he = ltb→lt (bit_xor b e) 2 (below_at (λ j. ltb (bit_xor b j) 2) 2 (below_at (λ i. below (λ j. ltb (bit_xor i j) 2) 2) 2 tt b hb) e he)

memories_xor : (m n : ℕ) → m < 64 → n < 64 → bit_xor m n < 64
memories_xor m n hm hn = ltb→lt (bit_xor m n) 64 (below_at (λ j. ltb (bit_xor m j) 64) 64 (below_at (λ i. below (λ j. ltb (bit_xor i j) 64) 64) 64 tt m hm) n hn)

taken : (a b : Bool) → T a → T (pick a b true) → T b
taken true b s t = t
taken false b s t = absurd s

-- of a difference that dies the next one dies too
next_dies : (q : ℕ) (qs : List ℕ) (d e : ℕ) → e < 2 → T (zeros q d e) → T (dies (q ∷ qs) d) → T (dies qs (next_memory d e))
next_dies q qs d zero h z w =
    taken (zeros q d 0) (dies qs (next_memory d 0)) z
    (both_left (pick (zeros q d 0) (dies qs (next_memory d 0)) true) (pick (zeros q d 1) (dies qs (next_memory d 1)) true) w)
next_dies q qs d (suc zero) h z w =
    taken (zeros q d 1) (dies qs (next_memory d 1)) z
    (both_right (pick (zeros q d 0) (dies qs (next_memory d 0)) true) (pick (zeros q d 1) (dies qs (next_memory d 1)) true) w)
next_dies q qs d (suc (suc e)) h z w = absurd (omega arith)

zero_test : (x : ℕ) → x ≡ 0 → T (eqb x 0)
zero_test x e = subst (λ (v : ℕ). T (eqb v 0)) (sym e) tt

zero_both : (x y : ℕ) → x ≡ 0 → y ≡ 0 → T (both (eqb x 0) (eqb y 0))
zero_both x y e f = subst (λ (v : ℕ). T (both (eqb v 0) (eqb y 0))) (sym e) (zero_test y f)

coded_bit_lem : (taps : List ℕ) (m b : ℕ) → coded taps m b < 2
coded_bit_lem taps m b = mod-lt _ (lit< tt)

-- coded bits that were received clearly: of each one value at most costs nothing
module _ (rate : ℕ) (cost : ℕ → ℕ → ℕ) (clear : (j v w : ℕ) → v < 2 → w < 2 → cost j v ≡ 0 → cost j w ≡ 0 → v ≡ w) where
  module _ (m b n e : ℕ) (hm : m < 64) (hb : b < 2) (hn : n < 64) (he : e < 2) where
    same : (taps : List ℕ) (j : ℕ) → cost j (coded taps m b) ≡ 0 → cost j (coded taps n e) ≡ 0 → coded taps m b ≡ coded taps n e
    same taps j = clear j (coded taps m b) (coded taps n e) (coded_bit_lem taps m b) (coded_bit_lem taps n e)

    shown : (q j : ℕ) → kind_cost cost q j (coded taps_x m b) (coded taps_y m b) ≡ 0 → kind_cost cost q j (coded taps_x n e) (coded taps_y n e) ≡ 0 → T (zeros q (bit_xor m n) (bit_xor b e))
    shown zero j y z = tt
    shown (suc zero) j y z = zero_test _ (y_zero m b n e hm hb hn he (same taps_y j y z))
    shown (suc (suc zero)) j y z = zero_test _ (x_zero m b n e hm hb hn he (same taps_x j y z))
    shown (suc (suc (suc q))) j y z =
        let a : cost j (coded taps_x m b) ≡ 0 = omega arith in
        let a' : cost j (coded taps_x n e) ≡ 0 = omega arith in
        let d : cost (j + 1) (coded taps_y m b) ≡ 0 = omega arith in
        let d' : cost (j + 1) (coded taps_y n e) ≡ 0 = omega arith in
        zero_both _ _ (x_zero m b n e hm hb hn he (same taps_x j a a')) (y_zero m b n e hm hb hn he (same taps_y (j + 1) d d'))

  gone : (i k m n : ℕ) (bs es : List ℕ) → Bits bs → Bits es → m < 64 → n < 64 → i ≤ length bs → i ≤ length es → T (dies (kinds_from rate k i) (bit_xor m n))
      → cost_from (punctured_costs rate cost) k m bs ≡ 0 → cost_from (punctured_costs rate cost) k n es ≡ 0 → ⊥
  unfolding cost_from punctured_costs kinds_from
  gone zero k m n bs es v u hm hn l r w y z = w
  gone (suc i) k m n [] es v u hm hn l r w y z = absurd (omega arith)
  gone (suc i) k m n (b ∷ bs) [] v u hm hn l r w y z = absurd (omega arith)
  gone (suc i) k m n (b ∷ bs) (e ∷ es) (more hb v) (more he u) hm hn l r w y z =
      let s = shown m b n e hm hb hn he (kind_at rate k) (first rate k) (omega arith) (omega arith) in
      gone i (suc k) (next_memory m b) (next_memory n e) bs es v u (omega arith) (omega arith) (omega arith) (omega arith)
      (subst (λ (d : ℕ). T (dies (kinds_from rate (suc k) i) d)) (sym (next_xor m b n e hm hb hn he))
      (next_dies (kind_at rate k) (kinds_from rate (suc k) i) (bit_xor m n) (bit_xor b e) (bits_xor b e hb he) s w)) (omega arith) (omega arith)

  pinned : rate < 5 → (m n : ℕ) (bs es : List ℕ) → Bits bs → Bits es → m < 64 → n < 64 → 6 * pattern_length rate ≤ length bs → length bs ≡ length es
      → cost_from (punctured_costs rate cost) 0 m bs ≡ 0 → cost_from (punctured_costs rate cost) 0 n es ≡ 0 → m ≡ n
  pinned hr m n bs es v u hm hn l r y z = by (ℕ_discrete (bit_xor m n) 0)
    where
      by : Dec (bit_xor m n ≡ 0) → m ≡ n
      by (yes e) = xor_same m 0 n 0 hm (omega arith) hn (omega arith) e
      by (no q) =
          absurd (gone (6 * pattern_length rate) 0 m n bs es v u hm hn l (omega arith) (all_die rate (bit_xor m n) hr (memories_xor m n hm hn) q) y z)

-- ---- symbols

-- the coding of bits costs nothing by hard decisions on it
own_free : (rate m : ℕ) → rate < 5 → m < 64 → {bits : List ℕ} → Bits bits → length bits % pattern_length rate ≡ 0 → (ss : List ℕ) → ss ≡ symbols_of (coder_at rate m) bits
    → cost_from (punctured_costs rate (hard ss)) 0 m bits ≡ 0
own_free rate m hr hm w e ss es =
    sym (run_is (map differing ss) (hard ss) (hard_splits ss) rate m hr hm w e (ap length (sym es) ∙ sym (length-map ss differing)))
    ∙ (ap (total_cost (map differing ss)) (sym es) ∙ clear_free (hard_clear ss))

-- six patterns of symbols, or more, are the coding of one sequence, from one memory
pub same_coding : (rate : ℕ) → rate < 5 → (m n : ℕ) → m < 64 → n < 64 → (bs es : List ℕ) → Bits bs → Bits es → length bs % pattern_length rate ≡ 0
    → 6 * pattern_length rate ≤ length bs → length bs ≡ length es → symbols_of (coder_at rate m) bs ≡ symbols_of (coder_at rate n) es → (m ≡ n) × (bs ≡ es)
same_coding rate hr m n hm hn bs es v w whole long size e =
    let ss : List ℕ = symbols_of (coder_at rate m) bs in
    let whole' : length es % pattern_length rate ≡ 0 = ap (λ (k : ℕ). k % pattern_length rate) (sym size) ∙ whole in
    let same : m ≡ n =
    pinned rate (hard ss) (λ j x y hx hy a b. sym (differ_zero _ x a) ∙ differ_zero _ y b) hr m n bs es v w hm hn long size
    (own_free rate m hr hm v whole ss refl) (own_free rate n hr hn w whole' ss e) in
    let d = hard_decoded rate m hr hm ss (sent_whole rate m hr hm bs v whole ss refl).0 in
    let a = own_best rate m hr hm v whole ss refl d.decoded in
    let b = own_best rate m hr hm w whole' ss (e ∙ ap (λ (x : ℕ). symbols_of (coder_at rate x) es) (sym same)) d.decoded in
    (same, sym a.0 ∙ b.0)
