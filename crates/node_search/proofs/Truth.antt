-- On an unharmed window the search answers the truth, or that there are several hypotheses: the true one costs no more than the decisions cost in any case,
-- so it is a candidate.
-- Assumes nothing.
use mathlib.Core.Path.{◌≡◌, refl, sym, ◌∙◌, ap, ap₂, subst}
use mathlib.Core.Bool.{Bool, true, false, true≢false}
use mathlib.Core.Logic.{◌⊎◌, inl, inr}
use mathlib.Core.List.{List, [], ◌∷◌, ◌++◌, map}
use Prim.Native.Nat.{ℕ, zero, suc, ◌+◌, ◌-◌, ◌*◌, ◌/◌, ◌%◌, ◌≤◌, ◌<◌}
use Prim.{tt}
use native.Mathlib.Decide.{dec_lt, ℕ_discrete}
use native.Mathlib.Nat.{mul-mod_right, mul-div_right, mod-lt, mod-eq_of_lt, div-add-mod, mul-suc}
use native.Mathlib.Omega.{arith}
use borrow.Author.Tests.{lt-ltb, eq-eqb, ne_eqb}
use lib.Dec.{T, eqb, ltb, eqb→eq, ltb→lt}
use lib.ListN.{length, get_or, take, drop, replicate, length-append, length-drop, length-map, length-replicate, get_or-append}
use lib.Seq.{length-take-le, drop-append-add, get_or-append-add}
use Rattle.common.specs.Choice.{pick}
use Rattle.common.specs.Lists.{All, largest}
use Rattle.common.proofs.Computed.{both, both_left, both_right, below, below_at}
use Rattle.common.proofs.Largest.{largest_most}
use Rattle.common.proofs.Lists.{All-at, length_list_of, get_d_list_of}
use Rattle.convolutional_code.specs.Bits.{Bits}
use Rattle.convolutional_code.specs.Code.{memory_after}
use Rattle.convolutional_code.specs.Costs.{pair_cost}
use Rattle.convolutional_code.proofs.Bits.{bits_take, bits_drop}
use Rattle.puncturing.specs.Mode.{mode_of}
use Rattle.puncturing.specs.Step.{pattern_length}
use Rattle.inner_code.specs.Encode.{coder_at}
use Rattle.inner_code.specs.Step.{symbols_of}
use Rattle.viterbi_decoder.specs.Best.{Decoded}
use Rattle.reader.specs.Clear as clear
use Rattle.reader.specs.Clear.{AllClear}
use Rattle.reader.specs.Cost.{differing, total_cost, run_cost}
use Rattle.reader.specs.Decisions.{hard_pair}
use Rattle.reader.specs.Read.{symbols_per_pattern, run_bits}
use Rattle.reader.proofs.Costs.{sent_small}
use Rattle.reader.proofs.Patterns.{some_symbols, memory_in_range}
use Rattle.reader.proofs.Decisions.{pair_is}
use Rattle.reader.proofs.Unharmed.{differing_clear}
use Rattle.reader_stream.specs.Runs.{run_patterns}
use Rattle.reader_stream.proofs.Runs.{all_take, all_drop}
use Rattle.free_start.specs.Lead.{Unknown, lead_patterns, lead_symbols}
use Rattle.free_start.proofs.FreeStart.{free_least}
use Rattle.free_start.proofs.FreeStream.{lead_numbers, cut}
use Rattle.symbol_turns.specs.Turn.{undoing, turned, turned_pair, turn_class, by_pair}
use Rattle.symbol_turns.proofs.Turns.{turned_small, turned_all, costs_map, back_cost}
use Rattle.symbol_turns.proofs.Ambiguity.{classed}
use Rattle.node_search.specs.Hypotheses.{hypothesis, turns_told, hypothesis_at, hypothesis_count, hypotheses_of, hypotheses_below, any_rate, searched}
use Rattle.node_search.specs.Search as candidates
use Rattle.node_search.specs.Search.{kept, Candidates, next, verdict, Searches, SearchesWindow, refused, done}
use Rattle.node_search.specs.Sent.{Prefers, AllPrefer, none, more, SentWindow, start_offset, true_hypothesis}
use Rattle.node_search.specs.Weight.{cheaper, apart, of_pair, weight_of, floor_of, tried_symbols, tried_pairs, led_run, threshold, fits, Weighed}
use Rattle.node_search.specs.declared.Hypothesis.{Hypothesis}
use Rattle.node_search.specs.declared.Search.{Search}
use Rattle.node_search.specs.declared.Search.TheVariants.{Found, Nothing, Several}
use Rattle.node_search.proofs.Numbers.{numbers}
use Rattle.node_search.proofs.Calls.{passed_tests}
use Rattle.node_search.proofs.Verdicts.{below_more}

-- ---- lists that are mapped

pub map-take : (f : ℕ → ℕ) (k : ℕ) (l : List ℕ) → map f (take k l) ≡ take k (map f l)
map-take f zero l = refl
map-take f (suc k) [] = refl
map-take f (suc k) (x ∷ l) = ap (λ (r : List ℕ). f x ∷ r) (map-take f k l)

pub map-drop : (f : ℕ → ℕ) (k : ℕ) (l : List ℕ) → map f (drop k l) ≡ drop k (map f l)
map-drop f zero l = refl
map-drop f (suc k) [] = refl
map-drop f (suc k) (x ∷ l) = map-drop f k l

unknown : (n : ℕ) → All (Unknown by_pair) (replicate n 80)
unfolding pair_cost
unknown zero = tt
unknown (suc n) = (λ s h. eqb→eq (by_pair 80 s) 0 (below_at (λ s. eqb (by_pair 80 s) 0) 4 tt s h), unknown n)

-- ---- decisions that prefer the symbols that were sent

test_of : (f : ℕ → Bool) (n : ℕ) → ((k : ℕ) → k < n → T (f k)) → T (below f n)
test_of f zero h = tt
test_of f (suc n) h = two (f n) (below f n) (h n (omega arith)) (test_of f n (λ k l. h k (omega arith)))
  where
    two : (a b : Bool) → T a → T b → T (both a b)
    two true b x y = y
    two false b x y = absurd x

abbrev preferring : ℕ → ℕ → ℕ → Bool
preferring p s other = pick (eqb other s) true (ltb (by_pair p s) (by_pair p other))

abbrev cheapest : ℕ → ℕ → Bool
cheapest p s = both (eqb (by_pair p s) (of_pair cheaper p)) (ltb 0 (of_pair apart p))

-- a symbol that is preferred costs what the decisions cost in any case, and their costs lie apart
pub preferred_cost : (p s : ℕ) → p < 81 → s < 4 → Prefers by_pair p s → (by_pair p s ≡ of_pair cheaper p) × (1 ≤ of_pair apart p)
unfolding pair_cost
preferred_cost p s hp hs f =
    let t : T (below (preferring p s) 4) = test_of (preferring p s) 4 (λ o h. by o h (ℕ_discrete o s)) in
    let u : T (cheapest p s) =
    taken (below (preferring p s) 4) (cheapest p s) t
    (below_at (λ s. pick (below (preferring p s) 4) (cheapest p s) true) 4 (below_at (λ p. below (λ s. pick (below (preferring p s) 4) (cheapest p s) true) 4) 81 tt p hp) s hs) in
    (eqb→eq _ _ (both_left (eqb (by_pair p s) (of_pair cheaper p)) (ltb 0 (of_pair apart p)) u), ltb→lt _ _ (both_right (eqb (by_pair p s) (of_pair cheaper p)) (ltb 0 (of_pair apart p)) u))
  where
    by : (o : ℕ) → o < 4 → Dec (o ≡ s) → T (preferring p s o)
    by o h (yes e) = subst (λ (b : Bool). T (pick b true (ltb (by_pair p s) (by_pair p o)))) (sym (eq-eqb o s e)) tt
    by o h (no n) =
        subst (λ (b : Bool). T (pick b true (ltb (by_pair p s) (by_pair p o)))) (sym (ne_eqb o s n))
        (subst T (sym (lt-ltb (by_pair p s) (by_pair p o) (f o h n))) tt)

    taken : (a b : Bool) → T a → T (pick a b true) → T b
    taken true b x y = y
    taken false b x y = absurd x

pub prefer_length : {R : Type 0} {cost : R → ℕ → ℕ} {rs : List R} {ss : List ℕ} → AllPrefer cost rs ss → length rs ≡ length ss
prefer_length none = refl
prefer_length (more c g) = ap suc (prefer_length g)

pub prefer_take : {R : Type 0} {cost : R → ℕ → ℕ} {rs : List R} {ss : List ℕ} (k : ℕ) → AllPrefer cost rs ss → AllPrefer cost (take k rs) (take k ss)
prefer_take zero g = none
prefer_take (suc k) none = none
prefer_take (suc k) (more c g) = more c (prefer_take k g)

pub prefer_drop : {R : Type 0} {cost : R → ℕ → ℕ} {rs : List R} {ss : List ℕ} (k : ℕ) → AllPrefer cost rs ss → AllPrefer cost (drop k rs) (drop k ss)
prefer_drop zero g = g
prefer_drop (suc k) none = none
prefer_drop (suc k) (more c g) = prefer_drop k g

strict : (a b : ℕ) → a ≡ 0 → (b ≡ 0 → ⊥) → a < b
strict a b e n = omega arith

-- clear decisions do, and so do hard ones that are right
pub clear_prefers : {R : Type 0} {cost : R → ℕ → ℕ} {rs : List R} {ss : List ℕ} → AllClear cost rs ss → AllPrefer cost rs ss
clear_prefers clear.none = none
clear_prefers {cost = cost} (clear.more {r} {s} c g) = more (λ other h n. strict (cost r s) (cost r other) c.free_sent (λ z. n (c.only other h z))) (clear_prefers g)

hard_one : (s : ℕ) → s < 4 → Prefers by_pair (hard_pair s) s
hard_one s hs other h n =
    let d : differing s s < differing s other = strict (differing s s) (differing s other) (differing_clear s).free_sent (λ z. n ((differing_clear s).only other h z)) in
    omega (arith, d, pair_is s s hs hs, pair_is s other hs h)

pub hard_prefers : (ss : List ℕ) → All (λ s. s < 4) ss → AllPrefer by_pair (map hard_pair ss) ss
hard_prefers [] w = none
hard_prefers (s ∷ ss) w = more {r = hard_pair s} (hard_one s w.0) (hard_prefers ss w.1)

-- the symbols that are preferred when they are turned cost the floor when their decisions are turned back
back_floor : (c : ℕ) → c < 8 → (pairs ss : List ℕ) → All (λ p. p < 81) pairs → All (λ s. s < 4) ss → AllPrefer by_pair pairs (map (turned c) ss)
    → total_cost (map by_pair (map (turned_pair (undoing c)) pairs)) ss ≡ floor_of pairs
unfolding total_cost
back_floor c hc [] [] w v none = refl
back_floor c hc [] (s ∷ ss) w v x = elim x [ ]
back_floor c hc (p ∷ pairs) [] w v x = elim x [ ]
back_floor c hc (p ∷ pairs) (s ∷ ss) w v (more f g) =
    omega (arith, back_cost c p s hc w.0 v.0, (preferred_cost p (turned c s) w.0 (turned_small c s hc v.0) f).0, back_floor c hc pairs ss w.1 v.1 g)

some_weight : (pairs ss : List ℕ) → All (λ p. p < 81) pairs → All (λ s. s < 4) ss → AllPrefer by_pair pairs ss → 0 < length pairs → 1 ≤ weight_of pairs
some_weight [] [] w v none h = absurd (omega arith)
some_weight [] (s ∷ ss) w v x h = elim x [ ]
some_weight (p ∷ pairs) [] w v x h = elim x [ ]
some_weight (p ∷ pairs) (s ∷ ss) w v (more f g) h = omega (arith, (preferred_cost p s w.0 v.0 f).1)

floor_fits : (rate : ℕ) → rate < 5 → (pairs : List ℕ) (cost : ℕ) → cost ≤ floor_of pairs → 1 ≤ weight_of pairs → fits rate pairs cost ≡ true
floor_fits rate hr pairs cost l h =
    let p : 1 ≤ threshold rate * weight_of pairs = product (threshold rate) (weight_of pairs) (numbers rate hr).some_threshold h in
    lt-ltb (10000 * cost) (10000 * floor_of pairs + threshold rate * weight_of pairs) (omega arith)
  where
    product : (t w : ℕ) → 1 ≤ t → 1 ≤ w → 1 ≤ t * w
    product (suc t) (suc w) a b = omega (arith, mul-suc (suc t) w)
    product zero w a b = absurd (omega arith)
    product (suc t) zero a b = absurd (omega arith)

-- ---- the true hypothesis

module _ (rate turn passed : ℕ) (hr : rate < 5) (ht : turn < 8) (window : List ℕ) (sent : SentWindow rate turn passed window) where
  abbrev s : ℕ
  s = symbols_per_pattern rate

  abbrev p : ℕ
  p = pattern_length rate

  abbrev o : ℕ
  o = start_offset rate passed

  abbrev j : ℕ
  j = run_patterns rate - lead_patterns rate

  abbrev h : Hypothesis
  h = true_hypothesis rate turn passed

  pub offset_lt : o < s
  offset_lt = mod-lt (s - passed % s) (some_symbols rate hr)

  -- with the symbols before the first whole pattern whole patterns passed
  pub whole_passed : passed + o ≡ s * ((passed + o) / s)
  whole_passed = by (passed % s) (passed / s) (div-add-mod passed s) (mod-lt passed (some_symbols rate hr)) (ℕ_discrete (passed % s) 0)
    where
      by : (r q : ℕ) → s * q + r ≡ passed → r < s → Dec (r ≡ 0) → passed + (s - r) % s ≡ s * ((passed + (s - r) % s) / s)
      by r q e l (yes z) =
          let m : (s - r) % s ≡ 0 = ap (λ (x : ℕ). (s - x) % s) z ∙ mod_self in
          let n : passed + (s - r) % s ≡ s * q = omega (arith, e, m, z) in
          n ∙ sym (ap (λ (x : ℕ). s * (x / s)) n ∙ ap (λ (x : ℕ). s * x) (mul-div_right q (some_symbols rate hr)))
        where
          whole_s : (x : ℕ) → x - 0 ≡ x * 1
          whole_s x = omega arith

          mod_self : (s - 0) % s ≡ 0
          mod_self = ap (λ (x : ℕ). x % s) (whole_s s) ∙ mul-mod_right s 1
      by r q e l (no z) =
          let m : (s - r) % s ≡ s - r = mod-eq_of_lt (less s r l z) in
          let n : passed + (s - r) % s ≡ s * suc q = omega (arith, e, m, l, mul-suc s q) in
          n ∙ sym (ap (λ (x : ℕ). s * (x / s)) n ∙ ap (λ (x : ℕ). s * x) (mul-div_right (suc q) (some_symbols rate hr)))
        where
          less : (s r : ℕ) → r < s → (r ≡ 0 → ⊥) → s - r < s
          less s r h n = omega arith

  class_small : turn_class rate turn < 8
  unfolding turn_class
  class_small = ltb→lt _ _ (below_at (λ t. ltb (turn_class rate t) 8) 8 (below_at (λ r. below (λ t. ltb (turn_class r t) 8) 8) 5 tt rate hr) turn ht)

  tried_is : tried_symbols rate ≡ s * j
  unfolding tried_symbols
  tried_is = refl

  abbrev pairs : List ℕ
  pairs = tried_pairs rate o window

  came_length : length sent.came ≡ 1632
  came_length = sym (length-map sent.came (turned turn)) ∙ (sym (prefer_length sent.preferred) ∙ sent.size)

  fewer : o < 4
  fewer = omega (arith, offset_lt, (numbers rate hr).pattern_most)

  -- The symbols that are read were the coding of other bits, as many, from some memory, and turned by the class of the turn.
  record ReadAs : Type 0 where
    memory : ℕ
    in_range_lem : memory < 64
    others : List ℕ
    binary : Bits others
    whole : length others % p ≡ 0
    as_long : length (map (turned_pair (undoing (turn_class rate turn))) pairs) ≡ length (symbols_of (coder_at rate memory) others)
    floor : total_cost (map by_pair (map (turned_pair (undoing (turn_class rate turn))) pairs)) (symbols_of (coder_at rate memory) others) ≡ floor_of pairs
    weight : 1 ≤ weight_of pairs

  read_as : ReadAs
  read_as =
      let w = sent.binary in
      let q : ℕ = (passed + o) / s in
      let far : s * q ≡ length sent.before + o = sym whole_passed ∙ ap (λ (x : ℕ). x + o) (sym sent.cut) in
      let c1 = cut rate hr sent.memory sent.in_range_lem sent.bits w (sent.before ++ sent.came) sent.later sent.stream q
      (omega (arith, far, length-append sent.before sent.came, came_length, fewer)) in
      let m1 : ℕ = memory_after sent.memory (take (p * q) sent.bits) in
      let hm1 : m1 < 64 = memory_in_range rate sent.memory hr sent.in_range_lem (bits_take (p * q) w) in
      let bits1 : List ℕ = drop (p * q) sent.bits in
      let w1 : Bits bits1 = bits_drop (p * q) w in
      let d : drop (s * q) (sent.before ++ sent.came) ≡ drop o sent.came =
      ap (λ (x : ℕ). drop x (sent.before ++ sent.came)) far ∙ drop-append-add sent.before sent.came o in
      let e1 : drop o sent.came ++ sent.later ≡ symbols_of (coder_at rate m1) bits1 = ap (λ (l : List ℕ). l ++ sent.later) (sym d) ∙ c1.back in
      let n = numbers rate hr in
      let c2 = cut rate hr m1 hm1 bits1 w1 (drop o sent.came) sent.later e1 j
      (omega (arith, tried_is, n.tried_most, length-drop o sent.came, came_length, fewer)) in
      let bs : List ℕ = take (p * j) bits1 in
      let x = classed rate turn m1 hr ht hm1 bs (bits_take (p * j) w1) in
      let ss : List ℕ = symbols_of (coder_at rate x.memory) x.others in
      let four : All (λ s. s < 4) ss = sent_small rate x.memory hr x.in_range_lem x.binary in
      let small : All (λ p. p < 81) pairs = all_take (tried_symbols rate) (drop o window) (all_drop o window sent.small) in
      let g1 : AllPrefer by_pair pairs (map (turned turn) (take (tried_symbols rate) (drop o sent.came))) =
      subst (AllPrefer by_pair pairs)
      (sym (map-take (turned turn) (tried_symbols rate) (drop o sent.came) ∙ ap (take (tried_symbols rate)) (map-drop (turned turn) o sent.came)))
      (prefer_take (tried_symbols rate) (prefer_drop o sent.preferred)) in
      let g2 : AllPrefer by_pair pairs (map (turned (turn_class rate turn)) ss) =
      subst (AllPrefer by_pair pairs) (ap (map (turned turn)) (ap (λ (k : ℕ). take k (drop o sent.came)) tried_is ∙ c2.front) ∙ x.same) g1 in
      let some : 0 < length pairs =
      omega (arith, length-take-le (tried_symbols rate) (drop o window) (omega (arith, n.tried_most, length-drop o window, sent.size, fewer)), n.some_tried) in
      record {
        memory = x.memory;
        in_range_lem = x.in_range_lem;
        others = x.others;
        binary = x.binary;
        whole = ap (λ (k : ℕ). k % p) (x.size ∙ length-take-le (p * j) bits1 c2.fit) ∙ mul-mod_right p j;
        as_long = length-map pairs (turned_pair (undoing (turn_class rate turn))) ∙ (prefer_length g2 ∙ length-map ss (turned (turn_class rate turn)));
        floor = back_floor (turn_class rate turn) class_small pairs ss small four g2;
        weight = some_weight pairs (map (turned (turn_class rate turn)) ss) small (turned_all (turn_class rate turn) class_small ss four) g2 some;
      }

  -- so the true hypothesis is below its threshold
  true_below : (below : Bool) → Weighed window h below → below ≡ true
  unfolding lead_symbols
  true_below below w =
      let a = read_as in
      let run : List ℕ = led_run rate (turn_class rate turn) pairs in
      let d : Decoded (run_cost (map by_pair run) rate 0) (run_bits rate (length run)) 0 w.least.bits w.cost w.least.after =
      subst (λ (l : List (ℕ → ℕ)). Decoded (run_cost l rate 0) (run_bits rate (length run)) 0 w.least.bits w.cost w.least.after) (costs_map run) w.least.decoded in
      let z : w.cost ≤ total_cost (map by_pair (map (turned_pair (undoing (turn_class rate turn))) pairs)) (symbols_of (coder_at rate a.memory) a.others) =
      free_least by_pair rate hr (lead_patterns rate) (lead_numbers rate hr).six (replicate (lead_symbols rate) 80) (unknown (lead_symbols rate)) (length-replicate {A = ℕ} (lead_symbols rate) 80)
      a.memory a.in_range_lem a.others a.binary a.whole (map (turned_pair (undoing (turn_class rate turn))) pairs) (symbols_of (coder_at rate a.memory) a.others) refl a.as_long d in
      w.below_is ∙ floor_fits rate hr pairs w.cost (omega (arith, z, a.floor)) a.weight

-- ---- its place among the hypotheses

record Among (h : Hypothesis) (hs : List Hypothesis) : Type 0 where
  index : ℕ
  inside : index < length hs
  is : get_or hs index h ≡ h

among_left : {h : Hypothesis} (a b : List Hypothesis) → Among h a → Among h (a ++ b)
among_left {h} a b m = record {
  index = m.index;
  inside = omega (arith, m.inside, length-append a b);
  is = get_or-append a b h m.index m.inside ∙ m.is;
}

among_right : {h : Hypothesis} (a b : List Hypothesis) → Among h b → Among h (a ++ b)
among_right {h} a b m = record {
  index = length a + m.index;
  inside = omega (arith, m.inside, length-append a b);
  is = get_or-append-add a b m.index h ∙ m.is;
}

-- hypothesis number of an offset and a class
abbrev place : ℕ → ℕ → ℕ → ℕ
place rate offset class = length (turns_told rate) * offset + (class % 2 + class / 2)

place_test : ℕ → ℕ → ℕ → Bool
place_test rate t offset =
    pick (ltb offset (symbols_per_pattern rate))
    (both (ltb (place rate offset (turn_class rate t)) (hypothesis_count rate))
    (both (eqb (place rate offset (turn_class rate t) / length (turns_told rate)) offset)
    (eqb (get_or (turns_told rate) (place rate offset (turn_class rate t) % length (turns_told rate)) 0) (turn_class rate t)))) true

module _ (rate t offset : ℕ) (hr : rate < 5) (ht : t < 8) (ho : offset < symbols_per_pattern rate) where
  abbrev k : ℕ
  k = place rate offset (turn_class rate t)

  abbrev inside_test : Bool
  inside_test = ltb k (hypothesis_count rate)

  abbrev offset_test : Bool
  offset_test = eqb (k / length (turns_told rate)) offset

  abbrev turn_test : Bool
  turn_test = eqb (get_or (turns_told rate) (k % length (turns_told rate)) 0) (turn_class rate t)

  tested : T (both inside_test (both offset_test turn_test))
  unfolding place_test turn_class symbols_per_pattern mode_of
  tested =
      subst (λ (b : Bool). T (pick b (both inside_test (both offset_test turn_test)) true)) (lt-ltb offset (symbols_per_pattern rate) ho)
      (below_at (place_test rate t) 4
      (below_at (λ t. below (place_test rate t) 4) 8 (below_at (λ r. below (λ t. below (place_test r t) 4) 8) 5 tt rate hr) t ht) offset (omega (arith, ho, (numbers rate hr).pattern_most)))

  among_rate : Among (hypothesis rate offset (turn_class rate t)) (hypotheses_of rate)
  unfolding hypotheses_of
  among_rate =
      let a : k < hypothesis_count rate = ltb→lt _ _ (both_left inside_test (both offset_test turn_test) tested) in
      let r = both_right inside_test (both offset_test turn_test) tested in
      let b : k / length (turns_told rate) ≡ offset = eqb→eq _ _ (both_left offset_test turn_test r) in
      let c : get_or (turns_told rate) (k % length (turns_told rate)) 0 ≡ turn_class rate t = eqb→eq _ _ (both_right offset_test turn_test r) in
      record {
        index = k;
        inside = rw (length_list_of (hypothesis_count rate) (hypothesis_at rate)) a;
        is = get_d_list_of (hypothesis_count rate) (hypothesis_at rate) (hypothesis rate offset (turn_class rate t)) k a ∙ ap₂ (hypothesis rate) b c;
      }

among_below : {h : Hypothesis} (rate n : ℕ) → rate < n → Among h (hypotheses_of rate) → Among h (hypotheses_below n)
among_below rate zero l m = absurd (omega arith)
among_below {h} rate (suc n) l m = subst (Among h) (sym (below_more n)) (by (dec_lt rate n) (λ k. among_below rate n k m))
  where
    by : Dec (rate < n) → (rate < n → Among h (hypotheses_below n)) → Among h (hypotheses_below n ++ hypotheses_of n)
    by (yes k) f = among_left (hypotheses_below n) (hypotheses_of n) (f k)
    by (no k) f = let e : rate ≡ n = omega arith in among_right (hypotheses_below n) (hypotheses_of n) (subst (λ (r : ℕ). Among h (hypotheses_of r)) e m)

-- ---- the verdict

-- what is told is the hypothesis, or that there are several
abbrev pub Told : Hypothesis → Search → Type 0
Told h search = (search ≡ Found h) ⊎ (search ≡ Several)

abbrev is_nothing : Search → Bool
is_nothing Nothing = true
is_nothing (Found h) = false
is_nothing Several = false

told_more : {h : Hypothesis} (cs : List Hypothesis) → Told h (verdict cs) → (g : Hypothesis) (below : Bool) → Told h (verdict (cs ++ kept below g))
told_more [] (inl e) g below = absurd (true≢false (ap is_nothing e))
told_more [] (inr e) g below = absurd (true≢false (ap is_nothing e))
told_more (c ∷ []) t g true = inr refl
told_more (c ∷ []) t g false = t
told_more (c ∷ d ∷ cs) t g below = inr refl

told_last : (h : Hypothesis) (cs : List Hypothesis) → Told h (verdict (cs ++ h ∷ []))
told_last h [] = inl refl
told_last h (c ∷ []) = inr refl
told_last h (c ∷ d ∷ cs) = inr refl

-- a hypothesis that is searched, and is below its threshold however it is weighed
candidate_told : {window : List ℕ} {hs cs : List Hypothesis} → Candidates window hs cs → (h : Hypothesis)
    → ((below : Bool) → Weighed window h below → below ≡ true) → Among h hs → Told h (verdict cs)
candidate_told candidates.none h f a = absurd (omega (arith, a.inside))
candidate_told {window} (next {hs} {cs} g below c w) h f a = by (dec_lt a.index (length hs)) (λ l e. candidate_told c h f (record { index = a.index; inside = l; is = e }))
  where
    by : Dec (a.index < length hs) → (a.index < length hs → get_or hs a.index h ≡ h → Told h (verdict cs)) → Told h (verdict (cs ++ kept below g))
    by (yes l) r = told_more cs (r l (sym (get_or-append hs (g ∷ []) h a.index l) ∙ a.is)) g below
    by (no l) r =
        let n : a.index ≡ length hs + 0 = omega (arith, a.inside, length-append hs (g ∷ [])) in
        let e : g ≡ h = sym (get_or-append-add hs (g ∷ []) 0 h) ∙ (ap (λ (k : ℕ). get_or (hs ++ g ∷ []) k h) (sym n) ∙ a.is) in
        let b : below ≡ true = f below (subst (λ (x : Hypothesis). Weighed window x below) e w) in
        subst (λ (l : List Hypothesis). Told h (verdict (cs ++ l))) (ap (λ (x : Hypothesis). x ∷ []) (sym e) ∙ ap (λ (t : Bool). kept t g) (sym b)) (told_last h cs)

-- ---- the theorem

among_searched : (rate turn offset : ℕ) → rate < 5 → turn < 8 → offset < symbols_per_pattern rate → (asked : ℕ) → (asked ≡ rate) ⊎ (asked ≡ any_rate)
    → Among (hypothesis rate offset (turn_class rate turn)) (searched asked)
among_searched rate turn offset hr ht ho asked (inl e) =
    subst (λ (r : ℕ). Among (hypothesis rate offset (turn_class rate turn)) (searched r)) (sym e)
    (subst (λ (b : Bool). Among (hypothesis rate offset (turn_class rate turn)) (pick b (hypotheses_of rate) (hypotheses_below 5))) (sym (lt-ltb rate 5 hr)) (among_rate rate turn offset hr ht ho))
among_searched rate turn offset hr ht ho asked (inr e) =
    subst (λ (r : ℕ). Among (hypothesis rate offset (turn_class rate turn)) (searched r)) (sym e) (among_below rate 5 hr (among_rate rate turn offset hr ht ho))

-- Of a window that was not harmed the search of the hypotheses of its rate, or of all, tells the true one, or several: never a wrong one, and never nothing.
pub truth_told : (rate turn passed : ℕ) → rate < 5 → turn < 8 → {window : List ℕ} → SentWindow rate turn passed window → (asked : ℕ) → (asked ≡ rate) ⊎ (asked ≡ any_rate) → {search : Search}
    → Searches window (searched asked) search → Told (true_hypothesis rate turn passed) search
truth_told rate turn passed hr ht {window} sent asked a s =
    subst (Told (true_hypothesis rate turn passed)) (sym s.answer)
    (candidate_told s.are (true_hypothesis rate turn passed) (true_below rate turn passed hr ht window sent)
    (among_searched rate turn (start_offset rate passed) hr ht (offset_lt rate turn passed hr ht window sent) asked a))

-- So of a call, which does not refuse such a window.
pub truth_or_several : (rate turn passed : ℕ) → rate < 5 → turn < 8 → {window : List ℕ} → SentWindow rate turn passed window
    → (asked : ℕ) → (asked ≡ rate) ⊎ (asked ≡ any_rate) → {number : ℕ} {search : Search} → SearchesWindow asked window number search
    → (number ≡ 0) × Told (true_hypothesis rate turn passed) search
truth_or_several rate turn passed hr ht {window} sent asked a t = by a t
  where
    small : largest window < 81
    small = omega (arith, largest_most window 80 (λ i l. let q : get_or window i 0 < 81 = All-at (λ p. p < 81) window 0 i sent.small l in omega arith))

    within : (asked ≡ rate) ⊎ (asked ≡ any_rate) → asked < 6
    within (inl e) = omega arith
    within (inr e) = omega arith

    by : (asked ≡ rate) ⊎ (asked ≡ any_rate) → {number : ℕ} {search : Search} → SearchesWindow asked window number search
        → (number ≡ 0) × Told (true_hypothesis rate turn passed) search
    by a (refused e h n) = absurd (omega (arith, e, h, passed_tests asked window (within a) sent.size small))
    by a (done z p s) = (z, truth_told rate turn passed hr ht sent asked a s)
