-- Every mode of the table is well formed, by one test that computes; and what the puncturing of one bit is in a mode that is.
-- Assumes nothing.
use mathlib.Core.Path.{◌≡◌, refl, ap, sym, subst, ◌∙◌}
use mathlib.Core.Bool.{Bool, true, false}
use mathlib.Core.Logic.{⊎_elim}
use mathlib.Core.List.{List, [], ◌∷◌, map}
use Prim.Native.Nat.{ℕ, ◌+◌, ◌%◌, ◌≤◌, ◌<◌}
use native.Mathlib.Nat.{mod-lt, mod_self, mod-eq_of_lt, eq-or-lt_of_le}
use native.Mathlib.Omega.{arith}
use lib.Dec.{T, ltb, leb, eqb, ltb→lt, leb→le, eqb→eq}
use lib.ListN.{length, get_or, length-map}
use Rattle.common.specs.Choice.{pick}
use Rattle.common.specs.Lists.{All}
use Rattle.common.proofs.Computed.{both, both_left, both_right}
use Rattle.common.proofs.Computed as computed
use Rattle.puncturing.specs.Mode.{CodedBit, X, Y, bit_of, Mode, mode_of, completed, begun, binary, mode_count}
use Rattle.puncturing.specs.WellFormed.{AtHand, newest, held, First, Beside, alone, paired, WellFormed}
use Rattle.puncturing.specs.Step.{next_by, held_count_by, value_at, symbol_of, symbol_list, punctured_by, first_of, held_by}

-- ---- the test

-- a test that each member of a list passes
abbrev every : {A : Type 0} → (A → Bool) → List A → Bool
every f [] = true
every f (x ∷ xs) = both (f x) (every f xs)

every_all : {A : Type 0} (f : A → Bool) (P : A → Type 0) → ((x : A) → T (f x) → P x) → (xs : List A) → T (every f xs) → All P xs
every_all f P g [] t = tt
every_all f P g (x ∷ xs) t = (g x (both_left (f x) (every f xs) t), every_all f P g xs (both_right (f x) (every f xs) t))

abbrev either : Bool → Bool → Bool
either true b = true
either false b = b

-- the same coded bit
abbrev same : CodedBit → CodedBit → Bool
same (X j) (X k) = eqb j k
same (X j) (Y k) = false
same (Y j) (X k) = false
same (Y j) (Y k) = eqb j k

same_bit : (a c : CodedBit) → T (same a c) → a ≡ c
same_bit (X j) (X k) t = ap X (eqb→eq j k t)
same_bit (X j) (Y k) t = absurd t
same_bit (Y j) (X k) t = absurd t
same_bit (Y j) (Y k) t = ap Y (eqb→eq j k t)

-- a coded bit is the first of the first of some symbols
abbrev heads : List (List CodedBit) → CodedBit → Bool
heads [] c = false
heads ([] ∷ ss) c = false
heads ((a ∷ r) ∷ ss) c = same a c

abbrev at_hand : Mode → ℕ → CodedBit → Bool
at_hand m place c = either (eqb (bit_of c) (place + 1)) (both (leb (bit_of c) place) (heads (begun m place) c))

at_hand_lem : (m : Mode) (place : ℕ) (c : CodedBit) → T (at_hand m place c) → AtHand m place c
at_hand_lem m place c t = by (eqb (bit_of c) (place + 1)) refl t
  where
    headed : (l : List (List CodedBit)) → begun m place ≡ l → T (heads l c) → bit_of c ≤ place → AtHand m place c
    headed [] e u h = absurd u
    headed ([] ∷ ss) e u h = absurd u
    headed ((a ∷ r) ∷ ss) e u h = held r ss (e ∙ ap (λ (x : CodedBit). (x ∷ r) ∷ ss) (same_bit a c u)) h

    by : (b : Bool) → eqb (bit_of c) (place + 1) ≡ b → T (either b (both (leb (bit_of c) place) (heads (begun m place) c))) → AtHand m place c
    by true e u = newest (eqb→eq _ _ (subst T (sym e) tt))
    by false e u =
        headed (begun m place) refl (both_right (leb (bit_of c) place) (heads (begun m place) c) u)
        (leb→le _ _ (both_left (leb (bit_of c) place) (heads (begun m place) c) u))

abbrev first_at_hand : Mode → ℕ → List CodedBit → Bool
first_at_hand m place [] = true
first_at_hand m place (c ∷ r) = at_hand m place c

first_at_hand_lem : (m : Mode) (place : ℕ) (s : List CodedBit) → T (first_at_hand m place s) → First (AtHand m place) s
first_at_hand_lem m place [] t = tt
first_at_hand_lem m place (c ∷ r) t = at_hand_lem m place c t

-- at a place of the pattern
abbrev placed : Mode → ℕ → Bool
placed m place =
    both (leb (length (completed m (place + 1))) 1)
    (both (leb (length (begun m place)) 1)
    (both (every (every (at_hand m place)) (completed m (place + 1))) (every (first_at_hand m place) (begun m (place + 1)))))

abbrev besides : Mode → Bool
besides m =
    either (eqb (length m.uncoded) 0)
    (both (eqb m.bits 1) (both (eqb (length m.uncoded) (length (completed m 1))) (every (λ s. eqb (length s) 2) m.symbols)))

abbrev well_formed : Mode → Bool
well_formed m =
    both (ltb 0 m.group)
    (both (eqb (204 % m.group) 0)
    (both (ltb 0 m.bits)
    (both (eqb (length (begun m 0)) 0) (both (eqb (length (begun m m.bits)) 0) (both (computed.below (placed m) m.bits) (besides m))))))

empty : {A : Type 0} (l : List A) → length l ≡ 0 → l ≡ []
empty [] e = refl
empty (x ∷ l) e = absurd (omega arith)

beside_of : (m : Mode) → T (besides m) → Beside m
beside_of m t = by (eqb (length m.uncoded) 0) refl t
  where
    by : (b : Bool) → eqb (length m.uncoded) 0 ≡ b
        → T (either b (both (eqb m.bits 1) (both (eqb (length m.uncoded) (length (completed m 1))) (every (λ s. eqb (length s) 2) m.symbols)))) → Beside m
    by true e u = alone (empty m.uncoded (eqb→eq _ _ (subst T (sym e) tt)))
    by false e u =
        let v = both_right (eqb m.bits 1) _ u in
        paired (eqb→eq _ _ (both_left (eqb m.bits 1) _ u)) (eqb→eq _ _ (both_left (eqb (length m.uncoded) (length (completed m 1))) _ v))
        (every_all (λ s. eqb (length s) 2) (λ s. length s ≡ 2) (λ s w. eqb→eq _ _ w) m.symbols (both_right (eqb (length m.uncoded) (length (completed m 1))) _ v))

well_formed_by : (m : Mode) → T (well_formed m) → WellFormed m
well_formed_by m t0 =
    let t1 = both_right (ltb 0 m.group) _ t0 in
    let t2 = both_right (eqb (204 % m.group) 0) _ t1 in
    let t3 = both_right (ltb 0 m.bits) _ t2 in
    let t4 = both_right (eqb (length (begun m 0)) 0) _ t3 in
    let t5 = both_right (eqb (length (begun m m.bits)) 0) _ t4 in
    let at : (place : ℕ) → place < m.bits → T (placed m place)
    = computed.below_at (placed m) m.bits (both_left (computed.below (placed m) m.bits) (besides m) t5) in
    let a : (place : ℕ) → Bool = λ place. leb (length (completed m (place + 1))) 1 in
    let b : (place : ℕ) → Bool = λ place. leb (length (begun m place)) 1 in
    let c : (place : ℕ) → Bool = λ place. every (every (at_hand m place)) (completed m (place + 1)) in
    let d : (place : ℕ) → Bool = λ place. every (first_at_hand m place) (begun m (place + 1)) in
    record {
      some_group = ltb→lt _ _ (both_left (ltb 0 m.group) _ t0);
      whole_groups = eqb→eq _ _ (both_left (eqb (204 % m.group) 0) _ t1);
      some_bits = ltb→lt _ _ (both_left (ltb 0 m.bits) _ t2);
      one_completed = λ place h. leb→le _ _ (both_left (a place) _ (at place h));
      one_begun = λ place h. leb→le _ _ (both_left (b place) _ (both_right (a place) _ (at place h)));
      none_at_start = empty (begun m 0) (eqb→eq _ _ (both_left (eqb (length (begun m 0)) 0) _ t3));
      none_at_end = empty (begun m m.bits) (eqb→eq _ _ (both_left (eqb (length (begun m m.bits)) 0) _ t4));
      complete = λ place h.
          every_all (every (at_hand m place)) (All (AtHand m place)) (λ s u. every_all (at_hand m place) (AtHand m place) (at_hand_lem m place) s u)
          (completed m (place + 1)) (both_left (c place) (d place) (both_right (b place) _ (both_right (a place) _ (at place h))));
      begins = λ place h.
          every_all (first_at_hand m place) (First (AtHand m place)) (first_at_hand_lem m place) (begun m (place + 1))
          (both_right (c place) (d place) (both_right (b place) _ (both_right (a place) _ (at place h))));
      beside = beside_of m (both_right (computed.below (placed m) m.bits) (besides m) t5);
    }

-- ---- the rows of the table

rows : T (computed.below (λ r. well_formed (mode_of r)) mode_count)
unfolding mode_of
rows = tt

pub well_formed_lem : (r : ℕ) → r < mode_count → WellFormed (mode_of r)
well_formed_lem r h = well_formed_by (mode_of r) (computed.below_at (λ r. well_formed (mode_of r)) mode_count rows r h)

-- ---- the puncturing of one bit

singled : (l : List ℕ) → length l ≤ 1 → symbol_list (symbol_of l) ≡ l
singled [] h = refl
singled (x ∷ []) h = refl
singled (x ∷ y ∷ l) h = absurd (omega arith)

pub next_by_lt : (m : Mode) → 0 < m.bits → (place : ℕ) → next_by m place < m.bits
next_by_lt m h place = mod-lt (place + 1) h

module _ {m : Mode} (w : WellFormed m) (place : ℕ) (k : place < m.bits) where
  -- the symbols that the bit completes
  pub punctured_list : (x y h : ℕ) → symbol_list (punctured_by m place x y h)
      ≡ map (λ (s : List CodedBit). binary (map (value_at (place + 1) x y h) s)) (completed m (place + 1))
  unfolding punctured_by
  punctured_list x y h =
      let f : List CodedBit → ℕ = λ s. binary (map (value_at (place + 1) x y h) s) in
      let n : length (map f (completed m (place + 1))) ≤ 1 = rw (length-map (completed m (place + 1)) f) (w.one_completed place k) in
      singled (map f (completed m (place + 1))) n

  pub symbol_count_by_lem : (x y h : ℕ) → length (symbol_list (punctured_by m place x y h)) ≡ length (completed m (place + 1))
  symbol_count_by_lem x y h =
      ap length (punctured_list x y h)
      ∙ length-map (completed m (place + 1)) (λ (s : List CodedBit). binary (map (value_at (place + 1) x y h) s))

  pub held_by_le : held_count_by m place ≤ 1
  unfolding held_count_by
  held_by_le = w.one_begun place k

  -- where the pattern goes on, or starts again with nothing held
  pub next_begun : begun m (next_by m place) ≡ begun m (place + 1)
  next_begun =
      ⊎_elim
      (λ e. ap (begun m) (ap (λ (n : ℕ). n % m.bits) e ∙ mod_self m.bits) ∙ w.none_at_start ∙ sym (ap (begun m) e ∙ w.none_at_end))
      (λ l. ap (begun m) (mod-eq_of_lt l))
      (eq-or-lt_of_le next_le)
    where
      next_le : place + 1 ≤ m.bits
      next_le = omega arith

pub pick_small : (b : Bool) (x y : ℕ) → x < 2 → y < 2 → pick b x y < 2
pick_small true x y h k = h
pick_small false x y h k = k

value_small : (i x y h : ℕ) → x < 2 → y < 2 → h < 2 → (c : CodedBit) → value_at i x y h c < 2
value_small i x y h hx hy hh (X j) = pick_small (eqb j i) x h hx hh
value_small i x y h hx hy hh (Y j) = pick_small (eqb j i) y h hy hh

first_small : (i x y h : ℕ) → x < 2 → y < 2 → h < 2 → (s : List CodedBit) → first_of i x y h s < 2
first_small i x y h hx hy hh [] = omega arith
first_small i x y h hx hy hh (c ∷ r) = value_small i x y h hx hy hh c

held_few : (i x y h : ℕ) → x < 2 → y < 2 → h < 2 → (l : List (List CodedBit)) → get_or (map (first_of i x y h) l) 0 0 ≤ length l
held_few i x y h hx hy hh [] = omega arith
held_few i x y h hx hy hh (s ∷ ss) = let f = first_small i x y h hx hy hh s in omega arith

-- the held bit stays in its range
pub held_by_range : {m : Mode} (w : WellFormed m) (place : ℕ) → place < m.bits → (x y h : ℕ) → x < 2 → y < 2 → h ≤ held_count_by m place
    → held_by m place x y h ≤ held_count_by m (next_by m place)
unfolding held_by held_count_by
held_by_range {m} w place k x y h hx hy hh =
    let e = w.one_begun place k in
    rw (next_begun w place k) (held_few (place + 1) x y h hx hy (omega arith) (begun m (place + 1)))
