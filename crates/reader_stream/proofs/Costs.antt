-- Pairs that cost as symbols do: parts of them, and one behind the other.
-- Assumes nothing.
use mathlib.Core.Path.{◌≡◌, refl, sym, ◌∙◌, ap}
use mathlib.Core.Bool.{Bool}
use mathlib.Core.List.{List, [], ◌∷◌, ◌++◌, map}
use Prim.Native.Nat.{ℕ, zero, suc, ◌+◌, ◌-◌, ◌/◌, ◌%◌, ◌<◌}
use native.Mathlib.Decide.{dec_lt}
use native.Mathlib.Omega.{arith}
use borrow.Author.Tests.{lt-ltb, le-ltb}
use lib.Dec.{ltb}
use lib.ListN.{length, get_or, take, drop, length-append, length-take, length-drop, length-map, get_or-append}
use lib.Seq.{get_or-take, get_or-drop, get_or-append-add}
use Rattle.common.specs.Choice.{pick}
use Rattle.convolutional_code.specs.Costs.{pair_cost}
use Rattle.reader.specs.Cost.{symbol_cost, Costed}

module _ {R : Type 0} (cost : R → ℕ → ℕ) where
  -- members of a list that is mapped
  pub map-take : (k : ℕ) (rs : List R) → map cost (take k rs) ≡ take k (map cost rs)
  map-take zero rs = refl
  map-take (suc k) [] = refl
  map-take (suc k) (r ∷ rs) = ap (λ (l : List (ℕ → ℕ)). cost r ∷ l) (map-take k rs)

  pub map-drop : (k : ℕ) (rs : List R) → map cost (drop k rs) ≡ drop k (map cost rs)
  map-drop zero rs = refl
  map-drop (suc k) [] = refl
  map-drop (suc k) (r ∷ rs) = map-drop k rs

  map-append : (xs ys : List R) → map cost (xs ++ ys) ≡ map cost xs ++ map cost ys
  map-append [] ys = refl
  map-append (x ∷ xs) ys = ap (λ (l : List (ℕ → ℕ)). cost x ∷ l) (map-append xs ys)

  pub costed_take : {rs : List R} {l : List ℕ} (k : ℕ) → Costed cost rs l → Costed cost (take k rs) (take k l)
  costed_take {rs} {l} k c = record {
    size = omega (arith, length-take k rs, length-take k l, c.size);
    extra = c.extra;
    each = λ i s h four.
        let a : i < k = omega (arith, length-take k rs) in
        let b : i < length rs = omega (arith, length-take k rs) in
        ap (λ (fs : List (ℕ → ℕ)). get_or fs i (λ s. 0) s + c.extra i) (map-take k rs)
        ∙ ap (λ (f : ℕ → ℕ). f s + c.extra i) (get_or-take k (map cost rs) i (λ s. 0) a)
        ∙ c.each i s b four
        ∙ ap (λ (p : ℕ). pair_cost p (s / 2) (s % 2)) (sym (get_or-take k l i 0 a));
  }

  pub costed_drop : {rs : List R} {l : List ℕ} (k : ℕ) → Costed cost rs l → Costed cost (drop k rs) (drop k l)
  costed_drop {rs} {l} k c = record {
    size = omega (arith, length-drop k rs, length-drop k l, c.size);
    extra = λ i. c.extra (k + i);
    each = λ i s h four.
        let b : k + i < length rs = omega (arith, length-drop k rs) in
        ap (λ (fs : List (ℕ → ℕ)). get_or fs i (λ s. 0) s + c.extra (k + i)) (map-drop k rs)
        ∙ ap (λ (f : ℕ → ℕ). f s + c.extra (k + i)) (get_or-drop k (map cost rs) i (λ s. 0))
        ∙ c.each (k + i) s b four
        ∙ ap (λ (p : ℕ). pair_cost p (s / 2) (s % 2)) (sym (get_or-drop k l i 0));
  }

  pub costed_append : {xs ys : List R} {a b : List ℕ} → Costed cost xs a → Costed cost ys b → Costed cost (xs ++ ys) (a ++ b)
  costed_append {xs} {ys} {a} {b} c d = record {
    size = omega (arith, length-append xs ys, length-append a b, c.size, d.size);
    extra = extra;
    each = λ i s h four. ap (λ (fs : List (ℕ → ℕ)). get_or fs i (λ s. 0) s + extra i) (map-append xs ys) ∙ by i s h four (dec_lt i (length xs));
  }
    where
      extra : ℕ → ℕ
      extra i = pick (ltb i (length xs)) (c.extra i) (d.extra (i - length xs))

      at_front : (i : ℕ) → i < length xs → extra i ≡ c.extra i
      at_front i h = ap (λ (t : Bool). pick t (c.extra i) (d.extra (i - length xs))) (lt-ltb i (length xs) h)

      at_back : (i : ℕ) → (i < length xs → ⊥) → extra i ≡ d.extra (i - length xs)
      at_back i h = ap (λ (t : Bool). pick t (c.extra i) (d.extra (i - length xs))) (le-ltb i (length xs) (omega arith))

      by : (i s : ℕ) → i < length (xs ++ ys) → s < 4 → Dec (i < length xs) → get_or (map cost xs ++ map cost ys) i (λ s. 0) s + extra i ≡ symbol_cost (a ++ b) i s
      by i s h four (yes l) =
          ap (λ (f : ℕ → ℕ). f s + extra i) (get_or-append (map cost xs) (map cost ys) (λ s. 0) i (rw (length-map xs cost) l))
          ∙ ap (λ (x : ℕ). get_or (map cost xs) i (λ s. 0) s + x) (at_front i l)
          ∙ c.each i s l four
          ∙ ap (λ (p : ℕ). pair_cost p (s / 2) (s % 2)) (sym (get_or-append a b 0 i (omega (arith, c.size))))
      by i s h four (no l) =
          let j : ℕ = i - length xs in
          let e : i ≡ length (map cost xs) + j = omega (arith, length-map xs cost) in
          let u : i ≡ length a + j = omega (arith, c.size) in
          ap (λ (k : ℕ). get_or (map cost xs ++ map cost ys) k (λ s. 0) s + extra i) e
          ∙ ap (λ (f : ℕ → ℕ). f s + extra i) (get_or-append-add (map cost xs) (map cost ys) j (λ s. 0))
          ∙ ap (λ (x : ℕ). get_or (map cost ys) j (λ s. 0) s + x) (at_back i l)
          ∙ d.each j s (omega (arith, length-append xs ys)) four
          ∙ ap (λ (p : ℕ). pair_cost p (s / 2) (s % 2)) (sym (ap (λ (k : ℕ). get_or (a ++ b) k 0) u ∙ get_or-append-add a b j 0))
