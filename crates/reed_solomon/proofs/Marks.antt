-- Marks: how many bytes are marked, and when they are marks.
-- Assumes nothing.
use mathlib.Core.Path.{◌≡◌, refl, sym, ap, ◌∙◌}
use mathlib.Core.Bool.{true, false}
use mathlib.Core.List.{List, [], ◌∷◌, ◌++◌}
use Prim.Native.Nat.{ℕ, zero, suc, ◌+◌, ◌≤◌, ◌<◌}
use native.Mathlib.Decide.{ℕ_discrete}
use native.Mathlib.Numerals.{add-one}
use native.Mathlib.Omega.{arith}
use borrow.Author.Tests.{eq-eqb, ne_eqb, lt-ltb, eqb-true, ltb-true}
use lib.Dec.{eqb}
use lib.ListN.{get_or, take}
use lib.Seq.{take-suc}
use Rattle.common.specs.Choice.{pick}
use Rattle.common.specs.Lists.{largest}
use Rattle.common.proofs.Choice.{false_true, both_true}
use Rattle.common.proofs.Largest.{largest_least, largest_most, largest_zeros}
use Rattle.reed_solomon.specs.Marks.{Marks, are_marks, no_marks, marked}

-- 1 where a byte is marked
abbrev pub mark : ℕ → ℕ
mark m = pick (eqb m 0) 0 1

mark_clear : (m : ℕ) → m ≡ 0 → mark m ≡ 0
mark_clear m e = simp (eq-eqb m 0 e)

pub mark_marked : (m : ℕ) → (m ≡ 0 → ⊥) → mark m ≡ 1
mark_marked m n = simp (ne_eqb m 0 n)

pub marked_append : (a b : List ℕ) → marked (a ++ b) ≡ marked a + marked b
unfolding marked
marked_append [] b = omega arith
marked_append (m ∷ a) b = omega (arith, marked_append a b)

-- ---- counting the marks

mark_bit : (m : ℕ) → m ≤ 1 → mark m ≡ m
mark_bit m h = go (ℕ_discrete m 0)
  where
    go : Dec (m ≡ 0) → mark m ≡ m
    go (yes e) = mark_clear m e ∙ sym e
    go (no n) = omega (arith, mark_marked m n)

-- where none is counted, none is marked
pub marked_zero : (ms : List ℕ) → marked ms ≡ 0 → (i : ℕ) → get_or ms i 0 ≡ 0
unfolding marked
marked_zero [] h i = refl
marked_zero (m ∷ ms) h zero = go (ℕ_discrete m 0)
  where
    go : Dec (m ≡ 0) → m ≡ 0
    go (yes e) = e
    go (no n) = absurd (omega (arith, mark_marked m n))
marked_zero (m ∷ ms) h (suc i) = marked_zero ms (omega arith) i

-- the first i marks are counted
pub record CountedTo (marks : List ℕ) (count i : ℕ) : Type 0 where
  pub most : i ≤ 204
  pub total : count ≡ marked (take i marks)
  pub fits : count ≤ i

pub counted_none : (marks : List ℕ) → CountedTo marks 0 0
unfolding marked
counted_none marks = record { most = omega arith; total = refl; fits = omega arith }

pub counted_more : (marks : List ℕ) (count i : ℕ) → Marks marks → i < 204 → CountedTo marks count i → CountedTo marks (count + get_or marks i 0) (i + 1)
unfolding marked
counted_more marks count i m l c =
    let b = m.bits i l in
    let n = m.size in
    let e : take (i + 1) marks ≡ take i marks ++ get_or marks i 0 ∷ [] = ap (λ (k : ℕ). take k marks) (add-one i) ∙ take-suc marks i 0 (omega arith) in
    record {
      most = omega arith;
      total = omega (arith, c.total, ap marked e, marked_append (take i marks) (get_or marks i 0 ∷ []), mark_bit (get_or marks i 0) b);
      fits = omega (arith, c.fits);
    }

-- ---- when they are marks

pub marks_of_lem : (marks : List ℕ) → are_marks marks ≡ true → Marks marks
marks_of_lem marks e =
    let a = both_true _ _ e in
    record { size = eqb-true _ _ a.0; bits = λ i h. omega (arith, largest_least marks i, ltb-true (largest marks) 2 a.1) }

pub marks_not : (marks : List ℕ) → are_marks marks ≡ false → Marks marks → ⊥
marks_not marks e m =
    let l : largest marks < 2 = omega (arith, largest_most marks 1 (λ i h. m.bits i (omega (arith, m.size)))) in
    false_true (sym e ∙ simp (eq-eqb _ _ m.size, lt-ltb _ _ l))

pub are_marks_none : are_marks no_marks ≡ true
are_marks_none = let l : largest no_marks < 2 = omega (arith, largest_zeros 204) in simp (lt-ltb _ _ l)

pub no_marks_lem : Marks no_marks
no_marks_lem = marks_of_lem no_marks are_marks_none
