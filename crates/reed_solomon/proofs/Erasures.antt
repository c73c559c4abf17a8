-- The marks of a block as erasures by degree.
-- Assumes nothing.
use mathlib.Core.Path.{◌≡◌, refl, sym, ap, ◌∙◌}
use mathlib.Core.List.{List, [], ◌∷◌, reverse}
use Prim.Native.Nat.{ℕ, suc, ◌+◌, ◌-◌, ◌<◌}
use native.Mathlib.Decide.{ℕ_discrete, dec_lt}
use native.Mathlib.Omega.{arith}
use borrow.Author.Tests.{eq-eqb, ne_eqb}
use lib.Dec.{eqb}
use lib.ListN.{length, get_or, length-reverse}
use Rattle.common.specs.Choice.{pick}
use Rattle.error_correction.specs.Correction.{Unmarked, ByDegree, masked, values_of, zeros_from, roots_of, one_polynomial}
use Rattle.error_correction.proofs.RootSearch.{length_values, value_one}
use Rattle.error_correction.proofs.Zeros.{hit, hit_zero, hit_other, zeros_cons}
use Rattle.reed_solomon.specs.Marks.{marked}
use Rattle.reed_solomon.proofs.MarkedDistance.{marked_reverse}
use Rattle.reed_solomon.proofs.Residue.{reverse_at}

hit_mark : (n x m : ℕ) → x ≡ masked m 1 → hit n x ≡ pick (eqb m 0) 0 1
hit_mark n x m e = go (ℕ_discrete m 0)
  where
    go : Dec (m ≡ 0) → hit n x ≡ pick (eqb m 0) 0 1
    go (yes z) = let o : x ≡ 1 = e ∙ simp (eq-eqb m 0 z) in hit_other n x (λ y. omega arith) ∙ sym (simp (eq-eqb m 0 z))
    go (no z) = hit_zero n x (e ∙ simp (ne_eqb m 0 z)) ∙ sym (simp (ne_eqb m 0 z))

zeros_marked : (n : ℕ) (l ms : List ℕ) → length l ≡ length ms → ((i : ℕ) → i < length l → get_or l i 0 ≡ masked (get_or ms i 0) 1) → length (zeros_from n l) ≡ marked ms
unfolding zeros_from marked
zeros_marked n [] [] h m = refl
zeros_marked n [] (y ∷ ms) h m = absurd (omega arith)
zeros_marked n (x ∷ l) [] h m = absurd (omega arith)
zeros_marked n (x ∷ l) (y ∷ ms) h m =
    omega (arith, zeros_cons n x l, hit_mark n x y (m 0 (omega arith)), zeros_marked (n + 1) l ms (omega arith) (λ i k. m (suc i) (omega arith)))

-- where no byte is marked, no degree is
pub unmarked_degrees : (marks u : List ℕ) → ByDegree marks u → ((i : ℕ) → get_or marks i 0 ≡ 0) → Unmarked u
unmarked_degrees marks u c z = record { each = λ d. by d (dec_lt d 204) }
  where
    by : (d : ℕ) → Dec (d < 204) → get_or u d 0 ≡ 0
    by d (yes h) = c.each d h ∙ z (203 - d)
    by d (no h) = c.after d (omega arith)

-- there are as many erasures as marks
pub erasures_count : (marks u : List ℕ) → length marks ≡ 204 → ByDegree marks u → length (roots_of u one_polynomial) ≡ marked marks
erasures_count marks u n c =
    zeros_marked 0 (values_of u one_polynomial) (reverse marks) (length_values u one_polynomial ∙ sym (length-reverse marks ∙ n)) at ∙ marked_reverse marks
  where
    at : (i : ℕ) → i < length (values_of u one_polynomial) → get_or (values_of u one_polynomial) i 0 ≡ masked (get_or (reverse marks) i 0) 1
    at i h =
        let l : i < 204 = omega (arith, length_values u one_polynomial) in
        value_one u i l ∙ ap (λ (m : ℕ). masked m 1) (c.each i l ∙ sym (reverse_at marks i (203 - i) (omega arith)))
