-- The values found, where the syndromes obey the recurrence of the roots found: errors of these values at the roots have all sixteen syndromes.
-- Assumes nothing.
use mathlib.Core.Path.{◌≡◌, refl, sym, ap, ◌∙◌}
use mathlib.Core.List.{List, [], ◌∷◌, map}
use Prim.Native.Nat.{ℕ, zero, suc, ◌+◌, ◌≤◌, ◌<◌, Fin}
use native.Mathlib.Nat.{not-suc-le-zero, le_of_suc-le-suc}
use native.Mathlib.Omega.{arith}
use lib.ListN.{length, get_or, take, length-map, length-append}
use lib.Seq.{length-take-le}
use Rattle.common.proofs.Lists.{get_d_map_in}
use Rattle.algebra.specs.Field.{ops}
use Rattle.algebra.specs.Polynomial.{eval}
use Rattle.algebra.proofs.Polynomial.{quotient, from_roots}
use Rattle.algebra.proofs.Syndromes.{Term, places, dot, syndrome}
use Rattle.algebra.proofs.Recurrence.{others, cofactor, interpolated}
use Rattle.galois.specs.Field256.{pow}
use Rattle.galois.proofs.Instance.{bytes, byte, byte_power}
use Rattle.galois.proofs.Elements.{elements, alpha}
use Rattle.error_correction.specs.Correction.{roots_of, monic, RootProduct, error_value}
use Rattle.error_correction.proofs.RootCount.{roots_distinct}
use Rattle.reed_solomon.specs.Steps.{Recurs}
use Rattle.reed_solomon.proofs.Codewords.{roots_below, distinct_roots, length_roots}
use Rattle.reed_solomon.proofs.Completeness.{places_point}

-- degrees and values as terms
unfoldable pub degree_terms : List ℕ → List ℕ → List (Term bytes)
degree_terms [] es = []
degree_terms (d ∷ ds) [] = []
degree_terms (d ∷ ds) (e ∷ es) = (alpha d, byte e) ∷ degree_terms ds es

terms_length : (ds es : List ℕ) → length es ≡ length ds → length (degree_terms ds es) ≡ length ds
unfolding degree_terms
terms_length [] es n = refl
terms_length (d ∷ ds) [] n = absurd (omega arith)
terms_length (d ∷ ds) (e ∷ es) n = ap suc (terms_length ds es (omega arith))

terms_places : (ds es : List ℕ) → length es ≡ length ds → places bytes (degree_terms ds es) ≡ map alpha ds
unfolding degree_terms
terms_places [] es n = refl
terms_places (d ∷ ds) [] n = absurd (omega arith)
terms_places (d ∷ ds) (e ∷ es) n = ap (λ (l : List (Fin 256)). alpha d ∷ l) (terms_places ds es (omega arith))

terms_at : (ds es : List ℕ) (z : Term bytes) (l : ℕ) → length es ≡ length ds → l < length ds → get_or (degree_terms ds es) l z ≡ (alpha (get_or ds l 0), byte (get_or es l 0))
unfolding degree_terms
terms_at [] es z l n h = absurd (not-suc-le-zero h)
terms_at (d ∷ ds) [] z l n h = absurd (omega arith)
terms_at (d ∷ ds) (e ∷ es) z zero n h = refl
terms_at (d ∷ ds) (e ∷ es) z (suc l) n h = terms_at ds es z l (omega arith) (le_of_suc-le-suc h)

module _ (s u q p es : List ℕ) (few : length (roots_of u q) ≤ 16) (lp : length p ≡ 16) (rp : RootProduct (map (pow 2) (roots_of u q)) p) (n : length es ≡ length (roots_of u q))
    (values : (l : ℕ) → l < length (roots_of u q) → byte (get_or es l 0) ≡ error_value (monic (length (map (pow 2) (roots_of u q))) p) s (pow 2 (get_or (roots_of u q) l 0)))
    (r : Recurs s (map (pow 2) (roots_of u q))) where
  abbrev ds : List ℕ
  ds = roots_of u q

  abbrev rs : List (Fin 256)
  rs = map alpha ds

  abbrev E : List (Term bytes)
  E = degree_terms ds es

  abbrev none : Term bytes
  none = (bytes.𝟘, bytes.𝟘)

  abbrev count : ℕ
  count = length (map (pow 2) ds)

  abbrev N : List (Fin 256)
  N = elements (monic count p)

  count_is : count ≡ length ds
  count_is = length-map ds (pow 2)

  N-length : length N ≡ suc (length rs)
  N-length =
      length-map (monic count p) byte ∙ length-append (take count p) (1 ∷ [])
      ∙ omega (arith, length-take-le count p (omega (arith, count_is)), count_is, length-map ds alpha)

  N-values : (y : Fin 256) → eval (ops bytes) N y ≡ eval (ops bytes) (from_roots bytes rs) y
  N-values y = rp.values y ∙ ap (λ (l : List (Fin 256)). eval (ops bytes) (from_roots bytes l) y) (places_point ds)

  module _ (l : ℕ) (h : l < length ds) where
    abbrev d : ℕ
    d = get_or ds l 0

    -- the quotient by one factor is the product of the others
    quotient_is : quotient bytes (alpha d) N ≡ from_roots bytes (others bytes l rs)
    quotient_is =
        ap (λ (y : Fin 256). quotient bytes y N) (sym (get_d_map_in alpha ds 0 bytes.𝟘 l h))
        ∙ cofactor bytes (roots_below 17) rs N bytes.𝟘 l (distinct_roots 17 (omega arith)) (omega (arith, N-length, length-map ds alpha, length_roots 17)) N-length N-values
        (omega (arith, length-map ds alpha))

    own : byte (get_or es l 0) ≡ bytes.mul (dot bytes (from_roots bytes (others bytes l rs)) (λ i. byte (get_or s i 0))) (bytes.inv (eval (ops bytes) (from_roots bytes (others bytes l rs)) (alpha d)))
    unfolding error_value
    own =
        values l h
        ∙ ap (λ (y : Fin 256). bytes.mul (dot bytes (quotient bytes y N) (λ i. byte (get_or s i 0))) (bytes.inv (eval (ops bytes) (quotient bytes y N) y))) (byte_power 2 d)
        ∙ ap (λ (m : List (Fin 256)). bytes.mul (dot bytes m (λ i. byte (get_or s i 0))) (bytes.inv (eval (ops bytes) m (alpha d)))) quotient_is

  pub explained : (j : ℕ) → j < 16 → syndrome bytes E j ≡ byte (get_or s j 0)
  explained =
      interpolated bytes rs E none (terms_places ds es n) (λ i. byte (get_or s i 0)) 16 (roots_distinct u q) (omega (arith, length-map ds alpha))
      (λ l h.
      let k : l < length ds = omega (arith, terms_length ds es n) in
      ap (λ (t : Term bytes). t.1) (terms_at ds es none l n k) ∙ own l k
      ∙ ap (λ (t : Term bytes). bytes.mul (dot bytes (from_roots bytes (others bytes l rs)) (λ i. byte (get_or s i 0))) (bytes.inv (eval (ops bytes) (from_roots bytes (others bytes l rs)) t.0))) (sym (terms_at ds es none l n k)))
      (λ j h.
      ap (λ (k : List (Fin 256)). dot bytes (from_roots bytes k) (λ i. byte (get_or s (j + i) 0))) (sym (places_point ds)) ∙ r.each j (omega (arith, count_is, length-map ds alpha)))
