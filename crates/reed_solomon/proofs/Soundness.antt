-- What the decoder leaves: the errors taken away change the block's values at the roots by the syndromes of the errors, and take it as far from what came as the errors are from zero.
-- Assumes nothing.
use mathlib.Core.Path.{◌≡◌, refl, sym, ap, ap₂, ◌∙◌}
use mathlib.Core.List.{List, [], ◌∷◌, map}
use Prim.Native.Nat.{ℕ, zero, suc, ◌+◌, ◌-◌, ◌<◌, Fin}
use Prim.{tt}
use native.Mathlib.Nat.{not-suc-le-zero, le_of_suc-le-suc}
use native.Mathlib.Omega.{arith}
use lib.Bits.{bit_xor, xor_lt}
use lib.ListN.{length, get_or, set, length-set}
use lib.Seq.{get_or-set_other}
use Rattle.common.specs.Lists.{All, Bytes}
use Rattle.algebra.specs.Field.{Field, ops}
use Rattle.algebra.specs.Polynomial.{power}
use Rattle.common.proofs.Lists.{All-at}
use Rattle.algebra.proofs.Lists.{Away, Distinct}
use Rattle.algebra.proofs.Ring.{ring, add_zero as field-add-zero}
use Rattle.algebra.proofs.Syndromes.{syndrome}
use Rattle.algebra.proofs.Terms.{power_swap}
use Rattle.galois.proofs.Instance.{bytes, byte, byte_add}
use Rattle.reed_solomon.specs.Code.{distance}
use Rattle.reed_solomon.specs.Steps.{weighed}
use Rattle.galois.proofs.Elements.{alpha}
use Rattle.error_correction.specs.Correction.{corrected_by}
use Rattle.reed_solomon.proofs.Distance.{distance_none}
use Rattle.reed_solomon.proofs.LongDivision.{high, high_cons}
use Rattle.reed_solomon.proofs.Values.{degree_terms}

-- ---- identities

module _ (K : Field) where
  open K use {F, add as ◌⊕◌, mul as ◌⊗◌, 𝟘, 𝟙}

  infixl 65 ◌⊕◌
  infixl 70 ◌⊗◌
  here_identity : (u p y e : F) → u ⊕ p ⊗ (y ⊕ e) ≡ (u ⊕ p ⊗ y) ⊕ p ⊗ e
  here_identity u p y e = simp ring

  there_identity : (u w t : F) → (u ⊕ w) ⊕ t ≡ (u ⊕ t) ⊕ w
  there_identity u w t = simp ring

  next_identity : (u p e s : F) → (u ⊕ p ⊗ e) ⊕ s ≡ u ⊕ (e ⊗ p ⊕ s)
  next_identity u p e s = simp ring

-- ---- one byte changed

-- the value of a block with e added to byte k
high_set : (x : Fin 256) (b : List ℕ) (k e : ℕ) → k < length b
    → high x (set b k (bit_xor (get_or b k 0) e)) ≡ bytes.add (high x b) (bytes.mul (power (ops bytes) x (length b - 1 - k)) (byte e))
high_set x [] k e h = absurd (not-suc-le-zero h)
high_set x (y ∷ b) zero e h =
    high_cons x (bit_xor y e) b
    ∙ ap (λ (u : Fin 256). bytes.add (high x b) (bytes.mul (power (ops bytes) x (length b)) u)) (byte_add y e)
    ∙ here_identity bytes (high x b) (power (ops bytes) x (length b)) (byte y) (byte e)
    ∙ ap₂ (λ (u : Fin 256) (n : ℕ). bytes.add u (bytes.mul (power (ops bytes) x n) (byte e))) (sym (high_cons x y b)) last
  where
    last : length b ≡ suc (length b) - 1 - 0
    last = omega arith
high_set x (y ∷ b) (suc k) e h =
    high_cons x y (set b k (bit_xor (get_or b k 0) e))
    ∙ ap₂ (λ (u : Fin 256) (n : ℕ). bytes.add u (bytes.mul (power (ops bytes) x n) (byte y))) (high_set x b k e (le_of_suc-le-suc h)) (length-set b k (bit_xor (get_or b k 0) e))
    ∙ there_identity bytes (high x b) (bytes.mul (power (ops bytes) x (length b - 1 - k)) (byte e)) (bytes.mul (power (ops bytes) x (length b)) (byte y))
    ∙ ap₂ (λ (u : Fin 256) (n : ℕ). bytes.add u (bytes.mul (power (ops bytes) x n) (byte e))) (sym (high_cons x y b)) same
  where
    same : length b - 1 - k ≡ suc (length b) - 1 - suc k
    same = omega arith

bytes_set : (l : List ℕ) (i v : ℕ) → Bytes l → v < 256 → Bytes (set l i v)
bytes_set [] i v h b = tt
bytes_set (x ∷ l) zero v h b = (b, h.1)
bytes_set (x ∷ l) (suc i) v h b = (h.0, bytes_set l i v h.1 b)

bytes_at : (l : List ℕ) (i : ℕ) → Bytes l → i < length l → get_or l i 0 < 256
bytes_at l i h b = All-at (λ x. x < 256) l 0 i h b

-- ---- all errors taken away

pub corrected_length : (b ds es : List ℕ) → length (corrected_by b ds es) ≡ length b
unfolding corrected_by
corrected_length b [] es = refl
corrected_length b (d ∷ ds) [] = refl
corrected_length b (d ∷ ds) (e ∷ es) = corrected_length (set b (203 - d) (bit_xor (get_or b (203 - d) 0) e)) ds es ∙ length-set b (203 - d) (bit_xor (get_or b (203 - d) 0) e)

pub corrected_bytes : (b ds es : List ℕ) → length b ≡ 204 → Bytes b → Bytes es → Bytes (corrected_by b ds es)
unfolding corrected_by
corrected_bytes b [] es n h k = h
corrected_bytes b (d ∷ ds) [] n h k = h
corrected_bytes b (d ∷ ds) (e ∷ es) n h k =
    corrected_bytes (set b (203 - d) (bit_xor (get_or b (203 - d) 0) e)) ds es (length-set b (203 - d) (bit_xor (get_or b (203 - d) 0) e) ∙ n)
    (bytes_set b (203 - d) (bit_xor (get_or b (203 - d) 0) e) h (xor_lt 8 (get_or b (203 - d) 0) e (bytes_at b (203 - d) h (omega arith)) k.0)) k.1

pub corrected_value : (j : ℕ) (b ds es : List ℕ) → length b ≡ 204 → All (λ d. d < 204) ds → length es ≡ length ds
    → high (alpha j) (corrected_by b ds es) ≡ bytes.add (high (alpha j) b) (syndrome bytes (degree_terms ds es) j)
unfolding corrected_by degree_terms syndrome
corrected_value j b [] es n h m = sym (field-add-zero bytes (high (alpha j) b))
corrected_value j b (d ∷ ds) [] n h m = absurd (omega arith)
corrected_value j b (d ∷ ds) (e ∷ es) n h m =
    corrected_value j (set b (203 - d) (bit_xor (get_or b (203 - d) 0) e)) ds es (length-set b (203 - d) (bit_xor (get_or b (203 - d) 0) e) ∙ n) h.1 (omega arith)
    ∙ ap (λ (u : Fin 256). bytes.add u (syndrome bytes (degree_terms ds es) j)) (high_set (alpha j) b (203 - d) e (omega (arith, h.0)))
    ∙ ap (λ (u : Fin 256). bytes.add (bytes.add (high (alpha j) b) (bytes.mul u (byte e))) (syndrome bytes (degree_terms ds es) j)) place
    ∙ next_identity bytes (high (alpha j) b) (power (ops bytes) (alpha d) j) (byte e) (syndrome bytes (degree_terms ds es) j)
  where
    degree : length b - 1 - (203 - d) ≡ d
    degree = omega (arith, h.0)

    place : power (ops bytes) (alpha j) (length b - 1 - (203 - d)) ≡ power (ops bytes) (alpha d) j
    place = ap (power (ops bytes) (alpha j)) degree ∙ power_swap bytes (byte 2) j d

-- ---- how far from what came

-- at the degrees of the list the two blocks agree
abbrev Agree : List ℕ → List ℕ → List ℕ → Type 0
Agree a b ds = All (λ d. get_or b (203 - d) 0 ≡ get_or a (203 - d) 0) ds

agree_set : (a b : List ℕ) (d v : ℕ) (ds : List ℕ) → d < 204 → All (λ d. d < 204) ds → Away d ds → Agree a b ds → Agree a (set b (203 - d) v) ds
agree_set a b d v [] l h w g = tt
agree_set a b d v (k ∷ ds) l h w g = (
  get_or-set_other b (203 - d) (203 - k) v 0 (λ e. w.0 (omega (arith, h.0))) ∙ g.0,
  agree_set a b d v ds l h.1 w.1 g.1,
)

agree_self : (a ds : List ℕ) → Agree a a ds
agree_self a [] = tt
agree_self a (d ∷ ds) = (refl, agree_self a ds)

-- where equal bytes are not apart, and an error takes a byte as far from itself as the error is from zero
module _ (d : ℕ → ℕ → ℕ) (none : (x : ℕ) → d x x ≡ 0) (one : (x e : ℕ) → d x (bit_xor x e) ≡ d e 0) where
  distance_set : (a b : List ℕ) (k v : ℕ) → length a ≡ length b → k < length b → get_or b k 0 ≡ get_or a k 0
      → distance d a (set b k v) ≡ distance d a b + d (get_or a k 0) v
  unfolding distance
  distance_set [] [] k v n h e = absurd (not-suc-le-zero h)
  distance_set [] (y ∷ b) k v n h e = absurd (omega arith)
  distance_set (x ∷ a) [] k v n h e = absurd (omega arith)
  distance_set (x ∷ a) (y ∷ b) zero v n h e = omega (arith, ap (d x) e ∙ none x)
  distance_set (x ∷ a) (y ∷ b) (suc k) v n h e = omega (arith, distance_set a b k v (omega arith) (le_of_suc-le-suc h) e)

  corrected_from : (a b ds es : List ℕ) → length a ≡ 204 → length b ≡ 204 → All (λ d. d < 204) ds → Distinct ds → Agree a b ds → length es ≡ length ds
      → distance d a (corrected_by b ds es) ≡ distance d a b + weighed d es
  unfolding corrected_by weighed
  corrected_from a b [] [] na nb h w g m = omega arith
  corrected_from a b [] (e ∷ es) na nb h w g m = absurd (omega arith)
  corrected_from a b (k ∷ ds) [] na nb h w g m = absurd (omega arith)
  corrected_from a b (k ∷ ds) (e ∷ es) na nb h w g m =
      corrected_from a (set b (203 - k) (bit_xor (get_or b (203 - k) 0) e)) ds es na (length-set b (203 - k) (bit_xor (get_or b (203 - k) 0) e) ∙ nb) h.1 w.1
      (agree_set a b k (bit_xor (get_or b (203 - k) 0) e) ds h.0 h.1 w.0 g.1) (omega arith)
      ∙ omega (arith, distance_set a b (203 - k) (bit_xor (get_or b (203 - k) 0) e) (na ∙ sym nb) (omega arith) g.0, here)
    where
      here : d (get_or a (203 - k) 0) (bit_xor (get_or b (203 - k) 0) e) ≡ d e 0
      here = ap (λ (x : ℕ). d (get_or a (203 - k) 0) (bit_xor x e)) g.0 ∙ one (get_or a (203 - k) 0) e

  -- what is left is as far from what came as the errors are from zero
  pub corrected_distance : (a ds es : List ℕ) → length a ≡ 204 → All (λ d. d < 204) ds → Distinct ds → length es ≡ length ds
      → distance d a (corrected_by a ds es) ≡ weighed d es
  corrected_distance a ds es n h w m = corrected_from a a ds es n n h w (agree_self a ds) m ∙ omega (arith, distance_none d none a)

-- ---- degrees

pub distinct_unmap : (f : ℕ → Fin 256) (l : List ℕ) → Distinct (map f l) → Distinct l
distinct_unmap f [] h = tt
distinct_unmap f (x ∷ l) h = (away l h.0, distinct_unmap f l h.1)
  where
    away : (l : List ℕ) → Away (f x) (map f l) → Away x l
    away [] h = tt
    away (y ∷ l) h = ((λ e. h.0 (ap f e)), away l h.1)

-- a byte whose degree is not listed is as it came
pub corrected_other : (b ds es : List ℕ) (k : ℕ) → k < 204 → All (λ d. d < 204) ds → Away k ds → get_or (corrected_by b ds es) (203 - k) 0 ≡ get_or b (203 - k) 0
unfolding corrected_by
corrected_other b [] es k l h a = refl
corrected_other b (d ∷ ds) [] k l h a = refl
corrected_other b (d ∷ ds) (e ∷ es) k l h a =
    corrected_other (set b (203 - d) (bit_xor (get_or b (203 - d) 0) e)) ds es k l h.1 a.1
    ∙ get_or-set_other b (203 - d) (203 - k) (bit_xor (get_or b (203 - d) 0) e) 0 (λ y. a.0 (omega (arith, h.0)))
