-- A word as a list of terms: each coefficient at its place, whose syndromes are the values of the word.
-- Assumes nothing.
use mathlib.Core.Path.{◌≡◌, refl, sym, ap, ◌∙◌}
use mathlib.Core.List.{List, [], ◌∷◌}
use Prim.Native.Nat.{ℕ, zero, suc, ◌<◌}
use native.Mathlib.Omega.{arith}
use native.Mathlib.Nat.{not-suc-le-zero, le_of_suc-le-suc}
use lib.ListN.{length, get_or, length-map}
use Rattle.algebra.specs.Field.{Field, ops}
use Rattle.algebra.specs.Polynomial.{power, eval}
use Rattle.algebra.proofs.Ring.{ring, mul_zero, one_mul, mul_one}
use Rattle.algebra.proofs.Lists.{Distinct, Distinct-of}
use Rattle.algebra.proofs.Syndromes.{Term, syndrome, places}

module _ (K : Field) where
  open K use {F, add as ◌+◌, mul as ◌*◌, 𝟘, 𝟙, inv, dec}

  infixl 65 ◌+◌
  infixl 70 ◌*◌
  power_mul_step : (x y u v : F) → (x * y) * (u * v) ≡ (x * u) * (y * v)
  power_mul_step x y u v = simp ring

  power_mul : (x y : F) (j : ℕ) → power (ops K) (x * y) j ≡ power (ops K) x j * power (ops K) y j
  unfolding power
  power_mul x y zero = sym (one_mul K 𝟙)
  power_mul x y (suc j) = ap (λ u. (x * y) * u) (power_mul x y j) ∙ power_mul_step x y _ _

  power_one : (j : ℕ) → power (ops K) 𝟙 j ≡ 𝟙
  unfolding power
  power_one zero = refl
  power_one (suc j) = ap (λ u. 𝟙 * u) (power_one j) ∙ one_mul K 𝟙

  -- the order of two exponents
  pub power_swap : (x : F) (m n : ℕ) → power (ops K) (power (ops K) x m) n ≡ power (ops K) (power (ops K) x n) m
  unfolding power
  power_swap x zero n = power_one n
  power_swap x (suc m) n = power_mul x (power (ops K) x m) n ∙ ap (λ u. power (ops K) x n * u) (power_swap x m n)

  -- a word as errors: element i stands at the place x a^i
  unfoldable pub terms : F → F → List F → List (Term K)
  terms a x [] = []
  terms a x (b ∷ p) = (x, b) ∷ terms a (x * a) p

  terms_step : (b u v w : F) → b * u + (u * v) * w ≡ u * (b + v * w)
  terms_step b u v w = simp ring

  -- the value of a word at a^j is the syndrome j
  syn_terms : (a x : F) (p : List F) (j : ℕ) → syndrome K (terms a x p) j ≡ power (ops K) x j * eval (ops K) p (power (ops K) a j)
  unfolding terms syndrome eval
  syn_terms a x [] j = sym (mul_zero K _)
  syn_terms a x (b ∷ p) j = ap (λ u. b * power (ops K) x j + u) (syn_terms a (x * a) p j ∙ ap (λ u. u * eval (ops K) p (power (ops K) a j)) (power_mul x a j)) ∙ terms_step b (power (ops K) x j) (power (ops K) a j) _

  pub word_syndrome : (a : F) (p : List F) (j : ℕ) → eval (ops K) p (power (ops K) a j) ≡ syndrome K (terms a 𝟙 p) j
  word_syndrome a p j = sym (syn_terms a 𝟙 p j ∙ ap (λ u. u * eval (ops K) p (power (ops K) a j)) (power_one j) ∙ one_mul K _)

  pub length_terms : (a x : F) (p : List F) → length (terms a x p) ≡ length p
  unfolding terms
  length_terms a x [] = refl
  length_terms a x (b ∷ p) = ap suc (length_terms a (x * a) p)

  pub value_at_lem : (a x : F) (p : List F) (z : Term K) (i : ℕ) → i < length p → (get_or (terms a x p) i z).1 ≡ get_or p i 𝟘
  unfolding terms
  value_at_lem a x [] z i l = absurd (not-suc-le-zero l)
  value_at_lem a x (b ∷ p) z zero l = refl
  value_at_lem a x (b ∷ p) z (suc i) l = value_at_lem a (x * a) p z i (le_of_suc-le-suc l)

  place_step : (x a u : F) → (x * a) * u ≡ x * (a * u)
  place_step x a u = simp ring

  pub place_at : (a x : F) (p : List F) (d : F) (i : ℕ) → i < length p → get_or (places K (terms a x p)) i d ≡ x * power (ops K) a i
  unfolding terms power
  place_at a x [] d i l = absurd (not-suc-le-zero l)
  place_at a x (b ∷ p) d zero l = sym (mul_one K x)
  place_at a x (b ∷ p) d (suc i) l = place_at a (x * a) p d i (le_of_suc-le-suc l) ∙ place_step x a (power (ops K) a i)

  pub distinct_terms : (a : F) (p : List F) → ((i j : ℕ) → i < j → j < length p → power (ops K) a j ≡ power (ops K) a i → ⊥) → Distinct (places K (terms a 𝟙 p))
  distinct_terms a p h = Distinct-of (places K (terms a 𝟙 p)) 𝟘 (λ i j b l e.
      let m : j < length p = omega (arith, length-map (terms a 𝟙 p) (λ e. e.0), length_terms a 𝟙 p) in
      h i j b m (sym (one_mul K (power (ops K) a j)) ∙ sym (place_at a 𝟙 p 𝟘 j m) ∙ e ∙ place_at a 𝟙 p 𝟘 i (omega arith) ∙ one_mul K (power (ops K) a i)))
