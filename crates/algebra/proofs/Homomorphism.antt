-- A map that keeps sums and products keeps those of polynomials, and their values.
-- Assumes nothing.
use mathlib.Core.Path.{◌≡◌, refl, ap, ap₂, ◌∙◌}
use mathlib.Core.List.{List, [], ◌∷◌, map}
use Rattle.algebra.specs.Field.{Operations}
use Rattle.algebra.specs.Polynomial.{eval, plus, scale, product}

module _ (O P : Operations) (φ : O.F → P.F)
    (keeps-add : (a b : O.F) → φ (O.add a b) ≡ P.add (φ a) (φ b)) (keeps-mul : (a b : O.F) → φ (O.mul a b) ≡ P.mul (φ a) (φ b)) (keeps-zero : φ O.𝟘 ≡ P.𝟘) where
  pub keeps_eval : (p : List O.F) (x : O.F) → φ (eval O p x) ≡ eval P (map φ p) (φ x)
  unfolding eval
  keeps_eval [] x = keeps-zero
  keeps_eval (a ∷ p) x =
      keeps-add a (O.mul x (eval O p x)) ∙ ap (P.add (φ a)) (keeps-mul x (eval O p x) ∙ ap (P.mul (φ x)) (keeps_eval p x))

  pub map_plus : (p q : List O.F) → map φ (plus O p q) ≡ plus P (map φ p) (map φ q)
  unfolding plus
  map_plus [] q = refl
  map_plus (a ∷ p) [] = refl
  map_plus (a ∷ p) (b ∷ q) = ap₂ ◌∷◌ (keeps-add a b) (map_plus p q)

  pub map_scale : (c : O.F) (p : List O.F) → map φ (scale O c p) ≡ scale P (φ c) (map φ p)
  unfolding scale
  map_scale c [] = refl
  map_scale c (a ∷ p) = ap₂ ◌∷◌ (keeps-mul c a) (map_scale c p)

  pub map_product : (p q : List O.F) → map φ (product O p q) ≡ product P (map φ p) (map φ q)
  unfolding product
  map_product [] q = refl
  map_product (a ∷ p) q =
      map_plus (scale O a q) (O.𝟘 ∷ product O p q) ∙ ap₂ (plus P) (map_scale a q) (ap₂ ◌∷◌ keeps-zero (map_product p q))
