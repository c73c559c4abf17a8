-- Polynomials as lists of coefficients, the lowest first.
-- Assumes nothing.
use Rattle.std.specs.Prelude.{List, [], ◌∷◌, map, ℕ, zero, suc}
use Rattle.algebra.specs.Field.{Operations}

module _ (O : Operations) where
  open O use {F, add, mul, 𝟘, 𝟙}

  -- x to the n
  unfoldable pub power : F → ℕ → F
  power x zero = 𝟙
  power x (suc n) = mul x (power x n)

  -- the value of a polynomial at x, by Horner's rule
  unfoldable pub eval : List F → F → F
  eval [] x = 𝟘
  eval (a ∷ p) x = add a (mul x (eval p x))

  -- the sum; the shorter list counts as ended by zeros
  unfoldable pub plus : List F → List F → List F
  plus [] q = q
  plus (a ∷ p) [] = a ∷ p
  plus (a ∷ p) (b ∷ q) = add a b ∷ plus p q

  -- c times a polynomial
  unfoldable pub scale : F → List F → List F
  scale c p = map (mul c) p

  -- the product: (a + x p) q = a q + x (p q)
  unfoldable pub product : List F → List F → List F
  product [] q = []
  product (a ∷ p) q = plus (scale a q) (𝟘 ∷ product p q)
