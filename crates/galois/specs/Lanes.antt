-- Sixteen bytes of the field at once: products, powers of 02, and the values of a polynomial.
-- Assumes nothing.
use Rattle.std.specs.Prelude.{◌≡◌, List, [], ◌∷◌, ℕ, ◌+◌, ◌<◌, length, get_or, replicate}
use Rattle.algebra.specs.Polynomial.{eval, plus}
use Rattle.galois.specs.Field256.{numbers, mul, pow}

-- element by element, the products
unfoldable pub products_of : List ℕ → List ℕ → List ℕ
products_of [] b = []
products_of (x ∷ a) [] = []
products_of (x ∷ a) (y ∷ b) = mul x y ∷ products_of a b

-- sixteen powers of 02, from power n on
pub record PowersFrom (n : ℕ) (x : List ℕ) : Type 0 where
  pub each : (j : ℕ) → j < 16 → get_or x j 0 ≡ pow 2 (n + j)

-- one step of Horner's rule at the places x: from the values v, with one coefficient c more
unfoldable pub horner_step : List ℕ → List ℕ → ℕ → List ℕ
horner_step x v c = plus numbers (products_of x v) (replicate 16 c)

-- the values of a polynomial at sixteen places, the lowest coefficient first
pub record ValuesAt (q x v : List ℕ) : Type 0 where
  pub len : length v ≡ 16
  pub each : (j : ℕ) → j < 16 → get_or v j 0 ≡ eval numbers q (get_or x j 0)
  pub small : (j : ℕ) → j < 16 → get_or v j 0 < 256
