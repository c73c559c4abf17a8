-- What the steps from the error locator to the corrected block give.
-- Assumes nothing.
use Rattle.std.specs.Prelude.{◌≡◌, List, [], ◌∷◌, ◌++◌, map, eqb, length, get_or, take, set}
use Prim.Native.Nat.{ℕ, ◌+◌, ◌-◌, ◌≤◌, ◌<◌, Fin}
use Rattle.std.specs.Int.Bits.{bit_xor}
use Rattle.common.specs.Choice.{pick}
use Rattle.common.specs.Lists.{list_of}
use Rattle.algebra.specs.Field.{ops}
use Rattle.algebra.specs.Polynomial.{eval}
use Rattle.algebra.proofs.Polynomial.{quotient, from_roots}
use Rattle.algebra.proofs.Syndromes.{dot}
use Rattle.galois.specs.Field256.{pow}
use Rattle.galois.proofs.Instance.{bytes, byte}
use Rattle.galois.proofs.Elements.{elements, alpha}

-- the coefficients above d are zero
pub record EndsAt (q : List ℕ) (d : ℕ) : Type 0 where
  pub most : d ≤ 8
  pub zeros : (i : ℕ) → d < i → get_or q i 0 ≡ 0

-- ---- erasures

-- no byte is marked
pub record Unmarked (marks : List ℕ) : Type 0 where
  pub each : (i : ℕ) → get_or marks i 0 ≡ 0

-- the marks of a block by degree, and zeros after them: the byte of degree d stands at place 203 - d
pub record ByDegree (marks u : List ℕ) : Type 0 where
  pub each : (d : ℕ) → d < 204 → get_or u d 0 ≡ get_or marks (203 - d) 0
  pub after : (d : ℕ) → 204 ≤ d → get_or u d 0 ≡ 0

-- a value, and zero at an erasure, where the mark m is not zero
abbrev pub masked : ℕ → ℕ → ℕ
masked m v = pick (eqb m 0) v 0

-- the same, lane by lane
pub record Masked (m v w : List ℕ) : Type 0 where
  pub each : (j : ℕ) → j < 16 → get_or w j 0 ≡ masked (get_or m j 0) (get_or v j 0)

-- ---- the roots

-- the values of a polynomial at the first 204 powers of 02, as numbers, and zero at the erasures, whose marks by degree are u
unfoldable pub values_of : List ℕ → List ℕ → List ℕ
values_of u q = list_of 204 (λ i. masked (get_or u i 0) (eval (ops bytes) (elements q) (alpha i)).0)

-- the places of a list's zeros, the first element being at n
unfoldable pub zeros_from : ℕ → List ℕ → List ℕ
zeros_from n [] = []
zeros_from n (x ∷ l) = pick (eqb x 0) (n ∷ []) [] ++ zeros_from (n + 1) l

-- none of sixteen lanes is zero
pub record NoZero (v : List ℕ) : Type 0 where
  pub each : (j : ℕ) → j < 16 → get_or v j 0 ≡ 0 → ⊥

-- roots, and those among the first of sixteen places more: v has the values at the places x, of which the first is that of degree i
pub record Listed (degrees places : List ℕ) (count : ℕ) (v x : List ℕ) (i : ℕ) (degrees' places' : List ℕ) (count' : ℕ) : Type 0 where
  pub number : count' ≡ count + length (zeros_from i v)
  pub listed : take count' degrees' ≡ take count degrees ++ zeros_from i v
  pub placed : take count' places' ≡ take count places ++ map (λ d. get_or x (d - i) 0) (zeros_from i v)

-- the degrees below 204 of the erasures, and those at which a polynomial vanishes
abbrev pub roots_of : List ℕ → List ℕ → List ℕ
roots_of u q = zeros_from 0 (values_of u q)

-- the polynomial 1 vanishes nowhere: its roots are the erasures alone
abbrev pub one_polynomial : List ℕ
one_polynomial = 1 ∷ 0 ∷ 0 ∷ 0 ∷ 0 ∷ 0 ∷ 0 ∷ 0 ∷ 0 ∷ []

pub record FoundRoots (u q degrees places : List ℕ) (count : ℕ) : Type 0 where
  pub number : count ≡ length (roots_of u q)
  pub listed : take count degrees ≡ roots_of u q
  pub placed : take count places ≡ map (pow 2) (roots_of u q)

-- the polynomial of degree n whose coefficients below x^n are those of p, and whose highest is 1
abbrev pub monic : ℕ → List ℕ → List ℕ
monic n p = take n p ++ 1 ∷ []

-- p has the coefficients of the product of x + r, but for the highest, which is 1
pub record RootProduct (places p : List ℕ) : Type 0 where
  pub values : (y : Fin 256) → eval (ops bytes) (elements (monic (length places) p)) y ≡ eval (ops bytes) (from_roots bytes (elements places)) y

-- p / (x + y)
abbrev pub quotient_by : List ℕ → ℕ → List (Fin 256)
quotient_by p y = quotient bytes (byte y) (elements p)

-- with q = p / (x + y), the sum of q_i S_i, and q(y)
abbrev pub numerator_at : List ℕ → List ℕ → ℕ → Fin 256
numerator_at p s y = dot bytes (quotient_by p y) (λ i. byte (get_or s i 0))

abbrev pub denominator_at : List ℕ → ℕ → Fin 256
denominator_at p y = eval (ops bytes) (quotient_by p y) (byte y)

-- both, for sixteen places
pub record FractionsAt (p s places numerators denominators : List ℕ) : Type 0 where
  pub numerators_length : length numerators ≡ 16
  pub denominators_length : length denominators ≡ 16
  pub numerator : (l : ℕ) → l < 16 → byte (get_or numerators l 0) ≡ numerator_at p s (get_or places l 0)
  pub denominator : (l : ℕ) → l < 16 → byte (get_or denominators l 0) ≡ denominator_at p (get_or places l 0)

-- the value of the error at y: the one over the other
unfoldable pub error_value : List ℕ → List ℕ → ℕ → Fin 256
error_value p s y = bytes.mul (numerator_at p s y) (bytes.inv (denominator_at p y))

pub record ErrorValues (p s places : List ℕ) (count : ℕ) (e : List ℕ) : Type 0 where
  pub own : (l : ℕ) → l < count → byte (get_or e l 0) ≡ error_value (monic count p) s (get_or places l 0)
  pub small : (l : ℕ) → l < count → get_or e l 0 < 256
  pub rest : (l : ℕ) → count ≤ l → get_or e l 0 ≡ 0

-- a block with the errors taken away; the coefficient of x^d stands at place 203 - d
unfoldable pub corrected_by : List ℕ → List ℕ → List ℕ → List ℕ
corrected_by b [] es = b
corrected_by b (d ∷ ds) [] = b
corrected_by b (d ∷ ds) (e ∷ es) = corrected_by (set b (203 - d) (bit_xor (get_or b (203 - d) 0) e)) ds es

-- how many errors are not zero
unfoldable pub changed_in : List ℕ → ℕ
changed_in [] = 0
changed_in (e ∷ es) = pick (eqb e 0) 0 1 + changed_in es
