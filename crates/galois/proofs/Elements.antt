-- Lists of bytes as lists over the field, and the powers of 02.
-- Assumes nothing.
use mathlib.Core.List.{List, map, reverse}
use Prim.Native.Nat.{ℕ, Fin}
use Rattle.algebra.specs.Field.{ops}
use Rattle.algebra.specs.Polynomial.{power}
use Rattle.galois.proofs.Instance.{bytes, byte}

-- each number's low byte, as an element of the field
abbrev pub elements : List ℕ → List (Fin 256)
elements l = map byte l

-- a list whose first element is the highest coefficient, as a polynomial
abbrev pub word : List ℕ → List (Fin 256)
word l = elements (reverse l)

-- power i of 02. The first sixteen are the roots of the generator polynomial, and the first 204 the places of a block's coefficients
abbrev pub alpha : ℕ → Fin 256
alpha i = power (ops bytes) (byte 2) i
