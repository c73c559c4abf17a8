-- The outer code RS(204,188) of EN 300 421, 4.4.2: the generator polynomial, codewords, and in how many bytes and bits two blocks differ.
-- Polynomials are lists of coefficients over GF(256), the lowest first.
-- Clauses: document 01, "Outer code"; document 02, P3.
-- Assumes nothing.
use Rattle.std.specs.Prelude.{◌≡◌, List, [], ◌∷◌, reverse, ℕ, zero, suc, ◌+◌, ◌/◌, ◌%◌, length}
use Rattle.common.specs.Choice.{unequal}
use Rattle.common.specs.Lists.{Bytes}
use Rattle.algebra.specs.Polynomial.{product}
use Rattle.galois.specs.Field256.{numbers, pow}
use Rattle.reed_solomon.specs.declared.Changed.{Changed}

-- the product of the n factors x + 02^i, i from 0 to n - 1
unfoldable pub factors : ℕ → List ℕ
factors zero = 1 ∷ []
factors (suc n) = product numbers (pow 2 n ∷ 1 ∷ []) (factors n)

-- the code generator polynomial g(x) = (x + 02^0) (x + 02^1) .. (x + 02^15)
unfoldable pub generator : List ℕ
generator = factors 16

-- a block as a polynomial: its first byte is the coefficient of x^203
abbrev pub polynomial : List ℕ → List ℕ
polynomial block = reverse block

-- a codeword is g times some polynomial with 188 coefficients, zeros allowed: with g's 17 coefficients that makes 204
pub record Codeword (block : List ℕ) : Type 0 where
  pub factor : List ℕ
  pub coefficients : length factor ≡ 188
  pub in_field : Bytes factor
  pub divides : polynomial block ≡ product numbers generator factor

-- ---- how far two blocks are apart

-- In how many of n bits two numbers are unequal. Bits 0 to n - 2 are compared singly and what is above them as one bit, so that the laws need not say
-- that these are bytes: of two bytes, with n = 8, these are the bits.
unfoldable pub unequal_bits : ℕ → ℕ → ℕ → ℕ
unequal_bits zero x y = 0
unequal_bits (suc zero) x y = unequal x y
unequal_bits (suc (suc n)) x y = unequal (x % 2) (y % 2) + unequal_bits (suc n) (x / 2) (y / 2)

-- the sum over the places of two lists of one length of how far their elements are apart
unfoldable pub distance : (ℕ → ℕ → ℕ) → List ℕ → List ℕ → ℕ
distance d [] b = 0
distance d (x ∷ a) [] = 0
distance d (x ∷ a) (y ∷ b) = d x y + distance d a b

-- in how many places two blocks of one length have unequal bytes: their Hamming distance
unfoldable pub differ : List ℕ → List ℕ → ℕ
differ a b = distance unequal a b

-- in how many bits two blocks of one length are unequal
unfoldable pub differ_bits : List ℕ → List ℕ → ℕ
differ_bits a b = distance (unequal_bits 8) a b

-- what is changed where one block is left in the place of another: how many bytes, and how many bits of them
abbrev pub changes : List ℕ → List ℕ → Changed
changes came left = record { bytes = differ came left; bits = differ_bits came left }

abbrev pub no_change : Changed
no_change = record { bytes = 0; bits = 0 }
