-- What the outer coder gives: EN 300 421, 4.4.2.
-- Assumes nothing.
use Rattle.std.specs.Prelude.{List, [], ◌∷◌, ◌++◌, reverse, ℕ, ltb, eqb, length, get_or, take, drop, replicate}
use Rattle.std.specs.Int.Bits.{bit_xor}
use Rattle.common.specs.Choice.{pick}
use Rattle.common.specs.Refusal.{unless, when, first_due}
use Rattle.algebra.specs.Polynomial.{plus}
use Rattle.galois.specs.Field256.{numbers, scaled}
use Rattle.reed_solomon.specs.Code.{generator}

-- the coefficients of g below x^16, from x^15 down
unfoldable pub generator_tail : List ℕ
generator_tail = reverse (take 16 generator)

-- one step of long division by g: r is the remainder so far, from x^15 down, and d the next coefficient of the dividend.
-- What leaves at the top is taken away as that many times g.
unfoldable pub divided : List ℕ → ℕ → List ℕ
divided r d = plus numbers (drop 1 r ++ 0 ∷ []) (scaled (bit_xor (get_or r 0 0) d) generator_tail)

unfoldable pub remainder_from : List ℕ → List ℕ → List ℕ
remainder_from r [] = r
remainder_from r (d ∷ ds) = remainder_from (divided r d) ds

-- the sixteen check bytes of a message: the remainder of the message times x^16 by g
unfoldable pub check_bytes : List ℕ → List ℕ
check_bytes message = remainder_from (replicate 16 0) message

-- the coded block
abbrev pub encoded : List ℕ → List ℕ
encoded message = message ++ check_bytes message

-- the answer's number: 1 for data that is not 188 bytes, 4 for room under 204
abbrev pub encode_number : List ℕ → List ℕ → ℕ
encode_number message output = first_due (unless (eqb (length message) 188) 1 ∷ when (ltb (length output) 204) 4 ∷ [])

-- the output after the call
abbrev pub encode_output : List ℕ → List ℕ → List ℕ
encode_output message output = pick (eqb (encode_number message output) 0) (encoded message ++ drop 204 output) output
