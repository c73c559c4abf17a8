-- GF(256) by x^8 + x^4 + x^3 + x^2 + 1, 11D hex: the field of EN 300 421, 4.4.2. A byte is the polynomial whose coefficients are its bits.
-- The sum of two bytes is their xor. The definitions take any number, and read its eight low bits.
-- Assumes nothing.
use Rattle.std.specs.Prelude.{List, ℕ, zero, suc, ◌*◌, ◌/◌, ◌%◌}
use Rattle.std.specs.Int.Bits.{bit_xor}
use Rattle.algebra.specs.Field.{Operations}
use Rattle.algebra.specs.Polynomial.{power, scale}

-- a byte times x: shifted up by one, and where a ninth bit comes out of that, less the field polynomial
unfoldable pub times_x : ℕ → ℕ
times_x a = bit_xor (a * 2) (a / 128 % 2 * 0x11D)

-- a times the polynomial of the n low bits of b, by Horner's rule: the product by the upper bits, times x, and a more where the lowest bit is set
unfoldable pub rounds : ℕ → ℕ → ℕ → ℕ
rounds zero a b = 0
rounds (suc n) a b = bit_xor (times_x (rounds n a (b / 2))) (b % 2 * a)

-- the product
unfoldable pub mul : ℕ → ℕ → ℕ
mul a b = rounds 8 (a % 256) b

-- sums and products of bytes as operations on numbers
abbrev pub numbers : Operations
numbers = record { F = ℕ; add = bit_xor; mul = mul; 𝟘 = 0; 𝟙 = 1 }

-- a to the n
abbrev pub pow : ℕ → ℕ → ℕ
pow a n = power numbers a n

-- the inverse of a byte other than 0, and 0 of 0
unfoldable pub inv : ℕ → ℕ
inv a = pow a 254

-- each byte of a list times f
abbrev pub scaled : ℕ → List ℕ → List ℕ
scaled f a = scale numbers f a
