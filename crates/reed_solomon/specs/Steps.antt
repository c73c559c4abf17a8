-- What the private steps of the coder and the decoder give. The public contracts do not rest on these definitions.
-- Lists of coefficients have the highest first.
-- Assumes nothing.
use Rattle.std.specs.Prelude.{◌≡◌, Bool, true, false, List, [], ◌∷◌, eqb, length, get_or, take, drop}
use Prim.Native.Nat.{ℕ, zero, suc, ◌+◌, ◌-◌, ◌/◌, ◌%◌, ◌^◌, ◌≤◌, ◌<◌, Fin}
use Rattle.std.specs.Int.Bits.{bit_xor}
use Rattle.common.specs.Choice.{pick}
use Rattle.algebra.specs.Field.{ops}
use Rattle.algebra.specs.Polynomial.{eval, plus}
use Rattle.algebra.proofs.Polynomial.{from_roots}
use Rattle.algebra.proofs.Syndromes.{dot}
use Rattle.galois.specs.Field256.{numbers}
use Rattle.galois.proofs.Instance.{bytes, byte}
use Rattle.galois.proofs.Elements.{word, elements, alpha}
use Rattle.reed_solomon.specs.Encode.{check_bytes}

-- ---- the division

-- how far below x^84 the other powers of the sparse multiple of g lie
abbrev pub delays : List ℕ
delays = 22 ∷ 23 ∷ 33 ∷ 34 ∷ 35 ∷ 37 ∷ 43 ∷ 44 ∷ 48 ∷ 55 ∷ 58 ∷ 59 ∷ 63 ∷ 65 ∷ 67 ∷ 68 ∷ 69 ∷ 70 ∷ 72 ∷ 77 ∷ 78 ∷ 80 ∷ 82 ∷ 83 ∷ 84 ∷ []

-- x, and what stands in q so many places before place n, for each delay
unfoldable pub delayed_sum : List ℕ → List ℕ → ℕ → ℕ → ℕ
delayed_sum [] q n x = x
delayed_sum (d ∷ ds) q n x = delayed_sum ds q n (bit_xor x (get_or q (n - d) 0))

-- the same for the sixteen elements of v, from place n on
pub record DelayedSums (ds q : List ℕ) (n : ℕ) (v r : List ℕ) : Type 0 where
  pub each : (j : ℕ) → j < 16 → get_or r j 0 ≡ delayed_sum ds q (n + j) (get_or v j 0)

-- the first i coefficients of the quotient of m by the sparse multiple, from place 84 on, between zeros
pub record SparseQuotient (m q : List ℕ) (i : ℕ) : Type 0 where
  pub before : (k : ℕ) → k < 84 → get_or q k 0 ≡ 0
  pub each : (k : ℕ) → k < i → get_or q (84 + k) 0 ≡ delayed_sum delays q (84 + k) (get_or m k 0)
  pub after : (k : ℕ) → 84 + i ≤ k → get_or q k 0 ≡ 0

-- what is left of m after 128 coefficients of the quotient: i elements of it
pub record SparseRemainder (m q r : List ℕ) (i : ℕ) : Type 0 where
  pub each : (k : ℕ) → k < i → get_or r k 0 ≡ delayed_sum delays q (212 + k) (get_or m (128 + k) 0)

-- bit i of a number
abbrev pub bit_of : ℕ → ℕ → ℕ
bit_of i x = x / 2 ^ i % 2

-- f c_0 l_n + f c_1 l_(n - 1) + .., a term for each factor c
unfoldable pub back_sum : (ℕ → ℕ) → List ℕ → List ℕ → ℕ → Fin 256
back_sum f [] l n = bytes.𝟘
back_sum f (c ∷ cs) l n = bytes.add (bytes.mul (byte (f c)) (byte (get_or l n 0))) (back_sum f cs l (n - 1))

-- coefficient n of the product of two polynomials, the highest coefficient being coefficient 0: c_0 f_n + c_1 f_(n - 1) + .. + c_n f_0
unfoldable pub coefficient : List ℕ → (ℕ → Fin 256) → ℕ → Fin 256
coefficient [] f n = bytes.𝟘
coefficient (c ∷ cs) f zero = bytes.mul (byte c) (f zero)
coefficient (c ∷ cs) f (suc n) = bytes.add (bytes.mul (byte c) (f (suc n))) (coefficient cs f n)

-- the quotient of x^31 by g
abbrev pub reciprocal : List ℕ
reciprocal = 0x01 ∷ 0x3B ∷ 0x21 ∷ 0x72 ∷ 0x29 ∷ 0x0A ∷ 0x33 ∷ 0x1B ∷ 0xFA ∷ 0xC5 ∷ 0x88 ∷ 0x5D ∷ 0x27 ∷ 0xCC ∷ 0x6B ∷ 0xED ∷ []

-- g below x^16
abbrev pub tail : List ℕ
tail = 0x3B ∷ 0x0D ∷ 0x68 ∷ 0xBD ∷ 0x44 ∷ 0xD1 ∷ 0x1E ∷ 0x08 ∷ 0xA3 ∷ 0x41 ∷ 0x29 ∷ 0xE5 ∷ 0x62 ∷ 0x32 ∷ 0x24 ∷ 0x3B ∷ []

-- q is v times that quotient, its sixteen highest coefficients
pub record ShortQuotient (v q : List ℕ) : Type 0 where
  pub each : (n : ℕ) → n < 16 → byte (get_or q n 0) ≡ coefficient reciprocal (λ k. byte (get_or v k 0)) n

-- r is w and the sixteen lowest coefficients of q times g, which x^16 times q does not reach
pub record WithProduct (w q r : List ℕ) : Type 0 where
  pub each : (n : ℕ) → n < 16 → byte (get_or r n 0) ≡ bytes.add (byte (get_or w n 0)) (coefficient tail (λ k. byte (get_or q k 0)) (15 + n))

-- the same values at the sixteen roots of g
pub record SameValues (a b : List ℕ) : Type 0 where
  pub each : (j : ℕ) → j < 16 → eval (ops bytes) (word a) (alpha j) ≡ eval (ops bytes) (word b) (alpha j)

-- ---- the residue

-- what is left of a block by the generator polynomial
unfoldable pub residue_of : List ℕ → List ℕ
residue_of block = plus numbers (check_bytes (take 188 block)) (drop 188 block)

abbrev pub all_zero : List ℕ → Bool
all_zero [] = true
all_zero (x ∷ l) = pick (eqb x 0) (all_zero l) false

-- ---- the syndromes

-- the values of a list, the highest coefficient first, at the sixteen roots
pub record SyndromesOf (l s : List ℕ) : Type 0 where
  pub each : (j : ℕ) → j < 16 → byte (get_or s j 0) ≡ eval (ops bytes) (word l) (alpha j)

-- they obey the linear recurrence whose polynomial is the product g of x + r over the places r: Σ g_k S_(j + k) is zero
pub record Recurs (s rs : List ℕ) : Type 0 where
  pub each : (j : ℕ) → j + length rs < 16 → dot bytes (from_roots bytes (elements rs)) (λ k. byte (get_or s (j + k) 0)) ≡ bytes.𝟘

abbrev pub Recurring : List ℕ → List ℕ → Bool → Type 0
Recurring s rs true = Recurs s rs
Recurring s rs false = Recurs s rs → ⊥

-- ---- the errors

-- the sum of how far the errors are from zero
unfoldable pub weighed : (ℕ → ℕ → ℕ) → List ℕ → ℕ
weighed d [] = 0
weighed d (e ∷ es) = d e 0 + weighed d es
