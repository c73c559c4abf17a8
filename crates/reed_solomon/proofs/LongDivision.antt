-- Long division by g keeps a block's values at the roots of g: the check bytes make a codeword, and the only one with that message.
-- Assumes nothing.
use mathlib.Core.Path.{◌≡◌, refl, sym, ap, ap₂, ◌∙◌}
use mathlib.Core.List.{List, [], ◌∷◌, ◌++◌, reverse, reverse-append, reverse-reverse}
use Prim.Native.Nat.{ℕ, zero, suc, Fin}
use Prim.{tt}
use native.Mathlib.Omega.{arith}
use lib.Bits.{bit_xor}
use lib.Dec.{lit<}
use lib.ListN.{length, get_or, take, drop, replicate, length-map, length-append, length-drop, take-append-drop}
use Rattle.common.specs.Lists.{Bytes}
use Rattle.algebra.specs.Field.{Field, ops}
use Rattle.algebra.specs.Polynomial.{power, eval, plus, scale, product}
use Rattle.algebra.proofs.Ring.{ring, add_zero, zero_add, mul_zero, add_eq_zero, eq_of_add}
use Rattle.algebra.proofs.Polynomial.{eval_append}
use Rattle.galois.specs.Field256.{numbers, mul, rounds, times_x, scaled}
use Rattle.galois.proofs.Instance.{bytes, byte, byte_zero, byte_one, byte_add, byte_mul}
use Rattle.reed_solomon.specs.Code.{factors, generator, Codeword, differ}
use Rattle.reed_solomon.specs.Encode.{generator_tail, divided, remainder_from, check_bytes, encoded}
use Rattle.galois.proofs.Elements.{elements, word, alpha}
use Rattle.galois.proofs.Words.{length-sum, elements_append, length_word, bytes_append, bytes_drop, bytes_zeros, bytes_plus, bytes_scale, length_scaled}
use Rattle.reed_solomon.proofs.Codewords.{codeword_of, codeword_length, generator_root}
use Rattle.reed_solomon.proofs.Distance.{same_codeword, differ_append, differ_none, differ_le}

-- ---- identities

module _ (K : Field) where
  open K use {F, add as ◌⊕◌, mul as ◌⊗◌, 𝟘, 𝟙}

  infixl 65 ◌⊕◌
  infixl 70 ◌⊗◌
  plus_identity : (u v p s t : F) → (u ⊕ v) ⊕ p ⊗ (s ⊕ t) ≡ (u ⊕ p ⊗ s) ⊕ (v ⊕ p ⊗ t)
  plus_identity u v p s t = simp ring

  scale_identity : (c u p y : F) → c ⊗ u ⊕ p ⊗ (c ⊗ y) ≡ c ⊗ (u ⊕ p ⊗ y)
  scale_identity c u p y = simp ring

  tail_identity : (p x : F) → p ⊗ (𝟙 ⊕ x ⊗ 𝟘) ≡ p
  tail_identity p x = simp ring

  divide_identity : (x u p r d : F) → (𝟘 ⊕ (x ⊗ 𝟙) ⊗ u) ⊕ (r ⊕ d) ⊗ (x ⊗ p) ≡ x ⊗ (u ⊕ p ⊗ r) ⊕ (x ⊗ p) ⊗ d
  divide_identity x u p r d = simp ring

  remainder_identity : (x q u t d v : F) → q ⊗ (x ⊗ u ⊕ t ⊗ d) ⊕ t ⊗ v ≡ (x ⊗ q) ⊗ u ⊕ t ⊗ (v ⊕ q ⊗ d)
  remainder_identity x q u t d v = simp ring

  remainder_none : (u t : F) → u ≡ 𝟙 ⊗ u ⊕ t ⊗ 𝟘
  remainder_none u t = simp ring

  check_identity : (q u t : F) → u ≡ 𝟘 → q ⊗ u ⊕ t ≡ t
  check_identity q u t h = simp (ring, h)

-- ---- the value of a list whose first element is the highest coefficient

module _ (x : Fin 256) where
  -- the value
  abbrev pub high : List ℕ → Fin 256
  high l = eval (ops bytes) (word l) x

  pub high_nil : high [] ≡ bytes.𝟘
  unfolding eval
  high_nil = refl

  word_append : (a b : List ℕ) → word (a ++ b) ≡ word b ++ word a
  word_append a b = ap elements (reverse-append a b) ∙ elements_append (reverse b) (reverse a)

  pub high_append : (a b : List ℕ) → high (a ++ b) ≡ bytes.add (high b) (bytes.mul (power (ops bytes) x (length b)) (high a))
  high_append a b =
      ap (λ (p : List (Fin 256)). eval (ops bytes) p x) (word_append a b) ∙ eval_append bytes (word b) (word a) x
      ∙ ap (λ (n : ℕ). bytes.add (high b) (bytes.mul (power (ops bytes) x n) (high a))) (length_word b)

  pub high_one : (y : ℕ) → high (y ∷ []) ≡ byte y
  unfolding eval
  high_one y = ap (λ (u : Fin 256). bytes.add (byte y) u) (mul_zero bytes x) ∙ add_zero bytes (byte y)

  pub high_cons : (y : ℕ) (l : List ℕ) → high (y ∷ l) ≡ bytes.add (high l) (bytes.mul (power (ops bytes) x (length l)) (byte y))
  high_cons y l = high_append (y ∷ []) l ∙ ap (λ (u : Fin 256). bytes.add (high l) (bytes.mul (power (ops bytes) x (length l)) u)) (high_one y)

  pub high_plus : (a b : List ℕ) → length a ≡ length b → high (plus numbers a b) ≡ bytes.add (high a) (high b)
  unfolding plus
  high_plus [] b h = sym (ap (λ (u : Fin 256). bytes.add u (high b)) high_nil ∙ zero_add bytes (high b))
  high_plus (y ∷ a) [] h = absurd (omega arith)
  high_plus (y ∷ a) (z ∷ b) h =
      high_cons (bit_xor y z) (plus numbers a b)
      ∙ ap₂ (λ (u v : Fin 256). bytes.add u (bytes.mul v (byte (bit_xor y z)))) (high_plus a b (omega arith)) (ap (power (ops bytes) x) (length-sum a b (omega arith)))
      ∙ ap (λ (u : Fin 256). bytes.add (bytes.add (high a) (high b)) (bytes.mul (power (ops bytes) x (length a)) u)) (byte_add y z)
      ∙ plus_identity bytes (high a) (high b) (power (ops bytes) x (length a)) (byte y) (byte z)
      ∙ ap₂ bytes.add (sym (high_cons y a))
      (ap (λ (n : ℕ). bytes.add (high b) (bytes.mul (power (ops bytes) x n) (byte z))) (omega arith) ∙ sym (high_cons z b))

  pub high_scale : (c : ℕ) (a : List ℕ) → high (scale numbers c a) ≡ bytes.mul (byte c) (high a)
  unfolding scale
  high_scale c [] = high_nil ∙ sym (ap (λ (u : Fin 256). bytes.mul (byte c) u) high_nil ∙ mul_zero bytes (byte c))
  high_scale c (y ∷ a) =
      high_cons (mul c y) (scale numbers c a)
      ∙ ap₂ (λ (u v : Fin 256). bytes.add u (bytes.mul v (byte (mul c y)))) (high_scale c a) (ap (power (ops bytes) x) (length-map a (mul c)))
      ∙ ap (λ (u : Fin 256). bytes.add (bytes.mul (byte c) (high a)) (bytes.mul (power (ops bytes) x (length a)) u)) (byte_mul c y)
      ∙ scale_identity bytes (byte c) (high a) (power (ops bytes) x (length a)) (byte y)
      ∙ ap (λ (u : Fin 256). bytes.mul (byte c) u) (sym (high_cons y a))

-- ---- the division

-- the generator polynomial, as antt computes it from the sixteen factors
generator_is : generator ≡ 0x3B ∷ 0x24 ∷ 0x32 ∷ 0x62 ∷ 0xE5 ∷ 0x29 ∷ 0x41 ∷ 0xA3 ∷ 0x08 ∷ 0x1E ∷ 0xD1 ∷ 0x44 ∷ 0xBD ∷ 0x68 ∷ 0x0D ∷ 0x3B ∷ 1 ∷ []
unfolding generator factors product scale plus power mul rounds times_x
generator_is = refl

tail_is : generator_tail ≡ 0x3B ∷ 0x0D ∷ 0x68 ∷ 0xBD ∷ 0x44 ∷ 0xD1 ∷ 0x1E ∷ 0x08 ∷ 0xA3 ∷ 0x41 ∷ 0x29 ∷ 0xE5 ∷ 0x62 ∷ 0x32 ∷ 0x24 ∷ 0x3B ∷ []
unfolding generator_tail
tail_is = ap (λ (g : List ℕ). reverse (take 16 g)) generator_is

length_tail : length generator_tail ≡ 16
length_tail = ap length tail_is

monic : generator ≡ take 16 generator ++ 1 ∷ []
monic = generator_is ∙ sym (ap (λ (g : List ℕ). take 16 g ++ 1 ∷ []) generator_is)

sixteen : length (take 16 generator) ≡ 16
sixteen = ap (λ (g : List ℕ). length (take 16 g)) generator_is

power_zero : (x : Fin 256) → power (ops bytes) x 0 ≡ bytes.𝟙
unfolding power
power_zero x = refl

power_suc : (x : Fin 256) (n : ℕ) → power (ops bytes) x (suc n) ≡ bytes.mul x (power (ops bytes) x n)
unfolding power
power_suc x n = refl

-- sixteen bytes
pub record Remainder (r : List ℕ) : Type 0 where
  pub size : length r ≡ 16
  pub small : Bytes r

divided_remainder : (r : List ℕ) (d : ℕ) → Remainder r → Remainder (divided r d)
unfolding divided
divided_remainder r d h =
    let n : length (drop 1 r ++ 0 ∷ []) ≡ length (scaled (bit_xor (get_or r 0 0) d) generator_tail) =
    length-append (drop 1 r) (0 ∷ []) ∙ omega (arith, length-drop 1 r, h.size, length_scaled (bit_xor (get_or r 0 0) d) generator_tail, length_tail) in
    record {
      size = length-sum (drop 1 r ++ 0 ∷ []) (scaled (bit_xor (get_or r 0 0) d) generator_tail) n ∙ n ∙ length_scaled (bit_xor (get_or r 0 0) d) generator_tail ∙ length_tail;
      small = bytes_plus (drop 1 r ++ 0 ∷ []) (scaled (bit_xor (get_or r 0 0) d) generator_tail) (bytes_append (drop 1 r) (0 ∷ []) (bytes_drop 1 r h.small) (lit< tt, tt)) (bytes_scale (bit_xor (get_or r 0 0) d) generator_tail);
    }

remainder_from_lem : (r ds : List ℕ) → Remainder r → Remainder (remainder_from r ds)
unfolding remainder_from
remainder_from_lem r [] h = h
remainder_from_lem r (d ∷ ds) h = remainder_from_lem (divided r d) ds (divided_remainder r d h)

remainder_zeros : Remainder (replicate 16 0)
remainder_zeros = record { size = refl; small = bytes_zeros 16 }

pub check_remainder : (message : List ℕ) → Remainder (check_bytes message)
unfolding check_bytes
check_remainder message = remainder_from_lem (replicate 16 0) message remainder_zeros

pub high_zeros : (x : Fin 256) (n : ℕ) → high x (replicate n 0) ≡ bytes.𝟘
high_zeros x zero = high_nil x
high_zeros x (suc n) =
    high_cons x 0 (replicate n 0)
    ∙ ap₂ (λ (u v : Fin 256). bytes.add u (bytes.mul (power (ops bytes) x (length {A = ℕ} (replicate n 0))) v)) (high_zeros x n) byte_zero
    ∙ zero_add bytes (bytes.mul (power (ops bytes) x (length {A = ℕ} (replicate n 0))) bytes.𝟘) ∙ mul_zero bytes (power (ops bytes) x (length {A = ℕ} (replicate n 0)))

module _ (x : Fin 256) (root : eval (ops bytes) (elements generator) x ≡ bytes.𝟘) where
  -- x^16 is the rest of g, since g(x) is zero
  high_tail : high x generator_tail ≡ power (ops bytes) x 16
  unfolding generator_tail eval
  high_tail =
      ap (λ (l : List ℕ). eval (ops bytes) (elements l) x) (reverse-reverse (take 16 generator))
      ∙ eq_of_add bytes _ _ (sym whole ∙ root)
      ∙ ap (λ (u : Fin 256). bytes.mul (power (ops bytes) x 16) (bytes.add u (bytes.mul x bytes.𝟘))) byte_one
      ∙ tail_identity bytes (power (ops bytes) x 16) x
    where
      whole : eval (ops bytes) (elements generator) x ≡ bytes.add (eval (ops bytes) (elements (take 16 generator)) x) (bytes.mul (power (ops bytes) x 16) (bytes.add (byte 1) (bytes.mul x bytes.𝟘)))
      whole =
          ap (λ (l : List ℕ). eval (ops bytes) (elements l) x) monic
          ∙ ap (λ (l : List (Fin 256)). eval (ops bytes) l x) (elements_append (take 16 generator) (1 ∷ []))
          ∙ eval_append bytes (elements (take 16 generator)) (elements (1 ∷ [])) x
          ∙ ap (λ (n : ℕ). bytes.add (eval (ops bytes) (elements (take 16 generator)) x) (bytes.mul (power (ops bytes) x n) (bytes.add (byte 1) (bytes.mul x bytes.𝟘))))
          (length-map (take 16 generator) byte ∙ sixteen)

  high_divided : (r : List ℕ) (d : ℕ) → length r ≡ 16 → high x (divided r d) ≡ bytes.add (bytes.mul x (high x r)) (bytes.mul (power (ops bytes) x 16) (byte d))
  unfolding divided power
  high_divided [] d n = absurd (omega arith)
  high_divided (y ∷ r) d n =
      high_plus x (r ++ 0 ∷ []) (scaled (bit_xor y d) generator_tail) (length-append r (0 ∷ []) ∙ omega (arith, length_scaled (bit_xor y d) generator_tail, length_tail))
      ∙ ap₂ bytes.add
      (high_append x r (0 ∷ []) ∙ ap (λ (u : Fin 256). bytes.add u (bytes.mul (bytes.mul x bytes.𝟙) (high x r))) (high_one x 0 ∙ byte_zero))
      (high_scale x (bit_xor y d) generator_tail ∙ ap₂ bytes.mul (byte_add y d) high_tail)
      ∙ divide_identity bytes x (high x r) (power (ops bytes) x 15) (byte y) (byte d)
      ∙ ap (λ (u : Fin 256). bytes.add (bytes.mul x u) (bytes.mul (power (ops bytes) x 16) (byte d)))
      (ap (λ (k : ℕ). bytes.add (high x r) (bytes.mul (power (ops bytes) x k) (byte y))) fifteen ∙ sym (high_cons x y r))
    where
      fifteen : 15 ≡ length r
      fifteen = omega arith

  high_remainder : (ds r : List ℕ) → Remainder r
      → high x (remainder_from r ds) ≡ bytes.add (bytes.mul (power (ops bytes) x (length ds)) (high x r)) (bytes.mul (power (ops bytes) x 16) (high x ds))
  unfolding remainder_from
  high_remainder [] r h = remainder_none bytes (high x r) (power (ops bytes) x 16) ∙ rest
    where
      rest : bytes.add (bytes.mul bytes.𝟙 (high x r)) (bytes.mul (power (ops bytes) x 16) bytes.𝟘) ≡ bytes.add (bytes.mul (power (ops bytes) x 0) (high x r)) (bytes.mul (power (ops bytes) x 16) (high x []))
      rest = ap₂ (λ (u v : Fin 256). bytes.add (bytes.mul u (high x r)) (bytes.mul (power (ops bytes) x 16) v)) (sym (power_zero x)) (sym (high_nil x))
  high_remainder (d ∷ ds) r h =
      high_remainder ds (divided r d) (divided_remainder r d h)
      ∙ ap (λ (u : Fin 256). bytes.add (bytes.mul (power (ops bytes) x (length ds)) u) (bytes.mul (power (ops bytes) x 16) (high x ds))) (high_divided r d h.size)
      ∙ remainder_identity bytes x (power (ops bytes) x (length ds)) (high x r) (power (ops bytes) x 16) (byte d) (high x ds)
      ∙ ap₂ (λ (u v : Fin 256). bytes.add (bytes.mul u (high x r)) (bytes.mul (power (ops bytes) x 16) v)) (sym (power_suc x (length ds))) (sym (high_cons x d ds))

  pub high_check : (message : List ℕ) → high x (check_bytes message) ≡ bytes.mul (power (ops bytes) x 16) (high x message)
  unfolding check_bytes
  high_check message =
      high_remainder message (replicate 16 0) remainder_zeros
      ∙ check_identity bytes (power (ops bytes) x (length message)) (high x (replicate 16 0)) (bytes.mul (power (ops bytes) x 16) (high x message)) (high_zeros x 16)

-- ---- the coded block

module _ (message : List ℕ) (n : length message ≡ 188) (b : Bytes message) where
  pub encoded_length : length (encoded message) ≡ 204
  encoded_length = length-append message (check_bytes message) ∙ omega (arith, (check_remainder message).size)

  pub encoded_bytes : Bytes (encoded message)
  encoded_bytes = bytes_append message (check_bytes message) b (check_remainder message).small

  -- it is a codeword
  pub encoded_codeword : Codeword (encoded message)
  encoded_codeword =
      codeword_of (encoded message) encoded_length encoded_bytes
      (λ j l. high_append (alpha j) message (check_bytes message)
      ∙ add_eq_zero bytes _ _
      (high_check (alpha j) (generator_root j l) message
      ∙ ap (λ (k : ℕ). bytes.mul (power (ops bytes) (alpha j) k) (high (alpha j) message)) (sym (check_remainder message).size)))

  -- and the only one that begins with the message
  pub encoded_only : (block : List ℕ) → Codeword block → take 188 block ≡ message → block ≡ encoded message
  encoded_only block c e =
      same_codeword block (encoded message) c encoded_codeword
      (omega (arith, ap (λ (l : List ℕ). differ l (encoded message)) (sym (take-append-drop 188 block)), split, differ_le (drop 188 block) (check_bytes message), length-drop 188 block, codeword_length block c))
    where
      split : differ (take 188 block ++ drop 188 block) (encoded message) ≡ differ (drop 188 block) (check_bytes message)
      split =
          ap (λ (l : List ℕ). differ (l ++ drop 188 block) (encoded message)) e
          ∙ differ_append message message (drop 188 block) (check_bytes message) refl
          ∙ omega (arith, differ_none message)
