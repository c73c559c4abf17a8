-- The division by g of sixteen coefficients and sixteen after them. Lists of coefficients have the highest first.
-- Assumes nothing.
use mathlib.Core.Path.{◌≡◌, refl, sym, ap, ap₂, ◌∙◌}
use mathlib.Core.List.{List, [], ◌∷◌, ◌++◌, append-nil}
use mathlib.Core.Logic.{inl, inr}
use Prim.Native.Nat.{ℕ, zero, suc, ◌+◌, ◌*◌, ◌-◌, ◌/◌, ◌%◌, ◌^◌, ◌≤◌, ◌<◌, Fin}
use Prim.{tt}
use native.Mathlib.Nat.{div-le_self, lt_of_le_of_lt}
use native.Mathlib.Decide.{dec_lt}
use native.Mathlib.Numerals.{add-one}
use native.Mathlib.Omega.{arith}
use lib.Bits.{bit_xor, bit_and, and_mask}
use lib.ListN.{length, get_or, take, drop, replicate, length-append, length-replicate, take-append-drop, get_or-append, get_or-eq_default}
use lib.Pow.{shr-shr}
use lib.Seq.{take-suc, take-add, length-take-le, get_or-append-add}
use Rattle.common.specs.Lists.{Bytes}
use Rattle.common.proofs.Computed.{agree_at}
use Rattle.common.proofs.Entries.{bytes_of, every_byte}
use Rattle.common.proofs.Lists.{put_own, put_other, zeros_at}
use Rattle.common.proofs.Outputs.{length_placed}
use Rattle.algebra.specs.Field.{Field, ops}
use Rattle.algebra.specs.Polynomial.{power, plus, scale, product}
use Rattle.algebra.proofs.Ring.{ring, add_assoc, add_comm, add_self, add_self_left, add_zero, zero_add, add_mul, mul_assoc, mul_zero, zero_mul, one_mul, mul_one, eq_of_add}
use Rattle.galois.specs.Field256.{numbers, mul, rounds, times_x}
use Rattle.galois.proofs.Instance.{bytes, byte, byte_zero, byte_one, byte_add, byte_mul}
use Rattle.galois.proofs.Elements.{alpha}
use Rattle.galois.proofs.Words.{length-sum, sum_at}
use Rattle.reed_solomon.specs.Code.{factors, generator}
use Rattle.reed_solomon.specs.Encode.{generator_tail, divided, remainder_from, check_bytes}
use Rattle.reed_solomon.specs.Steps.{bit_of, back_sum, coefficient, reciprocal, tail, ShortQuotient, WithProduct, SameValues}
use Rattle.reed_solomon.proofs.Codewords.{generator_root}
use Rattle.reed_solomon.proofs.LongDivision.{high, high_nil, high_one, high_cons, high_append, high_plus, high_check}
use Rattle.reed_solomon.proofs.SparseDivision.{high_leading}

-- ---- identities

module _ (K : Field) where
  open K use {F, add as ◌⊕◌, mul as ◌⊗◌, 𝟘, 𝟙}

  infixl 65 ◌⊕◌
  infixl 70 ◌⊗◌
  round_identity : (a b z s t u : F) → (a ⊗ z ⊕ s) ⊗ t ⊕ (b ⊗ z ⊕ u) ≡ (t ⊗ a ⊕ b) ⊗ z ⊕ (s ⊗ t ⊕ u)
  round_identity a b z s t u = simp ring

  plus_identity : (a b z s t : F) → (a ⊕ b) ⊗ z ⊕ (s ⊕ t) ≡ (a ⊗ z ⊕ s) ⊕ (b ⊗ z ⊕ t)
  plus_identity a b z s t = simp ring

  scale_identity : (c a z s : F) → (c ⊗ a) ⊗ z ⊕ c ⊗ s ≡ c ⊗ (a ⊗ z ⊕ s)
  scale_identity c a z s = simp ring

  front_identity : (u z : F) → u ≡ u ⊕ 𝟘 ⊗ z
  front_identity u z = simp ring

  later_identity : (u v z : F) → u ⊕ v ≡ u ⊕ (𝟘 ⊗ z ⊕ v)
  later_identity u v z = simp ring

-- ---- sums back from a place

back_more : (f : ℕ → ℕ) (cs l : List ℕ) (c n : ℕ) → back_sum f (cs ++ c ∷ []) l n ≡ bytes.add (back_sum f cs l n) (bytes.mul (byte (f c)) (byte (get_or l (n - length cs) 0)))
unfolding back_sum
back_more f [] l c n =
    let e : n ≡ n - 0 = omega arith in
    add_comm bytes (bytes.mul (byte (f c)) (byte (get_or l n 0))) bytes.𝟘
    ∙ ap (λ (k : ℕ). bytes.add bytes.𝟘 (bytes.mul (byte (f c)) (byte (get_or l k 0)))) e
back_more f (d ∷ cs) l c n =
    let e : n - 1 - length cs ≡ n - suc (length cs) = omega arith in
    ap (λ (u : Fin 256). bytes.add (bytes.mul (byte (f d)) (byte (get_or l n 0))) u)
    (back_more f cs l c (n - 1) ∙ ap (λ (k : ℕ). bytes.add (back_sum f cs l (n - 1)) (bytes.mul (byte (f c)) (byte (get_or l k 0)))) e)
    ∙ sym (add_assoc bytes (bytes.mul (byte (f d)) (byte (get_or l n 0))) (back_sum f cs l (n - 1)) (bytes.mul (byte (f c)) (byte (get_or l (n - suc (length cs)) 0))))

-- a bit times a number
bit_product : (b z : ℕ) → b < 2 → byte (b * z) ≡ bytes.mul (byte b) (byte z)
bit_product zero z h =
    let e : 0 * z ≡ 0 = omega arith in
    ap byte e ∙ byte_zero ∙ sym (zero_mul bytes (byte z)) ∙ ap (λ (u : Fin 256). bytes.mul u (byte z)) (sym byte_zero)
bit_product (suc zero) z h =
    let e : 1 * z ≡ z = omega arith in
    ap byte e ∙ sym (one_mul bytes (byte z)) ∙ ap (λ (u : Fin 256). bytes.mul u (byte z)) (sym byte_one)
bit_product (suc (suc b)) z h = absurd (omega arith)

pub plane_none : (v i n : ℕ) (l : List ℕ) → byte v ≡ bytes.add (byte v) (back_sum (bit_of i) [] l n)
unfolding back_sum
plane_none v i n l = sym (add_zero bytes (byte v))

pub plane_more : (v r i n m : ℕ) (cs l : List ℕ) → m < length cs → byte r ≡ bytes.add (byte v) (back_sum (bit_of i) (take m cs) l n)
    → byte (bit_xor r (bit_and (get_or cs m 0 / 2 ^ i) 1 * get_or l (n - m) 0)) ≡ bytes.add (byte v) (back_sum (bit_of i) (take (m + 1) cs) l n)
plane_more v r i n m cs l h e =
    let a : length (take m cs) ≡ m = length-take-le m cs (omega arith) in
    byte_add r (bit_and (get_or cs m 0 / 2 ^ i) 1 * get_or l (n - m) 0)
    ∙ ap₂ bytes.add e
    (ap (λ (b : ℕ). byte (b * get_or l (n - m) 0)) (and_mask (get_or cs m 0 / 2 ^ i) 1) ∙ bit_product (bit_of i (get_or cs m 0)) (get_or l (n - m) 0) (omega arith)
    ∙ ap (λ (k : ℕ). bytes.mul (byte (bit_of i (get_or cs m 0))) (byte (get_or l (n - k) 0))) (sym a))
    ∙ add_assoc bytes (byte v) (back_sum (bit_of i) (take m cs) l n) (bytes.mul (byte (bit_of i (get_or cs m 0))) (byte (get_or l (n - length (take m cs)) 0)))
    ∙ ap (bytes.add (byte v))
    (sym (back_more (bit_of i) (take m cs) l (get_or cs m 0) n) ∙ ap (λ (x : List ℕ). back_sum (bit_of i) x l n) (sym (ap (λ (k : ℕ). take k cs) (add-one m) ∙ take-suc cs m 0 h)))

-- a byte is twice its upper bits, and its lowest
doubled : (y : ℕ) → y < 256 → bit_xor (mul 2 (y / 2)) (y % 2) ≡ y
unfolding mul rounds times_x
doubled y h = agree_at (λ y. bit_xor (mul 2 (y / 2)) (y % 2)) (λ y. y) 256 tt y h

-- no bit of the factors, and all
pub rounds_none : (cs l : List ℕ) (n : ℕ) → Bytes cs → byte 0 ≡ back_sum (λ x. x / 2 ^ 8) cs l n
unfolding back_sum
rounds_none [] l n b = byte_zero
rounds_none (c ∷ cs) l n b =
    let e : c / 2 ^ 8 ≡ 0 = omega (arith, b.0) in
    byte_zero
    ∙ sym (ap₂ bytes.add (ap (λ (k : ℕ). bytes.mul (byte k) (byte (get_or l n 0))) e ∙ ap (λ (u : Fin 256). bytes.mul u (byte (get_or l n 0))) byte_zero ∙ zero_mul bytes (byte (get_or l n 0)))
    (sym (rounds_none cs l (n - 1) b.1) ∙ byte_zero)
    ∙ add_zero bytes bytes.𝟘)

rounds_next : (cs l : List ℕ) (i n : ℕ) → Bytes cs → i < 8
    → bytes.add (bytes.mul (back_sum (λ x. x / 2 ^ (i + 1)) cs l n) (byte 2)) (back_sum (bit_of i) cs l n) ≡ back_sum (λ x. x / 2 ^ i) cs l n
unfolding back_sum
rounds_next [] l i n b h = ap (λ (u : Fin 256). bytes.add u bytes.𝟘) (zero_mul bytes (byte 2)) ∙ add_zero bytes bytes.𝟘
rounds_next (c ∷ cs) l i n b h =
    round_identity bytes (byte (c / 2 ^ (i + 1))) (byte (bit_of i c)) (byte (get_or l n 0)) (back_sum (λ x. x / 2 ^ (i + 1)) cs l (n - 1)) (byte 2) (back_sum (bit_of i) cs l (n - 1))
    ∙ ap₂ (λ (u v : Fin 256). bytes.add (bytes.mul u (byte (get_or l n 0))) v) whole (rounds_next cs l i (n - 1) b.1 h)
  where
    small : c / 2 ^ i < 256
    small = lt_of_le_of_lt (div-le_self c (2 ^ i)) b.0

    whole : bytes.add (bytes.mul (byte 2) (byte (c / 2 ^ (i + 1)))) (byte (bit_of i c)) ≡ byte (c / 2 ^ i)
    whole =
        ap (λ (y : ℕ). bytes.add (bytes.mul (byte 2) (byte y)) (byte (bit_of i c))) (sym (shr-shr c i 1))
        ∙ ap (λ (u : Fin 256). bytes.add u (byte (bit_of i c))) (sym (byte_mul 2 (c / 2 ^ i / 2)))
        ∙ sym (byte_add (mul 2 (c / 2 ^ i / 2)) (c / 2 ^ i % 2))
        ∙ ap byte (doubled (c / 2 ^ i) small)

pub rounds_more : (cs l : List ℕ) (i k n r u s : ℕ) → Bytes cs → k ≡ i + 1 → k ≤ 8 → byte r ≡ back_sum (λ x. x / 2 ^ k) cs l n → u ≡ mul r 2
    → byte s ≡ bytes.add (byte u) (back_sum (bit_of i) cs l n) → byte s ≡ back_sum (λ x. x / 2 ^ i) cs l n
rounds_more cs l i k n r u s b a h e m f =
    f
    ∙ ap (λ (y : Fin 256). bytes.add y (back_sum (bit_of i) cs l n))
    (ap byte m ∙ byte_mul r 2 ∙ ap (λ (y : Fin 256). bytes.mul y (byte 2)) (e ∙ ap (λ (j : ℕ). back_sum (λ x. x / 2 ^ j) cs l n) a))
    ∙ rounds_next cs l i n b (omega arith)

-- ---- coefficients of a product

module _ (z : List ℕ) (f : ℕ → Fin 256) (low : (k : ℕ) → k < 16 → byte (get_or z k 0) ≡ bytes.𝟘) (own : (k : ℕ) → byte (get_or z (16 + k) 0) ≡ f k) where
  back_low : (cs : List ℕ) (n : ℕ) → n < 16 → back_sum (λ x. x) cs z n ≡ bytes.𝟘
  unfolding back_sum
  back_low [] n h = refl
  back_low (c ∷ cs) n h =
      ap₂ bytes.add (ap (bytes.mul (byte c)) (low n h) ∙ mul_zero bytes (byte c)) (back_low cs (n - 1) (omega arith)) ∙ add_zero bytes bytes.𝟘

  pub back_coefficient : (cs : List ℕ) (n : ℕ) → back_sum (λ x. x) cs z (16 + n) ≡ coefficient cs f n
  unfolding back_sum coefficient
  back_coefficient [] n = refl
  back_coefficient (c ∷ cs) zero = ap₂ bytes.add (ap (bytes.mul (byte c)) (own zero)) (back_low cs 15 (omega arith)) ∙ add_zero bytes (bytes.mul (byte c) (f zero))
  back_coefficient (c ∷ cs) (suc n) =
      let e : 16 + suc n - 1 ≡ 16 + n = omega arith in
      ap₂ bytes.add (ap (bytes.mul (byte c)) (own (suc n))) (ap (back_sum (λ x. x) cs z) e ∙ back_coefficient cs n)

-- a list laid into zeros from place 16 on
module _ (size : ℕ) (v z : List ℕ) (n : length v ≡ 16) (h : 32 ≤ size) (e : z ≡ take 16 (replicate size 0) ++ v ++ drop (16 + length v) (replicate size 0)) where
  fits : 16 + length v ≤ length {A = ℕ} (replicate size 0)
  fits = omega (arith, length-replicate {A = ℕ} size 0)

  abbrev all : List ℕ
  all = take 16 (replicate size 0) ++ v ++ drop (16 + length v) (replicate size 0)

  all_length : length all ≡ size
  all_length = length_placed (replicate size 0) 16 v fits ∙ length-replicate {A = ℕ} size 0

  laid_low : (k : ℕ) → k < 16 → byte (get_or z k 0) ≡ bytes.𝟘
  laid_low k l =
      ap (λ (x : List ℕ). byte (get_or x k 0)) e ∙ ap byte (put_other (replicate size 0) v 16 k fits (omega (arith, length-replicate {A = ℕ} size 0)) (inl l) ∙ zeros_at size k) ∙ byte_zero

  laid_own : (k : ℕ) → byte (get_or z (16 + k) 0) ≡ byte (get_or v k 0)
  laid_own k = ap (λ (x : List ℕ). byte (get_or x (16 + k) 0)) e ∙ ap byte (go (dec_lt k 16) (dec_lt (16 + k) size))
    where
      go : Dec (k < 16) → Dec (16 + k < size) → get_or all (16 + k) 0 ≡ get_or v k 0
      go (yes a) b = put_own (replicate size 0) v 16 k fits (omega arith)
      go (no a) (yes b) =
          put_other (replicate size 0) v 16 (16 + k) fits (omega (arith, length-replicate {A = ℕ} size 0)) (inr (omega arith)) ∙ zeros_at size (16 + k)
          ∙ sym (get_or-eq_default v 0 {n = k} (omega arith))
      go (no a) (no b) = get_or-eq_default all 0 {n = 16 + k} (omega (arith, all_length)) ∙ sym (get_or-eq_default v 0 {n = k} (omega arith))

  pub laid_coefficient : (cs : List ℕ) (k i : ℕ) → i ≡ 16 + k → back_sum (λ x. x) cs z i ≡ coefficient cs (λ j. byte (get_or v j 0)) k
  laid_coefficient cs k i a = ap (back_sum (λ x. x) cs z) a ∙ back_coefficient z (λ j. byte (get_or v j 0)) laid_low laid_own cs k

coefficient_ext : (cs : List ℕ) (f g : ℕ → Fin 256) (n : ℕ) → ((k : ℕ) → k ≤ n → f k ≡ g k) → coefficient cs f n ≡ coefficient cs g n
unfolding coefficient
coefficient_ext [] f g n h = refl
coefficient_ext (c ∷ cs) f g zero h = ap (bytes.mul (byte c)) (h zero (omega arith))
coefficient_ext (c ∷ cs) f g (suc n) h = ap₂ bytes.add (ap (bytes.mul (byte c)) (h (suc n) (omega arith))) (coefficient_ext cs f g n (λ k l. h k (omega arith)))

coefficient_plus : (a b : List ℕ) (f : ℕ → Fin 256) (n : ℕ) → coefficient (plus numbers a b) f n ≡ bytes.add (coefficient a f n) (coefficient b f n)
unfolding coefficient plus
coefficient_plus [] b f n = sym (zero_add bytes (coefficient b f n))
coefficient_plus (x ∷ a) [] f n = sym (add_zero bytes (coefficient (x ∷ a) f n))
coefficient_plus (x ∷ a) (y ∷ b) f zero = ap (λ (u : Fin 256). bytes.mul u (f zero)) (byte_add x y) ∙ add_mul bytes (byte x) (byte y) (f zero)
coefficient_plus (x ∷ a) (y ∷ b) f (suc n) =
    ap₂ (λ (u v : Fin 256). bytes.add (bytes.mul u (f (suc n))) v) (byte_add x y) (coefficient_plus a b f n)
    ∙ plus_identity bytes (byte x) (byte y) (f (suc n)) (coefficient a f n) (coefficient b f n)

coefficient_scale : (c : ℕ) (a : List ℕ) (f : ℕ → Fin 256) (n : ℕ) → coefficient (scale numbers c a) f n ≡ bytes.mul (byte c) (coefficient a f n)
unfolding coefficient scale
coefficient_scale c [] f n = sym (mul_zero bytes (byte c))
coefficient_scale c (x ∷ a) f zero = ap (λ (u : Fin 256). bytes.mul u (f zero)) (byte_mul c x) ∙ mul_assoc bytes (byte c) (byte x) (f zero)
coefficient_scale c (x ∷ a) f (suc n) =
    ap₂ (λ (u v : Fin 256). bytes.add (bytes.mul u (f (suc n))) v) (byte_mul c x) (coefficient_scale c a f n)
    ∙ scale_identity bytes (byte c) (byte x) (f (suc n)) (coefficient a f n)

coefficient_product : (a b : List ℕ) (f : ℕ → Fin 256) (n : ℕ) → coefficient a (coefficient b f) n ≡ coefficient (product numbers a b) f n
unfolding coefficient product
coefficient_product [] b f n = refl
coefficient_product (c ∷ cs) b f zero =
    front_identity bytes (bytes.mul (byte c) (coefficient b f zero)) (f zero)
    ∙ ap₂ (λ (u v : Fin 256). bytes.add u (bytes.mul v (f zero))) (sym (coefficient_scale c b f zero)) (sym byte_zero)
    ∙ sym (coefficient_plus (scale numbers c b) (0 ∷ product numbers cs b) f zero)
coefficient_product (c ∷ cs) b f (suc n) =
    ap (bytes.add (bytes.mul (byte c) (coefficient b f (suc n)))) (coefficient_product cs b f n)
    ∙ later_identity bytes (bytes.mul (byte c) (coefficient b f (suc n))) (coefficient (product numbers cs b) f n) (f (suc n))
    ∙ ap₂ (λ (u v : Fin 256). bytes.add u (bytes.add (bytes.mul v (f (suc n))) (coefficient (product numbers cs b) f n))) (sym (coefficient_scale c b f (suc n))) (sym byte_zero)
    ∙ sym (coefficient_plus (scale numbers c b) (0 ∷ product numbers cs b) f (suc n))

coefficient_zeros : (k n : ℕ) (t : List ℕ) (f : ℕ → Fin 256) → n < k → coefficient (replicate k 0 ++ t) f n ≡ bytes.𝟘
unfolding coefficient
coefficient_zeros zero n t f h = absurd (omega arith)
coefficient_zeros (suc k) zero t f h = ap (λ (u : Fin 256). bytes.mul u (f zero)) byte_zero ∙ zero_mul bytes (f zero)
coefficient_zeros (suc k) (suc n) t f h =
    ap₂ bytes.add (ap (λ (u : Fin 256). bytes.mul u (f (suc n))) byte_zero ∙ zero_mul bytes (f (suc n))) (coefficient_zeros k n t f (omega arith))
    ∙ add_zero bytes bytes.𝟘

-- g times the quotient of x^31 by it is x^31 and what is left, below x^16
reciprocal_is : take 16 (product numbers (1 ∷ tail) reciprocal) ≡ 1 ∷ replicate 15 0
unfolding product scale plus mul rounds times_x
reciprocal_is = refl

coefficient_first : (t : List ℕ) (f : ℕ → Fin 256) (n : ℕ) → n < 16 → coefficient (1 ∷ (replicate 15 0 ++ t)) f n ≡ f n
unfolding coefficient
coefficient_first t f zero h = ap (λ (u : Fin 256). bytes.mul u (f zero)) byte_one ∙ one_mul bytes (f zero)
coefficient_first t f (suc n) h =
    ap₂ bytes.add (ap (λ (u : Fin 256). bytes.mul u (f (suc n))) byte_one ∙ one_mul bytes (f (suc n))) (coefficient_zeros 15 n t f (omega arith))
    ∙ add_zero bytes (f (suc n))

coefficient_whole : (f : ℕ → Fin 256) (n : ℕ) → n < 16 → coefficient (1 ∷ tail) (coefficient reciprocal f) n ≡ f n
coefficient_whole f n h =
    coefficient_product (1 ∷ tail) reciprocal f n
    ∙ ap (λ (l : List ℕ). coefficient l f n) (sym (take-append-drop 16 (product numbers (1 ∷ tail) reciprocal)) ∙ ap (λ (l : List ℕ). l ++ drop 16 (product numbers (1 ∷ tail) reciprocal)) reciprocal_is)
    ∙ coefficient_first (drop 16 (product numbers (1 ∷ tail) reciprocal)) f n h

-- ---- the value of a product

module _ (K : Field) where
  open K use {F, add as ◌⊕◌, mul as ◌⊗◌, 𝟘, 𝟙}

  infixl 65 ◌⊕◌
  infixl 70 ◌⊗◌
  first_value_identity : (x c f : F) → x ⊗ 𝟘 ⊕ c ⊗ f ≡ c ⊗ (x ⊗ 𝟘 ⊕ f) ⊕ 𝟘
  first_value_identity x c f = simp ring

  next_value_identity : (x c u s f t : F) → x ⊗ (c ⊗ u ⊕ s) ⊕ (c ⊗ f ⊕ t) ≡ c ⊗ (x ⊗ u ⊕ f) ⊕ (x ⊗ s ⊕ t)
  next_value_identity x c u s f t = simp ring

  front_value_identity : (x u p f g : F) → x ⊗ (u ⊕ p ⊗ f) ⊕ g ≡ (x ⊗ u ⊕ g) ⊕ (x ⊗ p) ⊗ f
  front_value_identity x u p f g = simp ring

  one_value_identity : (x f : F) → x ⊗ 𝟘 ⊕ f ≡ 𝟘 ⊕ 𝟙 ⊗ f
  one_value_identity x f = simp ring

  product_value_identity : (c p s v : F) → c ⊗ (p ⊗ v) ⊕ s ⊗ v ≡ (s ⊕ p ⊗ c) ⊗ v
  product_value_identity c p s v = simp ring

module _ (x : Fin 256) where
  -- f 0 x^(n - 1) + .. + f (n - 1)
  unfoldable value_of : ℕ → (ℕ → Fin 256) → Fin 256
  value_of zero f = bytes.𝟘
  value_of (suc n) f = bytes.add (bytes.mul x (value_of n f)) (f n)

  value_ext : (n : ℕ) (f g : ℕ → Fin 256) → ((k : ℕ) → k < n → f k ≡ g k) → value_of n f ≡ value_of n g
  unfolding value_of
  value_ext zero f g h = refl
  value_ext (suc n) f g h = ap₂ (λ (u v : Fin 256). bytes.add (bytes.mul x u) v) (value_ext n f g (λ k l. h k (omega arith))) (h n (omega arith))

  value_front : (n : ℕ) (f : ℕ → Fin 256) → value_of (suc n) f ≡ bytes.add (value_of n (λ k. f (suc k))) (bytes.mul (power (ops bytes) x n) (f zero))
  unfolding value_of power
  value_front zero f = one_value_identity bytes x (f zero)
  value_front (suc n) f =
      ap (λ (u : Fin 256). bytes.add (bytes.mul x u) (f (suc n))) (value_front n f)
      ∙ front_value_identity bytes x (value_of n (λ k. f (suc k))) (power (ops bytes) x n) (f zero) (f (suc n))

  high_value : (l : List ℕ) → high x l ≡ value_of (length l) (λ k. byte (get_or l k 0))
  unfolding value_of
  high_value [] = high_nil x
  high_value (y ∷ l) =
      high_cons x y l ∙ ap (λ (u : Fin 256). bytes.add u (bytes.mul (power (ops bytes) x (length l)) (byte y))) (high_value l)
      ∙ sym (value_front (length l) (λ k. byte (get_or (y ∷ l) k 0)))

  value_none : (n : ℕ) (f : ℕ → Fin 256) → ((k : ℕ) → k < n → f k ≡ bytes.𝟘) → value_of n f ≡ bytes.𝟘
  unfolding value_of
  value_none zero f h = refl
  value_none (suc n) f h =
      ap₂ (λ (u v : Fin 256). bytes.add (bytes.mul x u) v) (value_none n f (λ k l. h k (omega arith))) (h n (omega arith))
      ∙ ap (λ (u : Fin 256). bytes.add u bytes.𝟘) (mul_zero bytes x) ∙ add_zero bytes bytes.𝟘

  value_product : (c : ℕ) (cs : List ℕ) (f : ℕ → Fin 256) (n : ℕ)
      → value_of (suc n) (coefficient (c ∷ cs) f) ≡ bytes.add (bytes.mul (byte c) (value_of (suc n) f)) (value_of n (coefficient cs f))
  unfolding value_of coefficient
  value_product c cs f zero = first_value_identity bytes x (byte c) (f zero)
  value_product c cs f (suc n) =
      ap (λ (u : Fin 256). bytes.add (bytes.mul x u) (bytes.add (bytes.mul (byte c) (f (suc n))) (coefficient cs f n))) (value_product c cs f n)
      ∙ next_value_identity bytes x (byte c) (value_of (suc n) f) (value_of n (coefficient cs f)) (f (suc n)) (coefficient cs f n)

  module _ (f : ℕ → Fin 256) (ends : (k : ℕ) → 16 ≤ k → f k ≡ bytes.𝟘) where
    value_longer : (n : ℕ) → value_of (n + 16) f ≡ bytes.mul (power (ops bytes) x n) (value_of 16 f)
    unfolding value_of power
    value_longer zero = sym (one_mul bytes (value_of 16 f))
    value_longer (suc n) =
        let e : suc n + 16 ≡ suc (n + 16) = omega arith in
        ap (λ (k : ℕ). value_of k f) e
        ∙ ap₂ (λ (u v : Fin 256). bytes.add (bytes.mul x u) v) (value_longer n) (ends (n + 16) (omega arith))
        ∙ add_zero bytes (bytes.mul x (bytes.mul (power (ops bytes) x n) (value_of 16 f)))
        ∙ sym (mul_assoc bytes x (power (ops bytes) x n) (value_of 16 f))

    -- a product with sixteen coefficients has the product of the values
    value_whole : (cs : List ℕ) → value_of (length cs + 15) (coefficient cs f) ≡ bytes.mul (high x cs) (value_of 16 f)
    unfolding coefficient
    value_whole [] =
        value_none 15 (coefficient [] f) (λ k l. refl) ∙ sym (ap (λ (u : Fin 256). bytes.mul u (value_of 16 f)) (high_nil x) ∙ zero_mul bytes (value_of 16 f))
    value_whole (c ∷ cs) =
        let e : suc (length cs) + 15 ≡ suc (length cs + 15) = omega arith in
        let s : suc (length cs + 15) ≡ length cs + 16 = omega arith in
        ap (λ (n : ℕ). value_of n (coefficient (c ∷ cs) f)) e ∙ value_product c cs f (length cs + 15)
        ∙ ap₂ (λ (u v : Fin 256). bytes.add (bytes.mul (byte c) u) v) (ap (λ (n : ℕ). value_of n f) s ∙ value_longer (length cs)) (value_whole cs)
        ∙ product_value_identity bytes (byte c) (power (ops bytes) x (length cs)) (high x cs) (value_of 16 f)
        ∙ ap (λ (u : Fin 256). bytes.mul u (value_of 16 f)) (sym (high_cons x c cs))

-- ---- sixteen coefficients, and sixteen after them

-- g is zero at its roots
tail_is : check_bytes (1 ∷ []) ≡ tail
unfolding check_bytes remainder_from divided generator_tail generator factors product scale plus power mul rounds times_x
tail_is = refl

generator_zero : (j : ℕ) → j < 16 → high (alpha j) (1 ∷ tail) ≡ bytes.𝟘
generator_zero j h =
    high_cons (alpha j) 1 tail
    ∙ ap₂ (λ (u v : Fin 256). bytes.add u (bytes.mul (power (ops bytes) (alpha j) 16) v)) high_tail byte_one
    ∙ ap (bytes.add (power (ops bytes) (alpha j) 16)) (mul_one bytes (power (ops bytes) (alpha j) 16))
    ∙ add_self bytes (power (ops bytes) (alpha j) 16)
  where
    high_tail : high (alpha j) tail ≡ power (ops bytes) (alpha j) 16
    high_tail =
        ap (high (alpha j)) (sym tail_is) ∙ high_check (alpha j) (generator_root j h) (1 ∷ [])
        ∙ ap (bytes.mul (power (ops bytes) (alpha j) 16)) (high_one (alpha j) 1 ∙ byte_one)
        ∙ mul_one bytes (power (ops bytes) (alpha j) 16)

module _ (v w q r : List ℕ) (lv : length v ≡ 16) (lw : length w ≡ 16) (lq : length q ≡ 16) (lr : length r ≡ 16) (Q : ShortQuotient v q) (R : WithProduct w q r) where
  abbrev given : ℕ → Fin 256
  given k = byte (get_or v k 0)

  abbrev quotient : ℕ → Fin 256
  quotient k = byte (get_or q k 0)

  ends : (k : ℕ) → 16 ≤ k → quotient k ≡ bytes.𝟘
  ends k h = ap byte (get_or-eq_default q 0 {n = k} (omega arith)) ∙ byte_zero

  -- the product of g and the quotient is v, and what the sixteen after it need
  upper : (n : ℕ) → n < 16 → coefficient (1 ∷ tail) quotient n ≡ given n
  upper n h = coefficient_ext (1 ∷ tail) quotient (coefficient reciprocal given) n (λ k l. Q.each k (omega arith)) ∙ coefficient_whole given n h

  lower : (n : ℕ) → n < 16 → coefficient (1 ∷ tail) quotient (16 + n) ≡ byte (get_or (plus numbers w r) n 0)
  unfolding coefficient
  lower n h =
      let e : 16 + n ≡ suc (15 + n) = omega arith in
      ap (coefficient (1 ∷ tail) quotient) e
      ∙ ap (λ (u : Fin 256). bytes.add (bytes.mul (byte 1) u) (coefficient tail quotient (15 + n))) (ends (suc (15 + n)) (omega arith))
      ∙ ap (λ (u : Fin 256). bytes.add u (coefficient tail quotient (15 + n))) (mul_zero bytes (byte 1))
      ∙ zero_add bytes (coefficient tail quotient (15 + n))
      ∙ sym (add_self_left bytes (byte (get_or w n 0)) (coefficient tail quotient (15 + n)))
      ∙ ap (bytes.add (byte (get_or w n 0))) (sym (R.each n h))
      ∙ sym (byte_add (get_or w n 0) (get_or r n 0)) ∙ ap byte (sym (sum_at w r n (lw ∙ sym lr)))

  -- all of it
  abbrev both : List ℕ
  both = v ++ plus numbers w r

  both_length : length both ≡ 32
  both_length = length-append v (plus numbers w r) ∙ omega (arith, length-sum w r (lw ∙ sym lr))

  both_at : (k : ℕ) → k < 32 → byte (get_or both k 0) ≡ coefficient (1 ∷ tail) quotient k
  both_at k h = go (dec_lt k 16)
    where
      go : Dec (k < 16) → byte (get_or both k 0) ≡ coefficient (1 ∷ tail) quotient k
      go (yes b) = ap byte (get_or-append v (plus numbers w r) 0 k (omega arith)) ∙ sym (upper k b)
      go (no b) =
          let e : k ≡ length v + (k - 16) = omega arith in
          let s : 16 + (k - 16) ≡ k = omega arith in
          ap (λ (i : ℕ). byte (get_or both i 0)) e ∙ ap byte (get_or-append-add v (plus numbers w r) (k - 16) 0)
          ∙ sym (lower (k - 16) (omega arith)) ∙ ap (coefficient (1 ∷ tail) quotient) s

  pub reduced_values : SameValues r (v ++ w)
  reduced_values =
      record {
        each = λ j h.
            let x : Fin 256 = alpha j in
            sym (high_append x v w
            ∙ ap (λ (u : Fin 256). bytes.add (high x w) u)
            (eq_of_add bytes (bytes.mul (power (ops bytes) x (length w)) (high x v)) (high x (plus numbers w r)) (add_comm bytes (bytes.mul (power (ops bytes) x (length w)) (high x v)) (high x (plus numbers w r)) ∙ whole j h)
            ∙ high_plus x w r (lw ∙ sym lr))
            ∙ add_self_left bytes (high x w) (high x r));
      }
    where
      whole : (j : ℕ) → j < 16 → bytes.add (high (alpha j) (plus numbers w r)) (bytes.mul (power (ops bytes) (alpha j) (length w)) (high (alpha j) v)) ≡ bytes.𝟘
      whole j h =
          let x : Fin 256 = alpha j in
          let e : length w ≡ length (plus numbers w r) = sym (length-sum w r (lw ∙ sym lr)) in
          ap (λ (n : ℕ). bytes.add (high x (plus numbers w r)) (bytes.mul (power (ops bytes) x n) (high x v))) e
          ∙ sym (high_append x v (plus numbers w r)) ∙ high_value x both
          ∙ ap (λ (n : ℕ). value_of x n (λ k. byte (get_or both k 0))) both_length
          ∙ value_ext x 32 (λ k. byte (get_or both k 0)) (coefficient (1 ∷ tail) quotient) both_at
          ∙ value_whole x quotient ends (1 ∷ tail)
          ∙ ap (λ (u : Fin 256). bytes.mul u (value_of x 16 quotient)) (generator_zero j h)
          ∙ zero_mul bytes (value_of x 16 quotient)

pub reciprocal_bytes : Bytes reciprocal
reciprocal_bytes = bytes_of reciprocal (every_byte reciprocal tt)

pub tail_bytes : Bytes tail
tail_bytes = bytes_of tail (every_byte tail tt)

-- the first four coefficients, after twelve zeros
pub horner_none : (p r : List ℕ) → 4 ≤ length p → r ≡ take 12 (replicate 16 0) ++ take 4 p ++ drop (12 + length (take 4 p)) (replicate 16 0) → SameValues r (take 4 p)
horner_none p r h e =
    let n : 12 + length (take 4 p) ≡ 16 = omega (arith, length-take-le 4 p h) in
    let s : r ≡ replicate 12 0 ++ take 4 p = e ∙ ap (λ (k : ℕ). replicate 12 0 ++ take 4 p ++ drop k (replicate 16 0)) n ∙ append-nil (replicate 12 0 ++ take 4 p) in
    record { each = λ j l. ap (high (alpha j)) s ∙ high_leading (alpha j) 12 (take 4 p) }

-- sixteen coefficients more, by Horner's rule
pub horner_more : (p r s w : List ℕ) (i : ℕ) → length w ≡ 16 → w ≡ take 16 (drop i p) → SameValues s (r ++ w) → SameValues r (take i p) → SameValues s (take (i + 16) p)
horner_more p r s w i n e f v =
    record {
      each = λ j h.
          let x : Fin 256 = alpha j in
          f.each j h ∙ high_append x r w
          ∙ ap (λ (u : Fin 256). bytes.add (high x w) (bytes.mul (power (ops bytes) x (length w)) u)) (v.each j h)
          ∙ sym (high_append x (take i p) w) ∙ ap (λ (l : List ℕ). high x (take i p ++ l)) e ∙ ap (high x) (sym (take-add i 16 p));
    }
