-- Lists of zeros, the powers of 02, Horner's rule at sixteen places, and the powers of sixteen lanes.
-- Assumes nothing.
use mathlib.Core.Path.{◌≡◌, refl, sym, ap, ap₂, ◌∙◌, subst}
use mathlib.Core.List.{List, [], ◌∷◌, map}
use Prim.Native.Nat.{ℕ, zero, suc, ◌+◌, ◌<◌, Fin}
use native.Mathlib.Nat.{zero-add}
use native.Mathlib.Numerals.{add-one}
use native.Mathlib.Omega.{arith}
use lib.Bits.{bit_xor, xor_comm, xor_zero_l, xor_lt}
use lib.Dec.{T}
use lib.ListN.{length, get_or, drop, replicate, get_or-replicate, drop_of_length-le}
use lib.Seq.{drop-cons}
use Rattle.common.proofs.Computed.{agree, agree_at}
use Rattle.common.proofs.Lists.{get_d_map_in}
use Rattle.algebra.specs.Field.{ops}
use Rattle.algebra.specs.Polynomial.{power, eval, scale}
use Rattle.galois.specs.Field256.{times_x, rounds, numbers, mul, pow, scaled}
use Rattle.galois.proofs.Laws.{mul_lt, mul_comm, mul_zero_right}
use Rattle.galois.proofs.Powers.{times_one, pow_add}
use Rattle.galois.proofs.Instance.{bytes, byte, byte_power}
use Rattle.galois.specs.Lanes.{products_of, PowersFrom, horner_step, ValuesAt}
use Rattle.galois.proofs.Elements.{elements, alpha}
use Rattle.galois.proofs.Words.{length-sum, sum_at, length_products, products_at, elements_eval}

-- ---- sixteen powers of 02

-- the first ones, as antt computes them
abbrev roots : List ℕ
roots = 0x01 ∷ 0x02 ∷ 0x04 ∷ 0x08 ∷ 0x10 ∷ 0x20 ∷ 0x40 ∷ 0x80 ∷ 0x1D ∷ 0x3A ∷ 0x74 ∷ 0xE8 ∷ 0xCD ∷ 0x87 ∷ 0x13 ∷ 0x26 ∷ []

roots_right : T (agree (λ j. get_or roots j 0) (pow 2) 16)
unfolding power mul rounds times_x
roots_right = tt

pub powers_first : PowersFrom 0 roots
powers_first = record { each = λ j h. agree_at (λ j. get_or roots j 0) (pow 2) 16 roots_right j h ∙ ap (pow 2) (sym (zero-add j)) }

sixteenth : pow 2 16 ≡ 0x4C
unfolding power mul rounds times_x
sixteenth = refl

pub powers_next : (n : ℕ) (x y : List ℕ) → length x ≡ 16 → y ≡ scaled 0x4C x → PowersFrom n x → PowersFrom (n + 16) y
unfolding scale
powers_next n x y l e p =
    record {
      each = λ j h.
          let m : 16 + (n + j) ≡ n + 16 + j = omega arith in
          ap (λ (r : List ℕ). get_or r j 0) e ∙ get_d_map_in (mul 0x4C) x 0 0 j (omega arith)
          ∙ ap₂ mul (sym sixteenth) (p.each j h) ∙ pow_add 2 16 (n + j) ∙ ap (pow 2) m;
    }

-- in the field
pub powers_at : (n : ℕ) (x : List ℕ) → PowersFrom n x → (j : ℕ) → j < 16 → byte (get_or x j 0) ≡ alpha (n + j)
powers_at n x p j h = ap byte (p.each j h) ∙ byte_power 2 (n + j)

-- ---- one factor in every lane

pub products_scaled : (n f : ℕ) (a : List ℕ) → length a ≡ n → products_of a (replicate n f) ≡ scaled f a
unfolding products_of scale
products_scaled n f [] h = refl
products_scaled zero f (x ∷ a) h = absurd (omega arith)
products_scaled (suc n) f (x ∷ a) h = ap₂ (λ (y : ℕ) (l : List ℕ). y ∷ l) (mul_comm x f) (products_scaled n f a (omega arith))

-- ---- one step of Horner's rule

module _ (x v : List ℕ) (c : ℕ) (n : length x ≡ 16) (m : length v ≡ 16) where
  products_length : length (products_of x v) ≡ 16
  products_length = length_products x v (n ∙ sym m) ∙ n

  pub length_advanced : length (horner_step x v c) ≡ 16
  unfolding horner_step
  length_advanced = length-sum (products_of x v) (replicate 16 c) products_length ∙ products_length

  pub advanced_at : (j : ℕ) → j < 16 → get_or (horner_step x v c) j 0 ≡ bit_xor (mul (get_or x j 0) (get_or v j 0)) c
  unfolding horner_step
  advanced_at j h =
      sum_at (products_of x v) (replicate 16 c) j products_length
      ∙ ap₂ bit_xor (products_at x v j (n ∙ sym m) (omega arith)) (get_or-replicate 16 j c 0 h)

-- ---- Horner's rule from the highest coefficient down

-- the value of the coefficients from k on
pub eval_from : (l : List ℕ) (k : ℕ) (y : Fin 256) → k < length l
    → eval (ops bytes) (elements (drop k l)) y ≡ bytes.add (byte (get_or l k 0)) (bytes.mul y (eval (ops bytes) (elements (drop (k + 1) l)) y))
unfolding eval
eval_from l k y h =
    ap (λ (m : List ℕ). eval (ops bytes) (elements m) y) (drop-cons l k 0 h)
    ∙ ap (λ (n : ℕ). bytes.add (byte (get_or l k 0)) (bytes.mul y (eval (ops bytes) (elements (drop n l)) y))) (sym (add-one k))

-- the same of numbers
number_from : (l : List ℕ) (k y : ℕ) → k < length l → eval numbers (drop k l) y ≡ bit_xor (get_or l k 0) (mul y (eval numbers (drop (k + 1) l) y))
unfolding eval
number_from l k y h =
    ap (λ (m : List ℕ). eval numbers m y) (drop-cons l k 0 h) ∙ ap (λ (n : ℕ). bit_xor (get_or l k 0) (mul y (eval numbers (drop n l) y))) (sym (add-one k))

pub values_none : (q x : List ℕ) (k : ℕ) → k + 1 ≡ length q → get_or q k 0 < 256 → ValuesAt (drop k q) x (replicate 16 (get_or q k 0))
unfolding eval
values_none q x k n s =
    record {
      len = refl;
      each = λ j h.
          get_or-replicate 16 j (get_or q k 0) 0 h
          ∙ sym (number_from q k (get_or x j 0) (omega arith) ∙ ap (bit_xor (get_or q k 0)) (last (get_or x j 0)) ∙ xor_comm (get_or q k 0) 0 ∙ xor_zero_l (get_or q k 0));
      small = λ j h. subst (λ (i : ℕ). i < 256) (sym (get_or-replicate 16 j (get_or q k 0) 0 h)) s;
    }
  where
    last : (y : ℕ) → mul y (eval numbers (drop (k + 1) q) y) ≡ 0
    last y = ap (λ (l : List ℕ). mul y (eval numbers l y)) (drop_of_length-le q {i = k + 1} (omega arith)) ∙ mul_zero_right y

pub values_more : (q x : List ℕ) (k : ℕ) (v w : List ℕ) → k < length q → length x ≡ 16 → get_or q k 0 < 256 → ValuesAt (drop (k + 1) q) x v → w ≡ horner_step x v (get_or q k 0)
    → ValuesAt (drop k q) x w
values_more q x k v w n l s e f =
    record {
      len = ap length f ∙ length_advanced x v (get_or q k 0) l e.len;
      each = λ j h.
          ap (λ (r : List ℕ). get_or r j 0) f ∙ advanced_at x v (get_or q k 0) l e.len j h
          ∙ xor_comm (mul (get_or x j 0) (get_or v j 0)) (get_or q k 0)
          ∙ ap (λ (u : ℕ). bit_xor (get_or q k 0) (mul (get_or x j 0) u)) (e.each j h)
          ∙ sym (number_from q k (get_or x j 0) n);
      small = λ j h.
          subst (λ (i : ℕ). i < 256) (sym (ap (λ (r : List ℕ). get_or r j 0) f ∙ advanced_at x v (get_or q k 0) l e.len j h))
          (xor_lt 8 (mul (get_or x j 0) (get_or v j 0)) (get_or q k 0) (mul_lt (get_or x j 0) (get_or v j 0)) s);
    }

-- the values in the field
pub values_bytes : {q x v : List ℕ} → ValuesAt q x v → (j : ℕ) → j < 16 → byte (get_or v j 0) ≡ eval (ops bytes) (elements q) (byte (get_or x j 0))
values_bytes {q} {x} g j h = ap byte (g.each j h) ∙ elements_eval q (get_or x j 0)

-- ---- powers of every lane

pub first_products : (a : List ℕ) → products_of a a ≡ map (λ u. pow u 2) a
unfolding products_of
first_products [] = refl
first_products (x ∷ a) =
    ap₂ (λ (y : ℕ) (l : List ℕ). y ∷ l) (times_one x x ∙ mul_comm x (pow x 1) ∙ times_one (pow x 1) x ∙ pow_add x 1 1) (first_products a)

next_powers : (m : ℕ) (a : List ℕ) → products_of (map (λ u. pow u m) a) a ≡ map (λ u. pow u (m + 1)) a
unfolding products_of
next_powers m [] = refl
next_powers m (x ∷ a) = ap₂ (λ (y : ℕ) (l : List ℕ). y ∷ l) (times_one (pow x m) x ∙ pow_add x m 1) (next_powers m a)

powers_add : (m n : ℕ) (a : List ℕ) → products_of (map (λ u. pow u m) a) (map (λ u. pow u n) a) ≡ map (λ u. pow u (m + n)) a
unfolding products_of
powers_add m n [] = refl
powers_add m n (x ∷ a) = ap₂ (λ (y : ℕ) (l : List ℕ). y ∷ l) (pow_add x m n) (powers_add m n a)

-- the same, of lists that are powers of a
pub one_more : (a : List ℕ) (m : ℕ) {x : List ℕ} → x ≡ map (λ u. pow u m) a → products_of x a ≡ map (λ u. pow u (m + 1)) a
one_more a m p = ap (λ (l : List ℕ). products_of l a) p ∙ next_powers m a

pub times_powers : (a : List ℕ) (m n : ℕ) {x y : List ℕ} → x ≡ map (λ u. pow u m) a → y ≡ map (λ u. pow u n) a → products_of x y ≡ map (λ u. pow u (m + n)) a
times_powers a m n p q = ap₂ products_of p q ∙ powers_add m n a
