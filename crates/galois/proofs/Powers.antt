-- Powers.
-- Assumes nothing.
use mathlib.Core.Path.{◌≡◌, refl, sym, ap, ◌∙◌}
use Prim.Native.Nat.{ℕ, zero, suc, ◌+◌, ◌%◌, ◌<◌}
use native.Mathlib.Nat.{zero-add, suc-add, mod-lt}
use lib.Dec.{lit<}
use Rattle.algebra.specs.Polynomial.{power}
use Rattle.galois.specs.Field256.{mul, pow}
use Rattle.galois.proofs.Laws.{mul_lt, mul_mod_left, mul_mod_right, mul_comm, mul_assoc, mul_one}

pub pow_lt : (a n : ℕ) → pow a n < 256
unfolding power
pow_lt a zero = lit< tt
pow_lt a (suc n) = mul_lt a (pow a n)

pub one_mul : (a : ℕ) → a < 256 → mul 1 a ≡ a
one_mul a h = mul_comm 1 a ∙ mul_one a h

-- as a factor, a is its first power, whatever number it is
pub times_one : (x a : ℕ) → mul x a ≡ mul x (pow a 1)
unfolding power
times_one x a = sym (mul_mod_right x a) ∙ ap (mul x) (sym (sym (mul_mod_left a 1) ∙ mul_one (a % 256) (mod-lt a (lit< tt))))

pub pow_add : (a m n : ℕ) → mul (pow a m) (pow a n) ≡ pow a (m + n)
unfolding power
pow_add a zero n = one_mul (pow a n) (pow_lt a n) ∙ ap (pow a) (sym (zero-add n))
pow_add a (suc m) n = mul_assoc a (pow a m) (pow a n) ∙ ap (mul a) (pow_add a m n) ∙ ap (pow a) (sym (suc-add m n))

pow_mul : (a b n : ℕ) → mul (pow a n) (pow b n) ≡ pow (mul a b) n
unfolding power
pow_mul a b zero = mul_one 1 (lit< tt)
pow_mul a b (suc n) =
    mul_assoc a (pow a n) (mul b (pow b n))
    ∙ ap (mul a) (sym (mul_assoc (pow a n) b (pow b n)) ∙ ap (λ (x : ℕ). mul x (pow b n)) (mul_comm (pow a n) b) ∙ mul_assoc b (pow a n) (pow b n))
    ∙ sym (mul_assoc a b (mul (pow a n) (pow b n))) ∙ ap (mul (mul a b)) (pow_mul a b n)

pub one_pow : (n : ℕ) → pow 1 n ≡ 1
unfolding power
one_pow zero = refl
one_pow (suc n) = one_mul (pow 1 n) (pow_lt 1 n) ∙ one_pow n

-- the order of two exponents
pub pow_pow : (a m n : ℕ) → pow (pow a m) n ≡ pow (pow a n) m
unfolding power
pow_pow a zero n = one_pow n
pow_pow a (suc m) n = sym (pow_mul a (pow a m) n) ∙ ap (mul (pow a n)) (pow_pow a m n)
