-- The numbers below 256 with xor and the product are a field, and a number's low byte is a homomorphism into it.
-- Assumes nothing.
use mathlib.Core.Path.{◌≡◌, refl, sym, ap, ◌∙◌}
use Prim.Native.Nat.{ℕ, zero, suc, ◌<◌, ◌%◌, Fin}
use native.Mathlib.Decide.{Fin-discrete}
use native.Mathlib.Nat.{mod-lt, mod-eq_of_lt}
use native.Mathlib.Omega.{arith}
use lib.Bits.{bit_xor, xor_comm, xor_zero_l, xor_self, xor_lt, xor_mod}
use lib.Dec.{lit<}
use Rattle.algebra.specs.Field.{Field, ops}
use Rattle.algebra.specs.Polynomial.{power}
use Rattle.common.proofs.Xor.{xor_assoc}
use Rattle.galois.specs.Field256.{mul, pow, inv}
use Rattle.galois.proofs.Laws.{mul_lt, mul_assoc, mul_comm, mul_add_right, mul_mod_left, mul_mod_right}
use Rattle.galois.proofs.Powers.{pow_lt, one_mul}
use Rattle.galois.proofs.Tables.{mul_inv, distinct}

pub inv_lt : (a : ℕ) → inv a < 256
unfolding inv
inv_lt a = pow_lt a 254

pub one_zero : ◌≡◌ {A = ℕ} 1 0 → ⊥
one_zero e = omega arith

abbrev pub bytes : Field
bytes =
    record {
      F = Fin 256;
      dec = Fin-discrete 256;
      add = λ a b. (bit_xor a.0 b.0, xor_lt 8 a.0 b.0 a.1 b.1);
      mul = λ a b. (mul a.0 b.0, mul_lt a.0 b.0);
      𝟘 = (0, lit< tt);
      𝟙 = (1, lit< tt);
      inv = λ a. (inv a.0, inv_lt a.0);
      add·assoc = λ a b c. native.Mathlib.Fin.val_path (xor_assoc a.0 b.0 c.0);
      add·comm = λ a b. native.Mathlib.Fin.val_path (xor_comm a.0 b.0);
      zero·add = λ a. native.Mathlib.Fin.val_path (xor_zero_l a.0);
      add·self = λ a. native.Mathlib.Fin.val_path (xor_self a.0);
      mul·assoc = λ a b c. native.Mathlib.Fin.val_path (mul_assoc a.0 b.0 c.0);
      mul·comm = λ a b. native.Mathlib.Fin.val_path (mul_comm a.0 b.0);
      one·mul = λ a. native.Mathlib.Fin.val_path (one_mul a.0 a.1);
      mul·add = λ a b c. native.Mathlib.Fin.val_path (mul_add_right a.0 b.0 c.0);
      mul·inv = λ a n. native.Mathlib.Fin.val_path (mul_inv a.0 a.1 (λ e. n (native.Mathlib.Fin.val_path e)));
      one·ne·zero = λ e. one_zero (ap (λ u. u.0) e);
    }

-- ---- a number's low byte

unfoldable pub byte : ℕ → Fin 256
byte n = (n % 256, mod-lt n (lit< tt))

pub byte_val : (n : ℕ) → n < 256 → (byte n).0 ≡ n
unfolding byte
byte_val n h = mod-eq_of_lt h

pub byte_inj : (a b : ℕ) → a < 256 → b < 256 → byte a ≡ byte b → a ≡ b
byte_inj a b ha hb e = sym (byte_val a ha) ∙ ap (λ u. u.0) e ∙ byte_val b hb

pub byte_of : (a : Fin 256) → byte a.0 ≡ a
unfolding byte
byte_of a = native.Mathlib.Fin.val_path (mod-eq_of_lt a.1)

pub byte_zero : byte 0 ≡ bytes.𝟘
unfolding byte
byte_zero = native.Mathlib.Fin.val_path refl

pub byte_one : byte 1 ≡ bytes.𝟙
unfolding byte
byte_one = native.Mathlib.Fin.val_path refl

pub byte_add : (a b : ℕ) → byte (bit_xor a b) ≡ bytes.add (byte a) (byte b)
unfolding byte
byte_add a b = native.Mathlib.Fin.val_path (xor_mod a b 8)

pub byte_mul : (a b : ℕ) → byte (mul a b) ≡ bytes.mul (byte a) (byte b)
unfolding byte
byte_mul a b = native.Mathlib.Fin.val_path (mod-eq_of_lt (mul_lt a b) ∙ sym (mul_mod_left a b) ∙ sym (mul_mod_right (a % 256) b))

power_mod : (a n : ℕ) → pow (a % 256) n ≡ pow a n
unfolding power
power_mod a zero = refl
power_mod a (suc n) = mul_mod_left a (pow (a % 256) n) ∙ ap (mul a) (power_mod a n)

pub byte_inv : (a : ℕ) → byte (inv a) ≡ bytes.inv (byte a)
unfolding byte inv
byte_inv a = native.Mathlib.Fin.val_path (mod-eq_of_lt (pow_lt a 254) ∙ sym (power_mod a 254))

pub byte_power : (a n : ℕ) → byte (pow a n) ≡ power (ops bytes) (byte a) n
unfolding power
byte_power a zero = byte_one
byte_power a (suc n) = byte_mul a (pow a n) ∙ ap (λ u. bytes.mul (byte a) u) (byte_power a n)

-- the first 255 powers of 02 differ
pub powers_differ : (i j : ℕ) → i < j → j < 255 → power (ops bytes) (byte 2) j ≡ power (ops bytes) (byte 2) i → ⊥
powers_differ i j h l e =
    distinct i j h l (byte_inj (pow 2 i) (pow 2 j) (pow_lt 2 i) (pow_lt 2 j) (byte_power 2 i ∙ sym e ∙ sym (byte_power 2 j)))
