-- Xor passes through doubling and through products by a bit, and linear functions.
-- A function is linear where it takes sums to sums; two that are agree below 2 ^ k where they agree at k powers of two.
-- Assumes nothing.
use mathlib.Core.Path.{◌≡◌, sym, ap, ap₂, ◌∙◌, subst}
use Prim.Native.Nat.{ℕ, zero, suc, ◌*◌, ◌/◌, ◌%◌, ◌^◌, ◌<◌}
use native.Mathlib.Nat.{mod-lt, zero-mul, one-mul, add-zero, div-lt_iff_lt-mul, le_refl, pow-suc, mul_comm}
use native.Mathlib.Omega.{arith}
use lib.Bits.{bit_xor, xor_comm, xor_self, xor_zero_r, xor_block, xor_shifted}
use lib.Arith.{lt-one}
use lib.Pow.{pow_pos, split}
use lib.Dec.{lit<}
use Rattle.common.proofs.Xor.{xor_assoc}

-- a fact of 0 and of 1 is a fact of each bit
pub by_bit : (P : ℕ → Type 0) → P 0 → P 1 → (x : ℕ) → x < 2 → P x
by_bit P p q zero h = p
by_bit P p q (suc zero) h = q
by_bit P p q (suc (suc x)) h = absurd (omega arith)

-- four summands, the inner two exchanged
pub xor_swap : (a b c d : ℕ) → bit_xor (bit_xor a b) (bit_xor c d) ≡ bit_xor (bit_xor a c) (bit_xor b d)
xor_swap a b c d =
    xor_assoc a b (bit_xor c d)
    ∙ ap (bit_xor a) (sym (xor_assoc b c d) ∙ ap (λ (x : ℕ). bit_xor x d) (xor_comm b c) ∙ xor_assoc c b d)
    ∙ sym (xor_assoc a c (bit_xor b d))

pub xor_double : (a b : ℕ) → bit_xor a b * 2 ≡ bit_xor (a * 2) (b * 2)
xor_double a b =
    sym (add-zero (bit_xor a b * 2)) ∙ sym (xor_block 1 a b 0 0 (lit< tt) (lit< tt))
    ∙ ap₂ bit_xor (add-zero (a * 2)) (add-zero (b * 2))

-- a sum of bits, times a number
pub bits_times : (x y m : ℕ) → x < 2 → y < 2 → bit_xor x y * m ≡ bit_xor (x * m) (y * m)
bits_times x y m hx hy =
    by_bit (λ (k : ℕ). bit_xor k y * m ≡ bit_xor (k * m) (y * m)) (rw (zero-mul m))
    (by_bit (λ (k : ℕ). bit_xor 1 k * m ≡ bit_xor (1 * m) (k * m)) (rw (zero-mul m) (sym (xor_zero_r (1 * m)))) (zero-mul m ∙ sym (xor_self (1 * m))) y hy)
    x hx

-- a sum, times a bit
pub bit_times : (x a b : ℕ) → x < 2 → x * bit_xor a b ≡ bit_xor (x * a) (x * b)
bit_times x a b hx =
    by_bit (λ (k : ℕ). k * bit_xor a b ≡ bit_xor (k * a) (k * b)) (simp zero-mul) (simp one-mul) x hx

-- ---- linear functions

abbrev pub Linear : (ℕ → ℕ) → Type 0
Linear f = (a b : ℕ) → f (bit_xor a b) ≡ bit_xor (f a) (f b)

pub linear_zero : (f : ℕ → ℕ) → Linear f → f 0 ≡ 0
linear_zero f h =
    sym (xor_zero_r (f 0)) ∙ ap (bit_xor (f 0)) (sym (xor_self (f 0))) ∙ sym (xor_assoc (f 0) (f 0) (f 0))
    ∙ ap (λ (x : ℕ). bit_xor x (f 0)) (sym (h 0 0)) ∙ xor_self (f 0)

module _ (f g : ℕ → ℕ) (hf : Linear f) (hg : Linear g) where
  at_zero : f 0 ≡ g 0
  at_zero = linear_zero f hf ∙ sym (linear_zero g hg)

  at_digit : (k q : ℕ) → f (2 ^ k) ≡ g (2 ^ k) → q < 2 → f (q * 2 ^ k) ≡ g (q * 2 ^ k)
  at_digit k q e hq =
      by_bit (λ (x : ℕ). f (x * 2 ^ k) ≡ g (x * 2 ^ k)) (simp zero-mul at_zero) (simp one-mul e) q hq

  pub linear_ext : (k : ℕ) → ((i : ℕ) → i < k → f (2 ^ i) ≡ g (2 ^ i)) → (a : ℕ) → a < 2 ^ k → f a ≡ g a
  linear_ext zero e a h = rw (lt-one h) at_zero
  linear_ext (suc k) e a h =
      ap f whole ∙ hf (a / 2 ^ k * 2 ^ k) (a % 2 ^ k)
      ∙ ap₂ bit_xor (at_digit k (a / 2 ^ k) (e k (le_refl (suc k))) top)
      (linear_ext k (λ i l. e i (omega arith)) (a % 2 ^ k) (mod-lt a (pow_pos k)))
      ∙ sym (ap g whole ∙ hg (a / 2 ^ k * 2 ^ k) (a % 2 ^ k))
    where
      whole : a ≡ bit_xor (a / 2 ^ k * 2 ^ k) (a % 2 ^ k)
      whole = sym (xor_shifted (a / 2 ^ k) k (a % 2 ^ k) (mod-lt a (pow_pos k)) ∙ split a k)

      top : a / 2 ^ k < 2
      top = (div-lt_iff_lt-mul (pow_pos k)).1 (subst (λ (x : ℕ). a < x) (pow-suc 2 k ∙ mul_comm (2 ^ k) 2) h)
