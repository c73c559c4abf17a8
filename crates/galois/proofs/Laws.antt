-- The laws of the product. All but the unit's hold of every number: `mul` reads eight bits of each factor.
-- Assumes nothing.
use mathlib.Core.Path.{◌≡◌, refl, sym, ap, ap₂, ◌∙◌}
use Prim.Native.Nat.{ℕ, zero, suc, ◌*◌, ◌/◌, ◌%◌, ◌^◌, ◌<◌}
use native.Mathlib.Nat.{mod-lt, mod-mod, mod-eq_of_lt, zero-mul, one-mul}
use native.Mathlib.Numerals.{add-one}
use lib.Bits.{bit_xor, xor_shr, xor_mod, xor_lt}
use lib.Pow.{field, mod-mod-pow}
use lib.Dec.{T, ltb, ltb→lt, lit<}
use Rattle.galois.specs.Field256.{times_x, rounds, mul}
use Rattle.common.proofs.Computed.{below, below_at, agree, agree_at}
use Rattle.common.proofs.Xor.{xor_half, xor_low}
use Rattle.galois.proofs.Linear.{by_bit, xor_swap, xor_double, bits_times, bit_times, Linear, linear_zero, linear_ext}

bit_lt : (a : ℕ) → a % 2 < 2
bit_lt a = mod-lt a (lit< tt)

-- ---- times x

times_x_lt : (a : ℕ) → a < 256 → times_x a < 256
unfolding times_x
times_x_lt a h = ltb→lt (times_x a) 256 (below_at (λ k. ltb (times_x k) 256) 256 tt a h)

top_bit : (a b : ℕ) → bit_xor a b / 128 % 2 ≡ bit_xor (a / 128 % 2) (b / 128 % 2)
top_bit a b = ap (λ (x : ℕ). x % 2) (xor_shr a b 7) ∙ xor_low (a / 128) (b / 128)

times_x_linear : Linear times_x
unfolding times_x
times_x_linear a b =
    ap₂ bit_xor (xor_double a b) (ap (λ (x : ℕ). x * 0x11D) (top_bit a b) ∙ bits_times (a / 128 % 2) (b / 128 % 2) 0x11D (bit_lt (a / 128)) (bit_lt (b / 128)))
    ∙ xor_swap (a * 2) (b * 2) (a / 128 % 2 * 0x11D) (b / 128 % 2 * 0x11D)

-- ---- the rounds

pub bit_times_lt : (x a : ℕ) → a < 256 → x % 2 * a < 256
bit_times_lt x a h = by_bit (λ (k : ℕ). k * a < 256) (rw (zero-mul a) (lit< tt)) (rw (one-mul a) h) (x % 2) (bit_lt x)

rounds_lt : (n a b : ℕ) → a < 256 → rounds n a b < 256
unfolding rounds
rounds_lt zero a b h = lit< tt
rounds_lt (suc n) a b h =
    xor_lt 8 (times_x (rounds n a (b / 2))) (b % 2 * a) (times_x_lt (rounds n a (b / 2)) (rounds_lt n a (b / 2) h))
    (bit_times_lt b a h)

-- linear in the first factor
rounds_left : (n b : ℕ) → Linear (λ a. rounds n a b)
unfolding rounds
rounds_left zero b a c = refl
rounds_left (suc n) b a c =
    ap₂ bit_xor (ap times_x (rounds_left n (b / 2) a c) ∙ times_x_linear (rounds n a (b / 2)) (rounds n c (b / 2))) (bit_times (b % 2) a c (bit_lt b))
    ∙ xor_swap (times_x (rounds n a (b / 2))) (times_x (rounds n c (b / 2))) (b % 2 * a) (b % 2 * c)

-- and in the second
rounds_right : (n a : ℕ) → Linear (rounds n a)
unfolding rounds
rounds_right zero a b c = refl
rounds_right (suc n) a b c =
    ap₂ bit_xor
    (ap times_x (ap (rounds n a) (xor_half b c) ∙ rounds_right n a (b / 2) (c / 2)) ∙ times_x_linear (rounds n a (b / 2)) (rounds n a (c / 2)))
    (ap (λ (x : ℕ). x * a) (xor_low b c) ∙ bits_times (b % 2) (c % 2) a (bit_lt b) (bit_lt c))
    ∙ xor_swap (times_x (rounds n a (b / 2))) (times_x (rounds n a (c / 2))) (b % 2 * a) (c % 2 * a)

-- they read n bits of the second factor
rounds_mod : (n a b : ℕ) → rounds n a (b % 2 ^ n) ≡ rounds n a b
unfolding rounds
rounds_mod zero a b = refl
rounds_mod (suc n) a b = ap₂ (λ (x y : ℕ). bit_xor (times_x x) (y * a)) (ap (rounds n a) up ∙ rounds_mod n a (b / 2)) low
  where
    up : b % 2 ^ suc n / 2 ≡ b / 2 % 2 ^ n
    up = rw (← add-one n) (field b n 1)

    low : b % 2 ^ suc n % 2 ≡ b % 2
    low = rw (← add-one n) (mod-mod-pow b n 1)

-- ---- the product

pub mul_lt : (a b : ℕ) → mul a b < 256
unfolding mul
mul_lt a b = rounds_lt 8 (a % 256) b (mod-lt a (lit< tt))

pub mul_mod_left : (a b : ℕ) → mul (a % 256) b ≡ mul a b
unfolding mul
mul_mod_left a b = ap (λ (x : ℕ). rounds 8 x b) (mod-mod a 256)

pub mul_mod_right : (a b : ℕ) → mul a (b % 256) ≡ mul a b
unfolding mul
mul_mod_right a b = rounds_mod 8 (a % 256) b

mul_add_left : (a b c : ℕ) → mul (bit_xor a b) c ≡ bit_xor (mul a c) (mul b c)
unfolding mul
mul_add_left a b c = ap (λ (x : ℕ). rounds 8 x c) (xor_mod a b 8) ∙ rounds_left 8 c (a % 256) (b % 256)

pub mul_add_right : (a b c : ℕ) → mul a (bit_xor b c) ≡ bit_xor (mul a b) (mul a c)
unfolding mul
mul_add_right a b c = rounds_right 8 (a % 256) b c

pub mul_zero_right : (a : ℕ) → mul a 0 ≡ 0
mul_zero_right a = linear_zero (mul a) (mul_add_right a)

-- the factors' order: by 64 products of powers of two
basis : T (below (λ i. agree (λ j. mul (2 ^ i) (2 ^ j)) (λ j. mul (2 ^ j) (2 ^ i)) 8) 8)
unfolding mul rounds times_x
basis = tt

comm_bytes : (a b : ℕ) → a < 256 → b < 256 → mul a b ≡ mul b a
comm_bytes a b ha hb =
    linear_ext (λ x. mul x b) (mul b) (λ x y. mul_add_left x y b) (mul_add_right b) 8
    (λ i hi. linear_ext (mul (2 ^ i)) (λ x. mul x (2 ^ i)) (mul_add_right (2 ^ i)) (λ x y. mul_add_left x y (2 ^ i)) 8
    (agree_at (λ j. mul (2 ^ i) (2 ^ j)) (λ j. mul (2 ^ j) (2 ^ i)) 8
    (below_at (λ i. agree (λ j. mul (2 ^ i) (2 ^ j)) (λ j. mul (2 ^ j) (2 ^ i)) 8) 8 basis i hi)) b hb) a ha

pub mul_comm : (a b : ℕ) → mul a b ≡ mul b a
mul_comm a b =
    sym (mul_mod_left a b) ∙ sym (mul_mod_right (a % 256) b) ∙ comm_bytes (a % 256) (b % 256) (mod-lt a (lit< tt)) (mod-lt b (lit< tt))
    ∙ mul_mod_left b (a % 256) ∙ mul_mod_right b a

-- times x passes out of the first factor
pub rounds_times_x : (n a b : ℕ) → rounds n (times_x a) b ≡ times_x (rounds n a b)
unfolding rounds
rounds_times_x zero a b = sym (linear_zero times_x times_x_linear)
rounds_times_x (suc n) a b =
    ap₂ (λ (x y : ℕ). bit_xor (times_x x) y) (rounds_times_x n a (b / 2)) scaled
    ∙ sym (times_x_linear (times_x (rounds n a (b / 2))) (b % 2 * a))
  where
    scaled : b % 2 * times_x a ≡ times_x (b % 2 * a)
    scaled =
        by_bit (λ (x : ℕ). x * times_x a ≡ times_x (x * a)) (simp zero-mul (sym (linear_zero times_x times_x_linear))) (simp one-mul) (b % 2) (bit_lt b)

times_x_left : (a b : ℕ) → a < 256 → mul (times_x a) b ≡ times_x (mul a b)
unfolding mul
times_x_left a b h =
    ap (λ (x : ℕ). rounds 8 x b) (mod-eq_of_lt (times_x_lt a h) ∙ ap times_x (sym (mod-eq_of_lt h))) ∙ rounds_times_x 8 (a % 256) b

times_x_right : (a b : ℕ) → b < 256 → mul a (times_x b) ≡ times_x (mul a b)
times_x_right a b h = mul_comm a (times_x b) ∙ times_x_left b a h ∙ ap times_x (mul_comm b a)

assoc_rounds : (n a b c : ℕ) → b < 256 → rounds n (mul a b) c ≡ mul a (rounds n b c)
unfolding rounds
assoc_rounds zero a b c h = sym (mul_zero_right a)
assoc_rounds (suc n) a b c h =
    ap₂ bit_xor (ap times_x (assoc_rounds n a b (c / 2) h) ∙ sym (times_x_right a (rounds n b (c / 2)) (rounds_lt n b (c / 2) h))) scaled
    ∙ sym (mul_add_right a (times_x (rounds n b (c / 2))) (c % 2 * b))
  where
    scaled : c % 2 * mul a b ≡ mul a (c % 2 * b)
    scaled = by_bit (λ (x : ℕ). x * mul a b ≡ mul a (x * b)) (simp zero-mul (sym (mul_zero_right a))) (simp one-mul) (c % 2) (bit_lt c)

pub mul_assoc : (a b c : ℕ) → mul (mul a b) c ≡ mul a (mul b c)
unfolding mul
mul_assoc a b c =
    ap (λ (x : ℕ). rounds 8 x c) (mod-eq_of_lt (mul_lt a b) ∙ sym (mul_mod_right a b)) ∙ assoc_rounds 8 a (b % 256) c (mod-lt b (lit< tt))

pub mul_one : (a : ℕ) → a < 256 → mul a 1 ≡ a
unfolding mul rounds times_x
mul_one a h = linear_ext (λ x. mul x 1) (λ x. x) (λ x y. mul_add_left x y 1) (λ x y. refl) 8 (agree_at (λ i. mul (2 ^ i) 1) (λ i. 2 ^ i) 8 tt) a h
