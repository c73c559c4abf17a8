-- Products in two limbs.
-- Assumes nothing.
use mathlib.Core.Path.{◌≡◌, sym, ap, ap₂, ◌∙◌, subst}
use Prim.Native.Nat.{ℕ, ◌+◌, ◌*◌, ◌/◌, ◌%◌, ◌≤◌, ◌<◌}
use native.Mathlib.Nat.{mul-le-mul, mul-le-mul_left, mul-suc, mul-add, add-mul, mul_assoc, mul_left_comm, mul-mul-mul_comm, add_assoc}
use native.Mathlib.Decide.{dec_lt}
use native.Mathlib.Omega.{arith}
use borrow.Author.Tests.{lt-ltb, le-ltb}
use lib.Dec.{ltb}

-- a product of halves
half_product : {x y : ℕ} → x < 4294967296 → y < 4294967296 → x * y ≤ 18446744065119617025
half_product {x} {y} h k =
    let u : x ≤ 4294967295 = omega arith in
    let w : y ≤ 4294967295 = omega arith in
    let m : x * y ≤ 4294967295 * 4294967295 = mul-le-mul u w in
    omega arith

-- the four products of the halves of two numbers
pub record Halves (a b : ℕ) : Type 0 where
  pub low : a % 4294967296 * (b % 4294967296) ≤ 18446744065119617025
  pub middle : a / 4294967296 * (b % 4294967296) ≤ 18446744065119617025
  pub other : a % 4294967296 * (b / 4294967296) ≤ 18446744065119617025
  pub high : a / 4294967296 * (b / 4294967296) ≤ 18446744065119617025

pub halves : (a b : ℕ) → a < 18446744073709551616 → b < 18446744073709551616 → Halves a b
halves a b h k =
    let p : a % 4294967296 < 4294967296 = omega arith in
    let q : a / 4294967296 < 4294967296 = omega arith in
    let r : b % 4294967296 < 4294967296 = omega arith in
    let s : b / 4294967296 < 4294967296 = omega arith in
    record { low = half_product p r; middle = half_product q r; other = half_product p s; high = half_product q s }

-- a product by halves
by_halves : (x y u v k : ℕ) → (k * x + y) * (k * u + v) ≡ k * (k * (x * u)) + k * (x * v) + k * (y * u) + y * v
by_halves x y u v k =
    let a = add-mul (k * x) y (k * u + v) in
    let b = mul-add (k * x) (k * u) v in
    let c = mul-add y (k * u) v in
    let d : k * x * (k * u) ≡ k * (k * (x * u)) = mul-mul-mul_comm k x k u ∙ mul_assoc k k (x * u) in
    let e = mul_assoc k x v in
    let f = mul_left_comm y k u in
    let g : k * x * (k * u) + k * x * v + (y * (k * u) + y * v) ≡ k * (k * (x * u)) + k * (x * v) + k * (y * u) + y * v
    = ap₂ (λ (m n : ℕ). m + n) (ap₂ (λ (m n : ℕ). m + n) d e) (ap (λ (m : ℕ). m + y * v) f) ∙ sym (add_assoc (k * (k * (x * u)) + k * (x * v)) (k * (y * u)) (y * v)) in
    a ∙ ap₂ (λ (m n : ℕ). m + n) b c ∙ g

pub product_halves : (a b : ℕ)
    → a * b ≡ 4294967296 * (4294967296 * (a / 4294967296 * (b / 4294967296))) + 4294967296 * (a / 4294967296 * (b % 4294967296))
    + 4294967296 * (a % 4294967296 * (b / 4294967296)) + a % 4294967296 * (b % 4294967296)
product_halves a b =
    let p : a ≡ 4294967296 * (a / 4294967296) + a % 4294967296 = omega arith in
    let q : b ≡ 4294967296 * (b / 4294967296) + b % 4294967296 = omega arith in
    ap₂ (λ (x y : ℕ). x * y) p q ∙ by_halves (a / 4294967296) (a % 4294967296) (b / 4294967296) (b % 4294967296) 4294967296

-- two limbs, of which the upper ones are equal
pub low_limbs : (x y h k : ℕ) → h ≡ k → ltb x y ≡ ltb (x + 18446744073709551616 * h) (y + 18446744073709551616 * k)
low_limbs x y h k e = by (dec_lt x y)
  where
    by : Dec (x < y) → ltb x y ≡ ltb (x + 18446744073709551616 * h) (y + 18446744073709551616 * k)
    by (yes l) = lt-ltb x y l ∙ sym (lt-ltb (x + 18446744073709551616 * h) (y + 18446744073709551616 * k) (omega arith))
    by (no l) = le-ltb x y (omega arith) ∙ sym (le-ltb (x + 18446744073709551616 * h) (y + 18446744073709551616 * k) (omega arith))

-- the upper limb fits
pub high_fits : (p m o : ℕ) → p ≤ 18446744065119617025 → m < 18446744073709551616 → o < 18446744073709551616
    → p + m / 4294967296 + o / 4294967296 < 18446744073709551616
high_fits p m o h k l =
    let u : m / 4294967296 ≤ 4294967295 = omega arith in
    let w : o / 4294967296 ≤ 4294967295 = omega arith in
    omega arith

past : (x y w p q : ℕ) → x < w → p + w ≤ q → x + p < y + q
past x y w p q h k = omega arith

-- two limbs, of which the upper one is less
pub high_limbs : (x y h k : ℕ) → x < 18446744073709551616 → h < k → x + 18446744073709551616 * h < y + 18446744073709551616 * k
high_limbs x y h k l m =
    past x y 18446744073709551616 (18446744073709551616 * h) (18446744073709551616 * k) l
    (subst (λ (n : ℕ). n ≤ 18446744073709551616 * k) (mul-suc 18446744073709551616 h) (mul-le-mul_left 18446744073709551616 m))
