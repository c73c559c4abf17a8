-- The digits that the fewest places hold are the decimal of a number.
-- Assumes nothing.
use mathlib.Core.Path.{◌≡◌, refl, ap, ap₂, subst, ◌∙◌}
use mathlib.Core.List.{List, [], ◌∷◌, ◌++◌}
use Prim.Native.Nat.{ℕ, zero, suc, ◌+◌, ◌-◌, ◌/◌, ◌%◌, ◌^◌, ◌≤◌, ◌<◌}
use native.Mathlib.Nat.{pow-suc, pow-le-pow_right, not-suc-le-zero}
use native.Mathlib.Decide.{dec_lt}
use native.Mathlib.Omega.{arith}
use borrow.Author.Tests.{lt-ltb, le-ltb}
use Rattle.io.specs.Digits.{hex_digit_ascii, last_digits, IsDigitCount}
use Rattle.report_lines.specs.Line.{decimal_within, decimal}

-- a digit's character
digit_is : (d : ℕ) → d < 10 → hex_digit_ascii d ≡ 48 + d
digit_is d h = simp (lt-ltb d 10 h)

-- k places hold the number, and one fewer does not, unless one is enough
digits_within : (k j n : ℕ) → suc j ≤ k → n < 10 ^ suc j → (1 < suc j → 10 ^ j ≤ n) → last_digits 10 (suc j) n ≡ decimal_within k n
unfolding decimal_within
digits_within zero j n h f e = absurd (not-suc-le-zero h)
digits_within (suc k) zero n h f e =
    let l : n < 10 = omega (arith, pow-suc 10 0) in
    let r : n % 10 ≡ n = omega arith in
    rw (lt-ltb n 10 l) (ap (λ (c : ℕ). c ∷ []) (ap hex_digit_ascii r ∙ digit_is n l))
digits_within (suc k) (suc j) n h f e =
    let p = pow-suc 10 (suc j) in
    let q = pow-suc 10 j in
    let g : 10 ^ suc j ≤ n = e (omega arith) in
    let z : 1 ≤ 10 ^ j = positive j in
    let l : 10 ≤ n = omega arith in
    let a : n / 10 < 10 ^ suc j = omega arith in
    rw (le-ltb n 10 l)
    (ap₂ (λ (ds : List ℕ) (c : ℕ). ds ++ c ∷ [])
    (digits_within k j (n / 10) (omega arith) a (λ m. let b : 10 ^ j ≤ n / 10 = omega arith in b)) (digit_is (n % 10) (omega arith)))
  where
    positive : (j : ℕ) → 1 ≤ 10 ^ j
    positive zero = omega (arith, pow-suc 10 0)
    positive (suc j) = let r = positive j in omega (arith, pow-suc 10 j)

pub fewest_decimal : (n k : ℕ) → k ≤ 20 → IsDigitCount 10 1 n k → last_digits 10 k n ≡ decimal n
unfolding decimal
fewest_decimal n zero h f = absurd (not-suc-le-zero f.0)
fewest_decimal n (suc j) h f = digits_within 20 j n h f.1 (λ m. let e : suc j - 1 ≡ j = omega arith in subst (λ (i : ℕ). 10 ^ i ≤ n) e (f.2 m))

-- a number of 64 bits takes at most twenty digits
pub fewest_small : (n k : ℕ) → n < 18446744073709551616 → IsDigitCount 10 1 n k → k ≤ 20
fewest_small n k h f = by (dec_lt 20 k)
  where
    by : Dec (20 < k) → k ≤ 20
    by (yes l) =
        let p : 0 < 10 = omega arith in
        let i : 20 ≤ k - 1 = omega arith in
        let g : 10 ^ 20 ≤ 10 ^ (k - 1) = pow-le-pow_right p i in
        let q : 10 ^ 20 ≡ 100000000000000000000 = refl in
        let m = f.2 (omega arith) in
        absurd (omega arith)
    by (no l) = omega arith
