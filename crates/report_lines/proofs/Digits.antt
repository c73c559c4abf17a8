-- Decimals as lists of digits: a number is read back from them, and they end where a character is none.
-- Assumes nothing.
use mathlib.Core.Path.{◌≡◌, refl, sym, ap, ap₂, ◌∙◌, subst}
use mathlib.Core.List.{List, [], ◌∷◌, ◌++◌, append_assoc}
use Prim.Native.Nat.{ℕ, zero, suc, ◌+◌, ◌-◌, ◌*◌, ◌/◌, ◌%◌, ◌^◌, ◌≤◌, ◌<◌}
use native.Mathlib.Nat.{pow-suc}
use native.Mathlib.Decide.{dec_lt}
use native.Mathlib.Omega.{arith}
use borrow.Author.Tests.{lt-ltb, le-ltb}
use lib.ListN.{length, get_or, get_or-append, length-append}
use Rattle.common.specs.Lists.{All}
use Rattle.common.proofs.Lists.{All-append}
use Rattle.report_lines.specs.Line.{decimal_within, decimal, line_text}

abbrev pub Digit : ℕ → Type 0
Digit c = (48 ≤ c) × (c < 58)

-- the number that digits make, after those of v
abbrev pub value_from : ℕ → List ℕ → ℕ
value_from v [] = v
value_from v (c ∷ cs) = value_from (v * 10 + (c - 48)) cs

value_append : (v : ℕ) (xs ys : List ℕ) → value_from v (xs ++ ys) ≡ value_from (value_from v xs) ys
value_append v [] ys = refl
value_append v (x ∷ xs) ys = value_append (v * 10 + (x - 48)) xs ys

value_least : (v : ℕ) (xs : List ℕ) → v ≤ value_from v xs
value_least v [] = omega arith
value_least v (x ∷ xs) = let h = value_least (v * 10 + (x - 48)) xs in omega arith

-- ---- decimals

within_digits : (k n : ℕ) → All Digit (decimal_within k n)
unfolding decimal_within
within_digits zero n = tt
within_digits (suc k) n = by (dec_lt n 10) (within_digits k (n / 10))
  where
    by : Dec (n < 10) → All Digit (decimal_within k (n / 10)) → All Digit (decimal_within (suc k) n)
    by (yes h) r = rw (lt-ltb n 10 h) ((omega arith, omega arith), tt)
    by (no h) r = rw (le-ltb n 10 (omega arith)) (All-append Digit (decimal_within k (n / 10)) ((48 + n % 10) ∷ []) r ((omega arith, omega arith), tt))

within_value : (k n : ℕ) → n < 10 ^ k → value_from 0 (decimal_within k n) ≡ n
unfolding decimal_within
within_value zero n h = let p : 10 ^ 0 ≡ 1 = refl in omega arith
within_value (suc k) n h = by (dec_lt n 10) (within_value k (n / 10) (let p = pow-suc 10 k in omega arith))
  where
    by : Dec (n < 10) → value_from 0 (decimal_within k (n / 10)) ≡ n / 10 → value_from 0 (decimal_within (suc k) n) ≡ n
    by (yes l) r = rw (lt-ltb n 10 l) (omega arith)
    by (no l) r =
        rw (le-ltb n 10 (omega arith))
        (value_append 0 (decimal_within k (n / 10)) ((48 + n % 10) ∷ []) ∙ ap (λ (v : ℕ). v * 10 + (48 + n % 10 - 48)) r ∙ whole)
      where
        whole : n / 10 * 10 + (48 + n % 10 - 48) ≡ n
        whole = omega arith

-- a place more changes nothing, where there are enough
within_enough : (k n : ℕ) → n < 10 ^ suc k → decimal_within (suc k) n ≡ decimal_within (suc (suc k)) n
unfolding decimal_within
within_enough zero n h = let p : 10 ^ 1 ≡ 10 = refl in let l : n < 10 = omega arith in rw (lt-ltb n 10 l) refl
within_enough (suc k) n h = by (dec_lt n 10) (within_enough k (n / 10) (let p = pow-suc 10 (suc k) in omega arith))
  where
    by : Dec (n < 10) → decimal_within (suc k) (n / 10) ≡ decimal_within (suc (suc k)) (n / 10) → decimal_within (suc (suc k)) n ≡ decimal_within (suc (suc (suc k))) n
    by (yes l) r = rw (lt-ltb n 10 l) refl
    by (no l) r = rw (le-ltb n 10 (omega arith)) (ap (λ (ds : List ℕ). ds ++ (48 + n % 10) ∷ []) r)

-- the first digit of a number that is not zero
within_front : (k n : ℕ) → 1 ≤ n → n < 10 ^ k → (1 ≤ length (decimal_within k n)) × (49 ≤ get_or (decimal_within k n) 0 0)
unfolding decimal_within
within_front zero n e h = let p : 10 ^ 0 ≡ 1 = refl in absurd (omega arith)
within_front (suc k) n e h = by (dec_lt n 10) (λ l. within_front k (n / 10) (omega arith) (let p = pow-suc 10 k in omega arith))
  where
    by : Dec (n < 10) → (10 ≤ n → (1 ≤ length (decimal_within k (n / 10))) × (49 ≤ get_or (decimal_within k (n / 10)) 0 0))
        → (1 ≤ length (decimal_within (suc k) n)) × (49 ≤ get_or (decimal_within (suc k) n) 0 0)
    by (yes l) r = rw (lt-ltb n 10 l) (omega arith, omega arith)
    by (no l) r =
        let q = r (omega arith) in
        let a = length-append (decimal_within k (n / 10)) ((48 + n % 10) ∷ []) in
        let b = get_or-append (decimal_within k (n / 10)) ((48 + n % 10) ∷ []) 0 0 (omega (arith, q.0)) in
        rw (le-ltb n 10 (omega arith)) (omega (arith, q.0), omega (arith, q.1))

within_length : (k n : ℕ) → length (decimal_within k n) ≤ k
unfolding decimal_within
within_length zero n = omega arith
within_length (suc k) n = by (dec_lt n 10) (within_length k (n / 10))
  where
    by : Dec (n < 10) → length (decimal_within k (n / 10)) ≤ k → length (decimal_within (suc k) n) ≤ suc k
    by (yes l) r = rw (lt-ltb n 10 l) (omega arith)
    by (no l) r =
        let a = length-append (decimal_within k (n / 10)) ((48 + n % 10) ∷ []) in
        rw (le-ltb n 10 (omega arith)) (omega arith)

-- a line has at most twenty digits
pub line_short : (key : List ℕ) (v : ℕ) → length (line_text key v) ≤ length key + 21
unfolding line_text decimal
line_short key v =
    let a = length-append (key ++ decimal v) (0x0A ∷ []) in
    let b = length-append key (decimal v) in
    let c = within_length 20 v in
    omega arith

pub decimal_digits : (n : ℕ) → All Digit (decimal n)
unfolding decimal
decimal_digits n = within_digits 20 n

pub decimal_value : (n : ℕ) → n < 100000000000000000000 → value_from 0 (decimal n) ≡ n
unfolding decimal
decimal_value n h = within_value 20 n (let p : 10 ^ 20 ≡ 100000000000000000000 = refl in omega arith)

pub decimal_one : (d : ℕ) → d < 10 → decimal d ≡ (48 + d) ∷ []
unfolding decimal decimal_within
decimal_one d h = rw (lt-ltb d 10 h) refl

-- there is a digit
decimal_some : (n : ℕ) → 1 ≤ length (decimal n)
unfolding decimal decimal_within
decimal_some n = by (dec_lt n 10)
  where
    by : Dec (n < 10) → 1 ≤ length (decimal n)
    by (yes l) = rw (lt-ltb n 10 l) (omega arith)
    by (no l) = rw (le-ltb n 10 (omega arith)) (omega (arith, length-append (decimal_within 19 (n / 10)) ((48 + n % 10) ∷ [])))

decimal_front : (n : ℕ) → 1 ≤ n → n < 100000000000000000000 → (1 ≤ length (decimal n)) × (49 ≤ get_or (decimal n) 0 0)
unfolding decimal
decimal_front n e h = within_front 20 n e (let p : 10 ^ 20 ≡ 100000000000000000000 = refl in omega arith)

pub decimal_more : (v d : ℕ) → 1 ≤ v → d < 10 → v < 10000000000000000000 → decimal (v * 10 + d) ≡ decimal v ++ (48 + d) ∷ []
unfolding decimal decimal_within
decimal_more v d e h l =
    let q : (v * 10 + d) / 10 ≡ v = omega arith in
    let r : (v * 10 + d) % 10 ≡ d = omega arith in
    let p : 10 ^ 19 ≡ 10000000000000000000 = refl in
    rw (le-ltb (v * 10 + d) 10 (omega arith))
    (ap₂ (λ (n m : ℕ). decimal_within 19 n ++ (48 + m) ∷ []) q r ∙ ap (λ (ds : List ℕ). ds ++ (48 + d) ∷ []) (within_enough 18 v (omega arith)))

-- ---- digits up to a character that is none

module _ (e : ℕ) (y : List ℕ) (other : Digit e → ⊥) where
  -- they do not go on to the end of digits
  digits_short : (a b : List ℕ) → All Digit a → a ≡ b ++ e ∷ y → ⊥
  digits_short [] [] h q = let z : ◌≡◌ {A = ℕ} 0 1 = cc in omega arith
  digits_short [] (b ∷ bs) h q = let z : ◌≡◌ {A = ℕ} 0 1 = cc in omega arith
  digits_short (a ∷ l) [] h q = let s : a ≡ e = cc in other (subst Digit s h.0)
  digits_short (a ∷ l) (b ∷ bs) h q = digits_short l bs h.1 (cc)

  -- two ways to end
  digits_end : (c : ℕ) (x : List ℕ) → (Digit c → ⊥) → (a b : List ℕ) → All Digit a → All Digit b → a ++ c ∷ x ≡ b ++ e ∷ y
      → (a ≡ b) × (c ≡ e) × (x ≡ y)
  digits_end c x n [] [] h k q = (refl, cc, cc)
  digits_end c x n [] (b ∷ bs) h k q = let s : b ≡ c = cc in absurd (n (subst Digit s k.0))
  digits_end c x n (a ∷ l) [] h k q = let s : a ≡ e = cc in absurd (other (subst Digit s h.0))
  digits_end c x n (a ∷ l) (b ∷ bs) h k q =
      let s : a ≡ b = cc in
      let r = digits_end c x n l bs h.1 k.1 (cc) in
      (ap₂ (λ (m : ℕ) (ms : List ℕ). m ∷ ms) s r.0, r.1, r.2)

  -- digits that go on
  digits_on : (c : ℕ) (x : List ℕ) → Digit c → (a b : List ℕ) → All Digit a → All Digit b → a ++ c ∷ x ≡ b ++ e ∷ y
      → (more : List ℕ) × (b ≡ a ++ c ∷ more)
  digits_on c x d [] [] h k q = let s : c ≡ e = cc in absurd (other (subst Digit s d))
  digits_on c x d [] (b ∷ bs) h k q = let s : b ≡ c = cc in (bs, ap (λ (m : ℕ). m ∷ bs) s)
  digits_on c x d (a ∷ l) [] h k q = let s : a ≡ e = cc in absurd (other (subst Digit s h.0))
  digits_on c x d (a ∷ l) (b ∷ bs) h k q =
      let s : b ≡ a = cc in
      let r = digits_on c x d l bs h.1 k.1 (cc) in
      (r.0, ap₂ (λ (m : ℕ) (ms : List ℕ). m ∷ ms) s r.1)

feed : Digit 0x0A → ⊥
feed d = omega (arith, d.0)

-- ---- a number and its line feed

number_unique : (v w : ℕ) (x y : List ℕ) → v < 100000000000000000000 → w < 100000000000000000000
    → decimal v ++ 0x0A ∷ x ≡ decimal w ++ 0x0A ∷ y → (v ≡ w) × (x ≡ y)
number_unique v w x y h k q =
    let r = digits_end 0x0A y feed 0x0A x feed (decimal v) (decimal w) (decimal_digits v) (decimal_digits w) q in
    (sym (decimal_value v h) ∙ ap (value_from 0) r.0 ∙ decimal_value w k, r.2)

pub append_unique : (p x y : List ℕ) → p ++ x ≡ p ++ y → x ≡ y
append_unique [] x y q = q
append_unique (a ∷ p) x y q = append_unique p x y (cc)

pub line_joined : (key : List ℕ) (v : ℕ) (x : List ℕ) → line_text key v ++ x ≡ key ++ decimal v ++ 0x0A ∷ x
unfolding line_text
line_joined key v x = simp append_assoc

pub line_unique : (key : List ℕ) (v w : ℕ) (x y : List ℕ) → v < 100000000000000000000 → w < 100000000000000000000
    → line_text key v ++ x ≡ line_text key w ++ y → (v ≡ w) × (x ≡ y)
line_unique key v w x y h k q =
    number_unique v w x y h k
    (append_unique key (decimal v ++ 0x0A ∷ x) (decimal w ++ 0x0A ∷ y)
    (sym (line_joined key v x ∙ append_assoc key (decimal v) (0x0A ∷ x)) ∙ q ∙ line_joined key w y ∙ append_assoc key (decimal w) (0x0A ∷ y)))

-- ---- what is no number

-- a text that goes on with a character that is neither a digit nor a line feed, or ends
pub no_number_other : (t p x : List ℕ) (c w : ℕ) (rest : List ℕ) → All Digit p → (Digit c → ⊥) → (c ≡ 0x0A → ⊥) → t ≡ p ++ c ∷ x
    → t ≡ decimal w ++ 0x0A ∷ rest → ⊥
no_number_other t p x c w rest h n m q r = m (digits_end 0x0A rest feed c x n p (decimal w) h (decimal_digits w) (sym q ∙ r)).1

pub no_number_end : (t p : List ℕ) (w : ℕ) (rest : List ℕ) → All Digit p → t ≡ p → t ≡ decimal w ++ 0x0A ∷ rest → ⊥
no_number_end t p w rest h q r = digits_short 0x0A rest feed p (decimal w) h (sym q ∙ r)

-- a text that does not begin with a digit
pub no_number_first : (t x : List ℕ) (c w : ℕ) (rest : List ℕ) → (Digit c → ⊥) → t ≡ c ∷ x → t ≡ decimal w ++ 0x0A ∷ rest → ⊥
no_number_first t x c w rest n q r =
    let e : [] ≡ decimal w = (digits_end 0x0A rest feed c x n [] (decimal w) tt (decimal_digits w) (sym q ∙ r)).0 in
    let l : 0 ≡ length (decimal w) = ap length e in
    omega (arith, decimal_some w)

-- a text whose digits already make more than the limit
pub no_number_large : (t p x : List ℕ) (c w : ℕ) (rest : List ℕ) → All Digit p → Digit c → t ≡ p ++ c ∷ x → w < 100000000000000000000
    → w < value_from 0 p * 10 + (c - 48) → t ≡ decimal w ++ 0x0A ∷ rest → ⊥
no_number_large t p x c w rest h d q k l r =
    let s = digits_on 0x0A rest feed c x d p (decimal w) h (decimal_digits w) (sym q ∙ r) in
    let e : w ≡ value_from (value_from 0 p * 10 + (c - 48)) s.0
    = sym (decimal_value w k) ∙ ap (value_from 0) s.1 ∙ value_append 0 p (c ∷ s.0) in
    omega (arith, value_least (value_from 0 p * 10 + (c - 48)) s.0)

-- a text with a digit after a leading zero
pub no_number_zero : (t x : List ℕ) (c w : ℕ) (rest : List ℕ) → Digit c → t ≡ 48 ∷ c ∷ x → w < 100000000000000000000
    → t ≡ decimal w ++ 0x0A ∷ rest → ⊥
no_number_zero t x c w rest d q k r = by (dec_lt 0 w)
  where
    by : Dec (0 < w) → ⊥
    by (yes l) =
        let f = decimal_front w (omega arith) k in
        let g = get_or-append (decimal w) (0x0A ∷ rest) 0 0 (omega (arith, f.0)) in
        let e : get_or t 0 0 ≡ 48 = ap (λ (l : List ℕ). get_or l 0 0) q in
        let i : get_or t 0 0 ≡ get_or (decimal w ++ 0x0A ∷ rest) 0 0 = ap (λ (l : List ℕ). get_or l 0 0) r in
        omega (arith, f.1)
    by (no l) =
        let z : w ≡ 0 = omega arith in
        let e : 48 ∷ c ∷ x ≡ 48 ∷ 0x0A ∷ rest
        = sym q ∙ r ∙ ap (λ (n : ℕ). decimal n ++ 0x0A ∷ rest) z ∙ ap (λ (l : List ℕ). l ++ 0x0A ∷ rest) (decimal_one 0 (omega arith)) in
        let s : c ≡ 0x0A = cc in
        omega (arith, d.0)
