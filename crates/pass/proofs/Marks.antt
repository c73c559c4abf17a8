-- Marks: the first above 1, those of a buffer that was filled in part, and those that came for pieces after pieces.
-- Assumes nothing.
use mathlib.Core.Path.{◌≡◌, sym, ap, ◌∙◌}
use mathlib.Core.Bool.{Bool}
use mathlib.Core.List.{List, [], ◌∷◌, ◌++◌, append_assoc, append-nil}
use Prim.Native.Nat.{ℕ, zero, suc, ◌+◌, ◌-◌, ◌≤◌, ◌<◌}
use native.Mathlib.Decide.{dec_lt}
use native.Mathlib.Omega.{arith}
use borrow.Author.Tests.{lt-ltb, le-ltb}
use lib.ListN.{length, get_or, take, drop, replicate, length-append, length-replicate, drop_of_length-le}
use lib.Seq.{take_at, drop-cons, length-take-le}
use Rattle.common.specs.Choice.{pick}
use Rattle.common.specs.Lists.{Entries, padded}
use Rattle.common.proofs.Entries.{entries_append}
use Rattle.common.proofs.Lists.{zeros_at}
use Rattle.pass.specs.Pass.{first_above}

-- ---- the first above 1

next : (i : ℕ) → suc i ≡ i + 1
next i = omega arith

cons : (l : List ℕ) (i : ℕ) → i < length l → drop i l ≡ get_or l i 0 ∷ drop (i + 1) l
cons l i h = drop-cons l i 0 h ∙ ap (λ (k : ℕ). get_or l i 0 ∷ drop k l) (next i)

module _ (l : List ℕ) (i : ℕ) where
  pub above_here : i < length l → 1 < get_or l i 0 → first_above (drop i l) ≡ 0
  above_here h g = ap first_above (cons l i h) ∙ ap (λ (t : Bool). pick t 0 (suc (first_above (drop (i + 1) l)))) (lt-ltb _ _ g)

  pub above_later : i < length l → get_or l i 0 ≤ 1 → first_above (drop i l) ≡ suc (first_above (drop (i + 1) l))
  above_later h g = ap first_above (cons l i h) ∙ ap (λ (t : Bool). pick t 0 (suc (first_above (drop (i + 1) l)))) (le-ltb _ _ g)

  pub above_none : length l ≤ i → first_above (drop i l) ≡ 0
  above_none h = ap first_above (drop_of_length-le l {i = i} h)

-- after marks that are 0 or 1
pub above_after : (xs ys : List ℕ) → Entries (λ m. m < 2) xs → first_above (xs ++ ys) ≡ length xs + first_above ys
above_after [] ys e = start (first_above ys)
  where
    start : (n : ℕ) → n ≡ 0 + n
    start n = omega arith
above_after (x ∷ xs) ys e =
    let z = e 0 in
    let h = above_after xs ys (λ i. e (suc i)) in
    ap (λ (t : Bool). pick t 0 (suc (first_above (xs ++ ys)))) (le-ltb 1 x (omega (arith, z))) ∙ ap suc h ∙ more (length xs) (first_above ys)
  where
    more : (a b : ℕ) → suc (a + b) ≡ suc a + b
    more a b = omega arith

-- where none is above 1, all are 0 or 1
pub none_above : (ms : List ℕ) → length ms ≤ first_above ms → Entries (λ m. m < 2) ms
none_above [] h = λ i. omega arith
none_above (m ∷ ms) h = by (dec_lt 1 m) (λ l. none_above ms l)
  where
    by : Dec (1 < m) → (length ms ≤ first_above ms → Entries (λ x. x < 2) ms) → Entries (λ x. x < 2) (m ∷ ms)
    by (yes g) f =
        let z : first_above (m ∷ ms) ≡ 0 = ap (λ (t : Bool). pick t 0 (suc (first_above ms))) (lt-ltb 1 m g) in
        absurd (omega (arith, h, z))
    by (no g) f = at
      where
        z : first_above (m ∷ ms) ≡ suc (first_above ms)
        z = ap (λ (t : Bool). pick t 0 (suc (first_above ms))) (le-ltb 1 m (omega (arith, g)))

        at : Entries (λ x. x < 2) (m ∷ ms)
        at zero = omega (arith, g)
        at (suc i) = f (omega (arith, h, z)) i

-- ---- a buffer that was filled in part, and cleared

module _ (l : List ℕ) (m n : ℕ) (h : m ≤ n) (k : n ≤ length l) where
  abbrev cleared : List ℕ
  cleared = take m l ++ replicate (n - m) 0 ++ drop n l

  front : length (take m l) ≡ m
  front = length-take-le m l (omega arith)

  pub cleared_front : take m cleared ≡ take m l
  cleared_front = ap (take m) (append_assoc (take m l) (replicate (n - m) 0) (drop n l)) ∙ take_at (take m l) (replicate (n - m) 0 ++ drop n l) m front

  pub cleared_marks : take n cleared ≡ padded n (take m cleared)
  cleared_marks =
      take_at (take m l ++ replicate (n - m) 0) (drop n l) n
      (length-append (take m l) (replicate (n - m) 0) ∙ omega (arith, front, length-replicate {A = ℕ} (n - m) 0))
      ∙ ap (λ (j : ℕ). take m l ++ replicate (n - j) 0) (sym front)
      ∙ ap (padded n) (sym cleared_front)

-- ---- marks after marks

zeros_more : (a b : ℕ) → replicate {A = ℕ} a 0 ++ replicate b 0 ≡ replicate (a + b) 0
zeros_more zero b = let e : b ≡ zero + b = omega arith in ap (λ (k : ℕ). replicate k 0) e
zeros_more (suc a) b = ap (λ (l : List ℕ). 0 ∷ l) (zeros_more a b) ∙ ap (λ (k : ℕ). replicate k 0) (next_sum a b)
  where
    next_sum : (a b : ℕ) → suc (a + b) ≡ suc a + b
    next_sum a b = omega arith

-- one came for each byte so far
pub padded_on : (n k : ℕ) (came more : List ℕ) → length came ≡ n → length more ≤ k → padded n came ++ padded k more ≡ padded (n + k) (came ++ more)
padded_on n k came more e h =
    let z : n - length came ≡ 0 = omega arith in
    let j : k - length more ≡ n + k - length (came ++ more) = omega (arith, length-append came more) in
    ap (λ (i : ℕ). (came ++ replicate i 0) ++ padded k more) z ∙ ap (λ (l : List ℕ). l ++ padded k more) (append-nil came)
    ∙ sym (append_assoc came more (replicate (k - length more) 0)) ∙ ap (λ (i : ℕ). (came ++ more) ++ replicate i 0) j

-- they had ended
pub padded_ended : (n k : ℕ) (came : List ℕ) → length came ≤ n → padded n came ++ padded k [] ≡ padded (n + k) (came ++ [])
padded_ended n k came h =
    let j : n - length came + (k - 0) ≡ n + k - length (came ++ []) = omega (arith, length-append came []) in
    append_assoc came (replicate (n - length came) 0) (replicate (k - 0) 0)
    ∙ ap (λ (l : List ℕ). came ++ l) (zeros_more (n - length came) (k - 0) ∙ ap (λ (i : ℕ). replicate i 0) j)
    ∙ ap (λ (l : List ℕ). l ++ replicate (n + k - length (came ++ [])) 0) (sym (append-nil came))

-- marks with zeros after them
pub padded_entries : (n : ℕ) (came : List ℕ) → Entries (λ m. m < 2) came → Entries (λ m. m < 2) (padded n came)
padded_entries n came e = entries_append (λ m. m < 2) (omega arith) came (replicate (n - length came) 0) e (λ i. let z = zeros_at (n - length came) i in omega (arith, z))

pub padded_length : (n : ℕ) (came : List ℕ) → length came ≤ n → length (padded n came) ≡ n
padded_length n came h = length-append came (replicate (n - length came) 0) ∙ omega (arith, h, length-replicate {A = ℕ} (n - length came) 0)

pub padded_full : (came : List ℕ) → padded (length came) came ≡ came
padded_full came = let z : length came - length came ≡ 0 = omega arith in ap (λ (i : ℕ). came ++ replicate i 0) z ∙ append-nil came
