-- The bytes of one block are at least twelve received bytes apart and lie within 2,448: so at most eight of them are within 96.
-- Assumes nothing.
use mathlib.Core.Path.{◌≡◌, refl, sym, ap₂, ◌∙◌, subst}
use mathlib.Core.Bool.{Bool, true, false}
use mathlib.Core.Logic.{◌⊎◌, inl, inr}
use Prim.Native.Nat.{ℕ, zero, suc, ◌+◌, ◌-◌, ◌*◌, ◌/◌, ◌%◌, ◌≤◌, ◌<◌}
use native.Mathlib.Nat.{not-suc-le-zero}
use native.Mathlib.Decide.{ℕ_discrete, dec_lt}
use native.Mathlib.Omega.{arith}
use borrow.Author.Tests.{eq-eqb, ne_eqb, lt-ltb, le-ltb}
use lib.Dec.{eqb}
use Rattle.common.specs.Choice.{pick}
use Rattle.interleaver.specs.Gathered.{place_in}
use Rattle.link.specs.Places.{burst_length, how_many, inside, Spread}

-- ---- counting

false_true : {A : Type 0} → ◌≡◌ {A = Bool} false true → A
false_true z = absurd (let q : ◌≡◌ {A = ℕ} 0 1 = cc in omega arith)

pub count_same : (v w : ℕ → Bool) (n : ℕ) → ((i : ℕ) → i < n → v i ≡ w i) → how_many v n ≡ how_many w n
count_same v w zero h = refl
count_same v w (suc n) h = ap₂ (λ (a : ℕ) (t : Bool). a + pick t 1 0) (count_same v w n (λ i l. h i (omega arith))) (h n (omega arith))

module _ (w : ℕ → Bool) where
  count_none : (n : ℕ) → ((i : ℕ) → i < n → w i ≡ false) → how_many w n ≡ 0
  count_none zero h = refl
  count_none (suc n) h = rw (h n (omega arith)) (omega (arith, count_none n (λ i l. h i (omega arith))))

  -- at most one passes
  count_one : (n : ℕ) → ((i j : ℕ) → i < n → j < n → w i ≡ true → w j ≡ true → i ≡ j) → how_many w n ≤ 1
  count_one zero h = omega arith
  count_one (suc n) h = by (w n) refl (count_one n (λ i j k l. h i j (omega arith) (omega arith)))
    where
      none : w n ≡ true → (i : ℕ) → i < n → (t : Bool) → w i ≡ t → w i ≡ false
      none e i l false f = f
      none e i l true f = let q : i ≡ n = h i n (omega arith) (omega arith) f e in absurd (omega arith)

      by : (t : Bool) → w n ≡ t → how_many w n ≤ 1 → how_many w n + pick (w n) 1 0 ≤ 1
      by false e r = rw e (omega arith)
      by true e r = rw e (omega (arith, count_none n (λ i l. none e i l (w i) refl)))

-- those of a class, and the others
abbrev in_class : (ℕ → Bool) → (ℕ → ℕ) → ℕ → ℕ → Bool
in_class w c k i = pick (w i) (eqb (c i) k) false

abbrev out_class : (ℕ → Bool) → (ℕ → ℕ) → ℕ → ℕ → Bool
out_class w c k i = pick (w i) (pick (eqb (c i) k) false true) false

split_one : (t u : Bool) → pick t 1 0 ≡ pick (pick t u false) 1 0 + pick (pick t (pick u false true) false) 1 0
split_one false u = refl
split_one true true = refl
split_one true false = refl

count_split : (w : ℕ → Bool) (c : ℕ → ℕ) (k n : ℕ) → how_many w n ≡ how_many (in_class w c k) n + how_many (out_class w c k) n
count_split w c k zero = refl
count_split w c k (suc n) = omega (arith, count_split w c k n, split_one (w n) (eqb (c n) k))

in_class_lem : (t : Bool) (x k : ℕ) → pick t (eqb x k) false ≡ true → (t ≡ true) × (x ≡ k)
in_class_lem false x k e = false_true e
in_class_lem true x k e = by (ℕ_discrete x k)
  where
    by : Dec (x ≡ k) → (true ≡ true) × (x ≡ k)
    by (yes f) = (refl, f)
    by (no f) = false_true (sym (ne_eqb x k f) ∙ e)

out_class_lem : (t : Bool) (x k : ℕ) → pick t (pick (eqb x k) false true) false ≡ true → (t ≡ true) × (x ≡ k → ⊥)
out_class_lem false x k e = false_true e
out_class_lem true x k e = (refl, λ f. apart f)
  where
    apart : x ≡ k → ⊥
    apart f = let z : ◌≡◌ {A = Bool} false true = rw (eq-eqb x k f) at e in false_true z

-- where each that passes is in one of k classes and no two are in one, at most k pass
count_classes : (k : ℕ) (w : ℕ → Bool) (c : ℕ → ℕ) (n : ℕ) → ((i : ℕ) → i < n → w i ≡ true → c i < k)
    → ((i j : ℕ) → i < n → j < n → w i ≡ true → w j ≡ true → c i ≡ c j → i ≡ j) → how_many w n ≤ k
count_classes zero w c n h d = omega (arith, count_none w n (λ i l. none i l (w i) refl))
  where
    none : (i : ℕ) → i < n → (t : Bool) → w i ≡ t → w i ≡ false
    none i l false e = e
    none i l true e = absurd (not-suc-le-zero (h i l e))
count_classes (suc k) w c n h d =
    omega (
      arith,
      count_split w c k n,
      count_one (in_class w c k) n (λ i j l m e f. both i j l m (in_class_lem (w i) (c i) k e) (in_class_lem (w j) (c j) k f)),
      count_classes k (out_class w c k) c n (λ i l e. less i l (out_class_lem (w i) (c i) k e))
          (λ i j l m e f q. d i j l m (out_class_lem (w i) (c i) k e).0 (out_class_lem (w j) (c j) k f).0 q),
    )
  where
    both : (i j : ℕ) → i < n → j < n → (w i ≡ true) × (c i ≡ k) → (w j ≡ true) × (c j ≡ k) → i ≡ j
    both i j l m e f = d i j l m e.0 f.0 (e.1 ∙ sym f.1)

    less : (i : ℕ) → i < n → (w i ≡ true) × (c i ≡ k → ⊥) → c i < k
    less i l e = let a = h i l e.0 in let b = e.1 in omega arith

-- ---- no two closer than twelve places: by branch and place in it

later_branch : (i j k l : ℕ) → k < 17 → l < 17 → i < j → 205 * i + 12 * k + 12 ≤ 205 * j + 12 * l
later_branch i j k l a b h = omega arith

branch_place : (p n : ℕ) → place_in p n ≡ 204 * p + (205 * (n % 12) + 12 * (n / 12))
branch_place p n = omega arith

near_branch : (i j k l : ℕ) → k < 17 → l < 17 → 205 * i + 12 * k < 205 * j + 12 * l + 12 → 205 * j + 12 * l < 205 * i + 12 * k + 12 → i ≡ j
near_branch i j k l a b u v = by (dec_lt i j) (dec_lt j i)
  where
    by : Dec (i < j) → Dec (j < i) → i ≡ j
    by (yes c) d = absurd (omega (arith, later_branch i j k l a b c))
    by (no c) (yes d) = absurd (omega (arith, later_branch j i l k b a d))
    by (no c) (no d) = omega arith

same_place : (i k l : ℕ) → 205 * i + 12 * k < 205 * i + 12 * l + 12 → 205 * i + 12 * l < 205 * i + 12 * k + 12 → k ≡ l
same_place i k l u v = omega arith

put_together : (n m : ℕ) → n % 12 ≡ m % 12 → n / 12 ≡ m / 12 → n ≡ m
put_together n m e f = omega arith

few : (n : ℕ) → n < 204 → n / 12 < 17
few n h = omega arith

place_apart : (p n m : ℕ) → n < 204 → m < 204 → place_in p n < place_in p m + 12 → place_in p m < place_in p n + 12 → n ≡ m
place_apart p n m h k a b = go (rw (branch_place p n, branch_place p m) at a) (rw (branch_place p n, branch_place p m) at b)
  where
    go : 204 * p + (205 * (n % 12) + 12 * (n / 12)) < 204 * p + (205 * (m % 12) + 12 * (m / 12)) + 12
        → 204 * p + (205 * (m % 12) + 12 * (m / 12)) < 204 * p + (205 * (n % 12) + 12 * (n / 12)) + 12 → n ≡ m
    go u v =
        let e : n % 12 ≡ m % 12 = near_branch (n % 12) (m % 12) (n / 12) (m / 12) (few n h) (few m k) (shorter p _ _ u) (shorter p _ _ v) in
        put_together n m e
        (same_place (m % 12) (n / 12) (m / 12)
        (subst (λ (i : ℕ). 205 * i + 12 * (n / 12) < 205 * (m % 12) + 12 * (m / 12) + 12) e (shorter p _ _ u))
        (subst (λ (i : ℕ). 205 * (m % 12) + 12 * (m / 12) < 205 * i + 12 * (n / 12) + 12) e (shorter p _ _ v)))
      where
        shorter : (p x y : ℕ) → 204 * p + x < 204 * p + y + 12 → x < y + 12
        shorter p x y w = omega arith

-- ---- so at most eight of them within a burst

abbrev pub Held : ℕ → ℕ → ℕ → Type 0
Held p start n = (start ≤ place_in p n) × (place_in p n < start + burst_length)

-- also of those that pass a test
pub count_burst : (p start : ℕ) (w : ℕ → Bool) → ((n : ℕ) → n < 204 → w n ≡ true → Held p start n) → how_many w 204 ≤ 8
count_burst p start w h =
    count_classes 8 w (λ n. (place_in p n - start) / 12) 204
    (λ n l e. low n (h n l e))
    (λ n m l k e f q. same n m l k (h n l e) (h m k f) q)
  where
    low : (n : ℕ) → Held p start n → (place_in p n - start) / 12 < 8
    low n a = let x = a.0 in let y = a.1 in omega arith

    near : (x y : ℕ) → start ≤ x → start ≤ y → (x - start) / 12 ≡ (y - start) / 12 → x < y + 12
    near x y a b q = omega arith

    same : (n m : ℕ) → n < 204 → m < 204 → Held p start n → Held p start m
        → (place_in p n - start) / 12 ≡ (place_in p m - start) / 12 → n ≡ m
    same n m l k a b q =
        place_apart p n m l k (near (place_in p n) (place_in p m) a.0 b.0 q) (near (place_in p m) (place_in p n) b.0 a.0 (sym q))

inside_held : (start many i : ℕ) → inside start many i ≡ true → (start ≤ i) × (i < start + many)
inside_held start many i e = by (dec_lt i start) (dec_lt i (start + many))
  where
    by : Dec (i < start) → Dec (i < start + many) → (start ≤ i) × (i < start + many)
    by (yes l) d = let z : ◌≡◌ {A = Bool} false true = rw (lt-ltb i start l) at e in false_true z
    by (no l) (yes k) = (omega arith, k)
    by (no l) (no k) =
        let z : ◌≡◌ {A = Bool} false true = rw (le-ltb i start (omega arith), le-ltb i (start + many) (omega arith)) at e in false_true z

-- ---- where the bytes of a block lie

pub spread : (p : ℕ) → Spread p
spread p = record {
  ordered = λ k h. omega arith;
  within = λ n h. (omega arith, omega arith);
  begins = omega arith;
  ends = omega arith;
  apart = λ n k h l d. by n k h l d (dec_lt (place_in p n) (place_in p k + 12)) (dec_lt (place_in p k) (place_in p n + 12));
  eight = λ start. count_burst p start (λ n. inside start burst_length (place_in p n)) (λ n h e. inside_held start burst_length (place_in p n) e);
}
  where
    by : (n k : ℕ) → n < 204 → k < 204 → (n ≡ k → ⊥) → Dec (place_in p n < place_in p k + 12) → Dec (place_in p k < place_in p n + 12)
        → (place_in p n + 12 ≤ place_in p k) ⊎ (place_in p k + 12 ≤ place_in p n)
    by n k h l d (yes a) (yes b) = absurd (d (place_apart p n k h l a b))
    by n k h l d (no a) b = inr (omega arith)
    by n k h l d (yes a) (no b) = inl (omega arith)
