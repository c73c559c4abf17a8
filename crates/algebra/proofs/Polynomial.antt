-- Values of sums and products of polynomials, division by x + c, and the number of roots.
-- Assumes nothing.
use mathlib.Core.Path.{◌≡◌, refl, sym, ap, ap₂, ◌∙◌}
use mathlib.Core.List.{List, [], ◌∷◌, ◌++◌}
use Prim.Native.Nat.{ℕ, zero, suc, ◌≤◌, ◌<◌, max}
use Prim.Native.Nat.{◌+◌ as ◌+ℕ◌}
use native.Mathlib.Decide.{dec_lt}
use native.Mathlib.Nat.{not-suc-le-zero, le_of_suc-le-suc}
use native.Mathlib.Omega.{arith}
use lib.ListN.{length, get_or, take, drop, length-map}
use Prim.{tt}
use Rattle.algebra.specs.Field.{Field, ops}
use Rattle.algebra.specs.Polynomial.{power, eval, plus, scale, product}
use Rattle.algebra.proofs.Ring.{ring, cancel, eq_of_add, add_eq_zero, mul_ne, add_zero, mul_zero, zero_add, zero_mul}
use Rattle.common.specs.Lists.{All}
use Rattle.common.proofs.Lists.{All-each, All-map, All-zip}
use Rattle.algebra.proofs.Lists.{Away, Distinct}

module _ (K : Field) where
  open K use {F, add as ◌+◌, mul as ◌*◌, 𝟘, 𝟙, inv}

  infixl 65 ◌+◌
  infixl 70 ◌*◌
  -- Each ring identity is a lemma of its own: a clause that has `simp ring` beside a recursive call is not confirmed (the order that `simp` sorts by differs).
  plus_step : (a b x u v : F) → (a + b) + x * (u + v) ≡ (a + x * u) + (b + x * v)
  plus_step a b x u v = simp ring

  pub eval_plus : (p q : List F) (x : F) → eval (ops K) (plus (ops K) p q) x ≡ eval (ops K) p x + eval (ops K) q x
  unfolding eval plus
  eval_plus [] q x = sym (zero_add K (eval (ops K) q x))
  eval_plus (a ∷ p) [] x = sym (add_zero K (a + x * eval (ops K) p x))
  eval_plus (a ∷ p) (b ∷ q) x = ap (λ y. (a + b) + x * y) (eval_plus p q x) ∙ plus_step a b x (eval (ops K) p x) (eval (ops K) q x)

  -- d + (x + c) p
  unfoldable pub times_linear_from : F → F → List F → List F
  times_linear_from c d [] = d ∷ []
  times_linear_from c d (a ∷ p) = (d + c * a) ∷ times_linear_from c a p

  abbrev pub times_linear : F → List F → List F
  times_linear c p = times_linear_from c 𝟘 p

  times_linear_nil : (c d x : F) → d + x * 𝟘 ≡ d + (x + c) * 𝟘
  times_linear_nil c d x = simp ring

  times_linear_step : (c d a x u : F) → (d + c * a) + x * (a + (x + c) * u) ≡ d + (x + c) * (a + x * u)
  times_linear_step c d a x u = simp ring

  eval_times_linear_from : (c d : F) (p : List F) (x : F) → eval (ops K) (times_linear_from c d p) x ≡ d + (x + c) * eval (ops K) p x
  unfolding eval times_linear_from
  eval_times_linear_from c d [] x = times_linear_nil c d x
  eval_times_linear_from c d (a ∷ p) x = ap (λ y. (d + c * a) + x * y) (eval_times_linear_from c a p x) ∙ times_linear_step c d a x (eval (ops K) p x)

  pub eval_times_linear : (c : F) (p : List F) (x : F) → eval (ops K) (times_linear c p) x ≡ (x + c) * eval (ops K) p x
  eval_times_linear c p x = eval_times_linear_from c 𝟘 p x ∙ zero_add K ((x + c) * eval (ops K) p x)

  pub length_times_linear_from : (c d : F) (p : List F) → length (times_linear_from c d p) ≡ suc (length p)
  unfolding times_linear_from
  length_times_linear_from c d [] = refl
  length_times_linear_from c d (a ∷ p) = ap suc (length_times_linear_from c a p)

  -- the values at c of the list and of what is left after each coefficient: Horner's steps
  unfoldable pub horner : F → List F → List F
  horner c [] = []
  horner c (a ∷ p) = eval (ops K) (a ∷ p) c ∷ horner c p

  unfoldable pub quotient : F → List F → List F
  quotient c [] = []
  quotient c (a ∷ p) = horner c p

  length_horner : (c : F) (p : List F) → length (horner c p) ≡ length p
  unfolding horner
  length_horner c [] = refl
  length_horner c (a ∷ p) = ap suc (length_horner c p)

  horner_at : (c : F) (p : List F) (k : ℕ) → k < length p → get_or (horner c p) k 𝟘 ≡ eval (ops K) (drop k p) c
  unfolding horner
  horner_at c [] k h = absurd (not-suc-le-zero h)
  horner_at c (a ∷ p) zero h = refl
  horner_at c (a ∷ p) (suc k) h = horner_at c p k (le_of_suc-le-suc h)

  -- the coefficients of the quotient by x + c are the values at c of what is left
  pub quotient_at : (c : F) (p : List F) (k : ℕ) → suc k < length p → get_or (quotient c p) k 𝟘 ≡ eval (ops K) (drop (suc k) p) c
  unfolding quotient
  quotient_at c [] k h = absurd (not-suc-le-zero h)
  quotient_at c (a ∷ p) k h = horner_at c p k (le_of_suc-le-suc h)

  pub length_quotient : (c : F) (p : List F) (n : ℕ) → length p ≡ suc n → length (quotient c p) ≡ n
  unfolding quotient
  length_quotient c [] n h = absurd (omega arith)
  length_quotient c (a ∷ p) n h = length_horner c p ∙ omega arith

  div_nil : (c x : F) → 𝟘 ≡ (x + c) * 𝟘 + 𝟘
  div_nil c x = simp ring

  div_one : (c a x : F) → a + x * 𝟘 ≡ (x + c) * 𝟘 + (a + c * 𝟘)
  div_one c a x = simp ring

  div_step : (c a x q r : F) → a + x * ((x + c) * q + r) ≡ (x + c) * (r + x * q) + (a + c * r)
  div_step c a x q r = simp ring

  pub division : (c : F) (p : List F) (x : F) → eval (ops K) p x ≡ (x + c) * eval (ops K) (quotient c p) x + eval (ops K) p c
  unfolding eval quotient horner
  division c [] x = div_nil c x
  division c (a ∷ []) x = div_one c a x
  division c (a ∷ b ∷ p) x = ap (λ y. a + x * y) (division c (b ∷ p) x) ∙ div_step c a x (eval (ops K) (horner c p) x) (eval (ops K) (b ∷ p) c)

  -- all coefficients are zero
  abbrev pub Zero : List F → Type 0
  Zero p = All (λ a. a ≡ 𝟘) p

  zero_step : (a x u : F) → u ≡ 𝟘 → a + x * u ≡ a
  zero_step a x u h = simp (ring, h)

  eval_Zero : (p : List F) (x : F) → Zero p → eval (ops K) p x ≡ 𝟘
  unfolding eval
  eval_Zero [] x h = refl
  eval_Zero (a ∷ p) x h = zero_step a x (eval (ops K) p x) (eval_Zero p x h.1) ∙ h.0

  head_Zero : (a x : F) (p : List F) → Zero p → eval (ops K) (a ∷ p) x ≡ 𝟘 → a ≡ 𝟘
  unfolding eval
  head_Zero a x p k h = sym (zero_step a x (eval (ops K) p x) (eval_Zero p x k)) ∙ h

  horner_Zero : (c : F) (p : List F) → Zero (horner c p) → Zero p
  unfolding horner
  horner_Zero c [] h = tt
  horner_Zero c (a ∷ p) h = (head_Zero a c p (horner_Zero c p h.1) h.0, horner_Zero c p h.1)

  -- a root of p other than c is a root of the quotientient by x + c, if c is a root
  quotient_root : (c a : F) (p : List F) (x : F) → eval (ops K) (a ∷ p) c ≡ 𝟘 → (x ≡ c → ⊥) → eval (ops K) (a ∷ p) x ≡ 𝟘 → eval (ops K) (horner c p) x ≡ 𝟘
  unfolding quotient
  quotient_root c a p x hc n hx = cancel K (x + c) (eval (ops K) (horner c p) x) (λ e. n (eq_of_add K x c e))
      (sym (add_zero K _) ∙ ap (λ y. (x + c) * eval (ops K) (horner c p) x + y) (sym hc) ∙ sym (division c (a ∷ p) x) ∙ hx)

  -- (B) fewer coefficients than roots: all zero
  root_bound : (xs : List F) (p : List F) → length p ≤ length xs → Distinct xs → All (λ x. eval (ops K) p x ≡ 𝟘) xs → Zero p
  root_bound [] [] l d r = tt
  root_bound [] (a ∷ p) l d r = absurd (not-suc-le-zero l)
  root_bound (x ∷ xs) [] l d r = tt
  root_bound (x ∷ xs) (a ∷ p) l d r =
      let z : Zero p = horner_Zero x p (root_bound xs (horner x p) (omega (arith, length_horner x p)) d.1
      (All-zip (λ y. y ≡ x → ⊥) (λ y. eval (ops K) (a ∷ p) y ≡ 𝟘) (λ y. eval (ops K) (horner x p) y ≡ 𝟘) (λ y n h. quotient_root x a p y r.0 n h) xs d.0 r.1)) in
      (head_Zero a x p z r.0, z)

  -- Π (x + r)
  unfoldable pub from_roots : List F → List F
  from_roots [] = 𝟙 ∷ []
  from_roots (r ∷ rs) = times_linear r (from_roots rs)

  pub length_from_roots : (rs : List F) → length (from_roots rs) ≡ suc (length rs)
  unfolding from_roots
  length_from_roots [] = refl
  length_from_roots (r ∷ rs) = length_times_linear_from r 𝟘 (from_roots rs) ∙ ap suc (length_from_roots rs)

  pub from_roots_root_self : (r x : F) (rs : List F) → x ≡ r → eval (ops K) (from_roots (r ∷ rs)) x ≡ 𝟘
  unfolding from_roots
  from_roots_root_self r x rs e = eval_times_linear r (from_roots rs) x ∙ at_root x r _ e
    where
      at_root : (x r u : F) → x ≡ r → (x + r) * u ≡ 𝟘
      at_root x r u e = rw e (simp ring)

  pub from_roots_root_more : (r : F) (rs : List F) (x : F) → eval (ops K) (from_roots rs) x ≡ 𝟘 → eval (ops K) (from_roots (r ∷ rs)) x ≡ 𝟘
  unfolding from_roots
  from_roots_root_more r rs x h = eval_times_linear r (from_roots rs) x ∙ ap (λ u. (x + r) * u) h ∙ mul_zero K (x + r)

  pub from_roots_roots : (rs : List F) → All (λ x. eval (ops K) (from_roots rs) x ≡ 𝟘) rs
  from_roots_roots [] = tt
  from_roots_roots (r ∷ rs) = (from_roots_root_self r r rs refl, All-map _ _ (from_roots_root_more r rs) rs (from_roots_roots rs))

  from_roots_nil : (x : F) → 𝟙 + x * 𝟘 ≡ 𝟙
  from_roots_nil x = simp ring

  pub from_roots_ne : (rs : List F) (x : F) → Away x rs → eval (ops K) (from_roots rs) x ≡ 𝟘 → ⊥
  unfolding from_roots eval
  from_roots_ne [] x a h = K.one·ne·zero (sym (from_roots_nil x) ∙ h)
  from_roots_ne (r ∷ rs) x a h = mul_ne K (x + r) (eval (ops K) (from_roots rs) x) (λ e. a.0 (sym (eq_of_add K x r e))) (from_roots_ne rs x a.1) (sym (eval_times_linear r (from_roots rs) x) ∙ h)

  -- ---- products

  linear_step : (c x : F) → c + x * (𝟙 + x * 𝟘) ≡ x + c
  linear_step c x = simp ring

  pub eval_linear : (c x : F) → eval (ops K) (c ∷ 𝟙 ∷ []) x ≡ x + c
  unfolding eval
  eval_linear c x = linear_step c x

  append_nil_step : (x u : F) → u ≡ 𝟘 + 𝟙 * u
  append_nil_step x u = simp ring

  append_step : (a x u v w : F) → a + x * (u + v * w) ≡ (a + x * u) + (x * v) * w
  append_step a x u v w = simp ring

  -- p, and then q from the power x^(length p) on
  pub eval_append : (p q : List F) (x : F) → eval (ops K) (p ++ q) x ≡ eval (ops K) p x + power (ops K) x (length p) * eval (ops K) q x
  unfolding eval power
  eval_append [] q x = append_nil_step x (eval (ops K) q x)
  eval_append (a ∷ p) q x = ap (λ y. a + x * y) (eval_append p q x) ∙ append_step a x (eval (ops K) p x) (power (ops K) x (length p)) (eval (ops K) q x)

  scale_step : (c a x u : F) → c * a + x * (c * u) ≡ c * (a + x * u)
  scale_step c a x u = simp ring

  pub eval_scale : (c : F) (p : List F) (x : F) → eval (ops K) (scale (ops K) c p) x ≡ c * eval (ops K) p x
  unfolding eval scale
  eval_scale c [] x = sym (mul_zero K c)
  eval_scale c (a ∷ p) x = ap (λ y. c * a + x * y) (eval_scale c p x) ∙ scale_step c a x (eval (ops K) p x)

  product_step : (a x u v : F) → a * v + (𝟘 + x * (u * v)) ≡ (a + x * u) * v
  product_step a x u v = simp ring

  pub eval_product : (p q : List F) (x : F) → eval (ops K) (product (ops K) p q) x ≡ eval (ops K) p x * eval (ops K) q x
  unfolding eval product
  eval_product [] q x = sym (zero_mul K _)
  eval_product (a ∷ p) q x =
      eval_plus (scale (ops K) a q) (𝟘 ∷ product (ops K) p q) x
      ∙ ap (λ y. y + (𝟘 + x * eval (ops K) (product (ops K) p q) x)) (eval_scale a q x)
      ∙ ap (λ y. a * eval (ops K) q x + (𝟘 + x * y)) (eval_product p q x)
      ∙ product_step a x (eval (ops K) p x) (eval (ops K) q x)

  pub length_plus_max : (p q : List F) → length (plus (ops K) p q) ≡ max (length p) (length q)
  unfolding plus
  length_plus_max [] q = omega arith
  length_plus_max (a ∷ p) [] = omega arith
  length_plus_max (a ∷ p) (b ∷ q) = omega (arith, length_plus_max p q)

  pub length_product : (a b : F) (p q : List F) → length (product (ops K) (a ∷ p) (b ∷ q)) ≡ suc (length p +ℕ length q)
  unfolding product scale
  length_product a b [] q =
      length_plus_max (scale (ops K) a (b ∷ q)) (𝟘 ∷ []) ∙ omega (arith, length-map q (λ c. a * c))
  length_product a b (c ∷ p) q =
      length_plus_max (scale (ops K) a (b ∷ q)) (𝟘 ∷ product (ops K) (c ∷ p) (b ∷ q)) ∙ omega (arith, length-map q (λ c. a * c), length_product c b p q)

  one_times : (x u : F) → u ≡ (𝟙 + x * 𝟘) * u
  one_times x u = simp ring

  pull_factor : (a b c : F) → a * (b * c) ≡ (a * b) * c
  pull_factor a b c = simp ring

  eval_from_roots : (rs ts : List F) (x : F) → eval (ops K) (from_roots (rs ++ ts)) x ≡ eval (ops K) (from_roots rs) x * eval (ops K) (from_roots ts) x
  unfolding from_roots eval
  eval_from_roots [] ts x = one_times x (eval (ops K) (from_roots ts) x)
  eval_from_roots (r ∷ rs) ts x =
      eval_times_linear r (from_roots (rs ++ ts)) x ∙ ap (λ y. (x + r) * y) (eval_from_roots rs ts x) ∙ pull_factor (x + r) (eval (ops K) (from_roots rs) x) (eval (ops K) (from_roots ts) x)
      ∙ ap (λ y. y * eval (ops K) (from_roots ts) x) (sym (eval_times_linear r (from_roots rs) x))

  swap_factor : (a b c : F) → a * (b * c) ≡ b * (a * c)
  swap_factor a b c = simp ring

  -- one root taken out
  pub eval_from_roots_out : (r : F) (rs ts : List F) (x : F) → eval (ops K) (from_roots (rs ++ r ∷ ts)) x ≡ (x + r) * eval (ops K) (from_roots (rs ++ ts)) x
  unfolding from_roots
  eval_from_roots_out r rs ts x =
      eval_from_roots rs (r ∷ ts) x ∙ ap (λ y. eval (ops K) (from_roots rs) x * y) (eval_times_linear r (from_roots ts) x)
      ∙ swap_factor (eval (ops K) (from_roots rs) x) (x + r) (eval (ops K) (from_roots ts) x) ∙ ap (λ y. (x + r) * y) (sym (eval_from_roots rs ts x))

  -- ---- the quotient by one root of a product

  quotient_last : (c a : F) → a + c * 𝟘 ≡ a
  quotient_last c a = simp ring

  quotient_same : (c a u : F) → a + (c + c) * u ≡ a
  quotient_same c a u = simp ring

  horner_times_linear_from : (c a : F) (p : List F) → horner c (times_linear_from c a p) ≡ a ∷ p
  unfolding times_linear_from horner eval
  horner_times_linear_from c a [] = ap (λ u. u ∷ []) (quotient_last c a)
  horner_times_linear_from c a (b ∷ p) =
      ap₂ ◌∷◌ (eval_times_linear_from c a (b ∷ p) c ∙ quotient_same c a (eval (ops K) (b ∷ p) c)) (horner_times_linear_from c b p)

  -- the quotient of (x + c) p by x + c is p
  pub quotient_times_linear : (c : F) (p : List F) → quotient c (times_linear c p) ≡ p
  unfolding times_linear_from quotient horner
  quotient_times_linear c [] = refl
  quotient_times_linear c (a ∷ p) = horner_times_linear_from c a p

  -- ---- a polynomial with known roots is a product

  -- p = (x + r1) (x + r2) .. m as functions, where the r are distinct roots of p
  pub record Factored (rs p : List F) : Type 0 where
    pub factor : List F
    pub shorter : length rs +ℕ length factor ≡ length p
    pub values : (x : F) → eval (ops K) p x ≡ eval (ops K) (from_roots rs) x * eval (ops K) factor x

  no_roots : (u x : F) → u ≡ (𝟙 + x * 𝟘) * u
  no_roots u x = simp ring

  factored_none : (p : List F) → Factored [] p
  unfolding from_roots eval
  factored_none p = record { factor = p; shorter = omega arith; values = λ x. no_roots (eval (ops K) p x) x }

  pull_root : (a b c d : F) → d ≡ 𝟘 → a * (b * c) + d ≡ (a * b) * c
  pull_root a b c d h = simp (ring, h)

  factored_more : (r a : F) (rs p : List F) → eval (ops K) (a ∷ p) r ≡ 𝟘 → Factored rs (horner r p) → Factored (r ∷ rs) (a ∷ p)
  unfolding from_roots quotient
  factored_more r a rs p h f =
      record {
        factor = f.factor;
        shorter = omega (arith, f.shorter, length_horner r p);
        values =
            λ x. division r (a ∷ p) x ∙ ap (λ y. (x + r) * y + eval (ops K) (a ∷ p) r) (f.values x)
            ∙ pull_root (x + r) (eval (ops K) (from_roots rs) x) (eval (ops K) f.factor x) _ h
            ∙ ap (λ y. y * eval (ops K) f.factor x) (sym (eval_times_linear r (from_roots rs) x));
      }

  pub factored : (rs p : List F) → length rs ≤ length p → Distinct rs → All (λ x. eval (ops K) p x ≡ 𝟘) rs → Factored rs p
  factored [] p l d h = factored_none p
  factored (r ∷ rs) [] l d h = absurd (not-suc-le-zero l)
  factored (r ∷ rs) (a ∷ p) l d h =
      factored_more r a rs p h.0 (factored rs (horner r p) (omega (arith, length_horner r p)) d.1
      (All-zip (λ y. y ≡ r → ⊥) (λ y. eval (ops K) (a ∷ p) y ≡ 𝟘) (λ y. eval (ops K) (horner r p) y ≡ 𝟘) (λ y n e. quotient_root r a p y h.0 n e) rs d.0 h.1))

  -- ---- polynomials with the same values are the same

  pub equal_of_zero : (p q : List F) → length p ≡ length q → Zero (plus (ops K) p q) → p ≡ q
  unfolding plus
  equal_of_zero [] [] e z = refl
  equal_of_zero [] (b ∷ q) e z = absurd (omega arith)
  equal_of_zero (a ∷ p) [] e z = absurd (omega arith)
  equal_of_zero (a ∷ p) (b ∷ q) e z = ap₂ ◌∷◌ (eq_of_add K a b z.0) (equal_of_zero p q (omega arith) z.1)

  pub equal_at : (xs p q : List F) → length p ≡ length q → length p ≤ length xs → Distinct xs → All (λ x. eval (ops K) p x ≡ eval (ops K) q x) xs → p ≡ q
  equal_at xs p q e l d h =
      equal_of_zero p q e
      (root_bound xs (plus (ops K) p q) (omega (arith, length_plus_max p q)) d
      (All-map (λ x. eval (ops K) p x ≡ eval (ops K) q x) (λ x. eval (ops K) (plus (ops K) p q) x ≡ 𝟘) (λ x k. eval_plus p q x ∙ add_eq_zero K _ _ k) xs h))

  pub equal_of_values : (xs p q : List F) → length p ≡ length q → length p ≤ length xs → Distinct xs → ((x : F) → eval (ops K) p x ≡ eval (ops K) q x) → p ≡ q
  equal_of_values xs p q e l d h = equal_at xs p q e l d (All-each (λ x. eval (ops K) p x ≡ eval (ops K) q x) h xs)

  pub root_count : (xs p : List F) → (Zero p → ⊥) → Distinct xs → All (λ x. eval (ops K) p x ≡ 𝟘) xs → length xs < length p
  root_count xs p n d r = go (dec_lt (length xs) (length p))
    where
      go : Dec (length xs < length p) → length xs < length p
      go (yes h) = h
      go (no h) = absurd (n (root_bound xs p (omega arith) d r))

  -- ---- coefficients that are zero from place n on

  take_zero_step : (a x : F) → a ≡ 𝟘 → a + x * 𝟘 ≡ 𝟘
  take_zero_step a x h = simp (ring, h)

  pub eval_take : (n : ℕ) (p : List F) (x : F) → ((k : ℕ) → n ≤ k → get_or p k 𝟘 ≡ 𝟘) → eval (ops K) (take n p) x ≡ eval (ops K) p x
  unfolding eval
  eval_take zero [] x h = refl
  eval_take zero (a ∷ p) x h =
      sym (ap (λ u. a + x * u) (sym (eval_take zero p x (λ k l. h (suc k) (omega arith)))) ∙ take_zero_step a x (h zero (omega arith)))
  eval_take (suc n) [] x h = refl
  eval_take (suc n) (a ∷ p) x h = ap (λ u. a + x * u) (eval_take n p x (λ k l. h (suc k) (omega arith)))

  pub Zero-take : (n : ℕ) (p : List F) → ((k : ℕ) → n ≤ k → get_or p k 𝟘 ≡ 𝟘) → Zero (take n p) → Zero p
  Zero-take zero [] h z = tt
  Zero-take zero (a ∷ p) h z = (h zero (omega arith), Zero-take zero p (λ k l. h (suc k) (omega arith)) tt)
  Zero-take (suc n) [] h z = tt
  Zero-take (suc n) (a ∷ p) h z = (z.0, Zero-take n p (λ k l. h (suc k) (omega arith)) z.1)
