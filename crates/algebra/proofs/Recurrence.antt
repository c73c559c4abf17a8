-- Sequences that go on as a polynomial says: Σ p_i f(j + i) = 0 (linear recurrences). The syndromes of errors at the roots of p do, and a sequence that does
-- is that of the syndromes of errors at these roots (Lagrange's interpolation).
-- Assumes nothing.
use mathlib.Core.Path.{◌≡◌, refl, sym, ap, ◌∙◌, subst}
use mathlib.Core.List.{List, [], ◌∷◌, ◌++◌}
use Prim.Native.Nat.{ℕ, zero, suc, ◌≤◌, ◌<◌}
use Prim.Native.Nat.{◌+◌ as ◌+ℕ◌}
use native.Mathlib.Nat.{not-suc-le-zero, le_of_suc-le-suc}
use native.Mathlib.Nat.{add-zero as ℕ-add-zero, add-suc as ℕ-add-suc}
use native.Mathlib.Omega.{arith}
use lib.ListN.{length, get_or, take, drop, length-append, length-take, length-drop, length-map, get_or-map}
use lib.Seq.{split_at}
use Rattle.algebra.specs.Field.{Field, ops}
use Rattle.algebra.specs.Polynomial.{power, eval}
use Rattle.algebra.proofs.Ring.{ring, cancel, eq_of_add, add_eq_zero, zero_mul, mul_comm, mul_one, mul_inv, mul_assoc}
use Rattle.common.specs.Lists.{All}
use Rattle.common.proofs.Lists.{All-at}
use Rattle.algebra.proofs.Lists.{Distinct, Distinct-away}
use Rattle.algebra.proofs.Polynomial.{times_linear, eval_times_linear, length_times_linear_from, quotient, quotient_times_linear, from_roots, length_from_roots, from_roots_roots, from_roots_ne, eval_from_roots_out, equal_of_values}
use Rattle.algebra.proofs.Syndromes.{Term, syndrome, dot, dot_ext, dot_add, dot_power, dot_times_linear, dot_shifted, weighted, places, vanish, value}

module _ (K : Field) where
  open K use {F, add as ◌+◌, mul as ◌*◌, 𝟘, 𝟙, inv}

  infixl 65 ◌+◌
  infixl 70 ◌*◌
  -- ---- sequences

  -- the sequence r f(i) + f(i + 1)
  abbrev pub advanced : F → (ℕ → F) → ℕ → F
  advanced r f i = r * f i + f (suc i)

  scale_step : (a r u v : F) → a * (r * u) + r * v ≡ r * (a * u + v)
  scale_step a r u v = simp ring

  scale_none : (r : F) → 𝟘 ≡ r * 𝟘
  scale_none r = simp ring

  dot_scale : (p : List F) (r : F) (f : ℕ → F) → dot K p (λ i. r * f i) ≡ r * dot K p f
  unfolding dot
  dot_scale [] r f = scale_none r
  dot_scale (a ∷ p) r f = ap (λ y. a * (r * f zero) + y) (dot_scale p r (λ i. f (suc i))) ∙ scale_step a r (f zero) (dot K p (λ i. f (suc i)))

  -- one root more is one step of the sequence
  dot_advanced : (r : F) (p : List F) (f : ℕ → F) → dot K (times_linear K r p) f ≡ dot K p (advanced r f)
  dot_advanced r p f =
      dot_times_linear K r p f ∙ ap (λ y. y + dot K p (λ i. f (suc i))) (sym (dot_scale p r f)) ∙ sym (dot_add K p (λ i. r * f i) (λ i. f (suc i)))

  dot_advanced_at : (r : F) (p : List F) (f : ℕ → F) (j : ℕ) → dot K (times_linear K r p) (λ i. f (j +ℕ i)) ≡ dot K p (λ i. advanced r f (j +ℕ i))
  dot_advanced_at r p f j =
      dot_advanced r p (λ i. f (j +ℕ i)) ∙ dot_ext K p (advanced r (λ i. f (j +ℕ i))) (λ i. advanced r f (j +ℕ i)) (λ i h. ap (λ n. r * f (j +ℕ i) + f n) (ℕ-add-suc j i))

  -- all roots but that at place l
  abbrev pub others : ℕ → List F → List F
  others l rs = take l rs ++ drop (suc l) rs

  module _ (r : F) (f : ℕ → F) (t : ℕ) (steps : (j : ℕ) → j < t → advanced r f j ≡ 𝟘) where
    geometric_step : (r u v : F) → r * (u * v) ≡ u * (r * v)
    geometric_step r u v = simp ring

    -- a sequence that x + r takes to zero is geometric
    geometric : (j : ℕ) → j < suc t → f j ≡ f zero * power (ops K) r j
    unfolding power
    geometric zero h = sym (mul_one K (f zero))
    geometric (suc j) h =
        sym (eq_of_add K (r * f j) (f (suc j)) (steps j (le_of_suc-le-suc h))) ∙ ap (λ y. r * y) (geometric j (omega arith)) ∙ geometric_step r (f zero) (power (ops K) r j)

    -- and zero where a polynomial without the root r takes it to zero too
    geometric_zero : (p : List F) → length p ≤ suc t → (eval (ops K) p r ≡ 𝟘 → ⊥) → dot K p f ≡ 𝟘 → (j : ℕ) → j < suc t → f j ≡ 𝟘
    geometric_zero p l n h j k = geometric j k ∙ ap (λ y. y * power (ops K) r j) first ∙ zero_mul K (power (ops K) r j)
      where
        first : f zero ≡ 𝟘
        first =
            cancel K (eval (ops K) p r) (f zero) n
            (mul_comm K (eval (ops K) p r) (f zero) ∙ sym (dot_power K p (f zero) r)
            ∙ dot_ext K p (λ i. f zero * power (ops K) r i) f (λ i b. sym (geometric i (omega arith))) ∙ h)

  -- A sequence is zero up to t where the product of x + r over distinct roots takes it to zero at each place, and each product of all factors but one does
  -- at the first.
  annihilated : (rs : List F) (f : ℕ → F) (t : ℕ) → Distinct rs → length rs ≤ t
      → ((l : ℕ) → l < length rs → dot K (from_roots K (others l rs)) f ≡ 𝟘)
      → ((j : ℕ) → j +ℕ length rs < t → dot K (from_roots K rs) (λ i. f (j +ℕ i)) ≡ 𝟘)
      → (j : ℕ) → j < t → f j ≡ 𝟘
  unfolding from_roots dot
  annihilated [] f t d l c h j k = ap f (sym (ℕ-add-zero j)) ∙ alone (f (j +ℕ zero)) ∙ h j (omega arith)
    where
      alone : (u : F) → u ≡ 𝟙 * u + 𝟘
      alone u = simp ring
  annihilated (r ∷ rs) f zero d l c h j k = absurd (not-suc-le-zero k)
  annihilated (r ∷ rs) f (suc t) d l c h j k =
      geometric_zero r f t
      (annihilated rs (advanced r f) t d.1 (le_of_suc-le-suc l)
      (λ i b. sym (dot_advanced r (from_roots K (others i rs)) f) ∙ c (suc i) (omega arith))
      (λ i b. sym (dot_advanced_at r (from_roots K rs) f i) ∙ h i (omega arith)))
      (from_roots K rs) (omega (arith, length_from_roots K rs)) (from_roots_ne K rs r d.0) (c zero (omega arith)) j k

  -- ---- syndromes

  zero_term : (u v w : F) → u ≡ 𝟘 → v ≡ 𝟘 → u * w + v ≡ 𝟘
  zero_term u v w h k = simp (ring, h, k)

  weighted_zero : (q : List F) (E : List (Term K)) (j : ℕ) → All (λ e. e.1 * eval (ops K) q e.0 ≡ 𝟘) E → syndrome K (weighted K q E) j ≡ 𝟘
  unfolding syndrome weighted
  weighted_zero q [] j h = refl
  weighted_zero q (e ∷ E) j h = zero_term (e.1 * eval (ops K) q e.0) (syndrome K (weighted K q E) j) (power (ops K) e.0 j) h.0 (weighted_zero q E j h.1)

  -- the syndromes of errors at roots of q go on as q says
  pub recurrence : (q : List F) (E : List (Term K)) (j : ℕ) → All (λ e. e.1 * eval (ops K) q e.0 ≡ 𝟘) E → dot K q (λ i. syndrome K E (j +ℕ i)) ≡ 𝟘
  recurrence q E j h = dot_shifted K q E j ∙ weighted_zero q E j h

  -- ---- the values at the roots

  length_others : (l : ℕ) (rs : List F) → l < length rs → suc (length (others l rs)) ≡ length rs
  length_others l rs h = omega (arith, length-append (take l rs) (drop (suc l) rs), length-take l rs, length-drop (suc l) rs)

  -- a polynomial that has the values of the product of x + r, and as many coefficients: its quotient by one factor is the product of the others
  pub cofactor : (xs rs p : List F) (z : F) (l : ℕ) → Distinct xs → length p ≤ length xs → length p ≡ suc (length rs)
      → ((x : F) → eval (ops K) p x ≡ eval (ops K) (from_roots K rs) x) → l < length rs → quotient K (get_or rs l z) p ≡ from_roots K (others l rs)
  cofactor xs rs p z l d m n h b = ap (quotient K (get_or rs l z)) same ∙ quotient_times_linear K (get_or rs l z) (from_roots K (others l rs))
    where
      same : p ≡ times_linear K (get_or rs l z) (from_roots K (others l rs))
      same =
          equal_of_values K xs p (times_linear K (get_or rs l z) (from_roots K (others l rs)))
          (omega (arith, length_times_linear_from K (get_or rs l z) 𝟘 (from_roots K (others l rs)), length_from_roots K (others l rs), length_others l rs b)) m d
          (λ x. h x ∙ ap (λ (t : List F). eval (ops K) (from_roots K t) x) (split_at rs l z b) ∙ eval_from_roots_out K (get_or rs l z) (take l rs) (drop (suc l) rs) x
          ∙ sym (eval_times_linear K (get_or rs l z) (from_roots K (others l rs)) x))

  others_at : (P : F → Type 0) (rs : List F) (z : F) (l i : ℕ) → All P (others l rs) → i < length rs → (i ≡ l → ⊥) → P (get_or rs i z)
  others_at P [] z l i h b n = absurd (not-suc-le-zero b)
  others_at P (r ∷ rs) z zero zero h b n = absurd (n refl)
  others_at P (r ∷ rs) z zero (suc i) h b n = All-at P rs z i h (le_of_suc-le-suc b)
  others_at P (r ∷ rs) z (suc l) zero h b n = h.0
  others_at P (r ∷ rs) z (suc l) (suc i) h b n = others_at P rs z l i h.1 (le_of_suc-le-suc b) (λ e. n (ap suc e))

  undivided : (a b : F) → (b ≡ 𝟘 → ⊥) → a ≡ (a * inv b) * b
  undivided a b n = sym (mul_one K a) ∙ ap (λ y. a * y) (sym (mul_inv K b n) ∙ mul_comm K b (inv b)) ∙ sym (mul_assoc K a (inv b) b)

  -- The errors at distinct roots, each with the value that the product of the other factors gives by its syndromes, have all the syndromes up to t, where
  -- these go on as the product of all factors says.
  module _ (rs : List F) (E : List (Term K)) (z : Term K) (at : places K E ≡ rs) (f : ℕ → F) (t : ℕ) (d : Distinct rs) (few : length rs ≤ t)
      (values : (l : ℕ) → l < length E → (get_or E l z).1 ≡ dot K (from_roots K (others l rs)) f * inv (eval (ops K) (from_roots K (others l rs)) (get_or E l z).0))
      (goes_on : (j : ℕ) → j +ℕ length rs < t → dot K (from_roots K rs) (λ i. f (j +ℕ i)) ≡ 𝟘) where
    rs_length : length rs ≡ length E
    rs_length = ap length (sym at) ∙ length-map E (λ e. e.0)

    rs_at : (l : ℕ) → get_or rs l z.0 ≡ (get_or E l z).0
    rs_at l = ap (λ (k : List F). get_or k l z.0) (sym at) ∙ get_or-map (λ (e : Term K). e.0) E l z

    module _ (l : ℕ) (h : l < length rs) where
      abbrev M : List F
      M = from_roots K (others l rs)

      own : eval (ops K) M (get_or E l z).0 ≡ 𝟘 → ⊥
      own e =
          from_roots_ne K (others l rs) (get_or rs l z.0) (Distinct-away (get_or rs l z.0) (take l rs) (drop (suc l) rs) (subst Distinct (split_at rs l z.0 h) d))
          (ap (eval (ops K) M) (rs_at l) ∙ e)

      vanishes : (i : ℕ) → i < length E → (i ≡ l → ⊥) → ((get_or E i z).1 ≡ 𝟘 → ⊥) → eval (ops K) M (get_or E i z).0 ≡ 𝟘
      vanishes i b n k =
          ap (eval (ops K) M) (sym (rs_at i)) ∙ others_at (λ x. eval (ops K) M x ≡ 𝟘) rs z.0 l i (from_roots_roots K (others l rs)) (omega (arith, rs_length)) n

      agree : dot K M (syndrome K E) ≡ dot K M f
      agree =
          let b : l < length E = omega (arith, rs_length) in
          undivided (dot K M (syndrome K E)) (eval (ops K) M (get_or E l z).0) own
          ∙ ap (λ y. y * eval (ops K) M (get_or E l z).0) (value K E z l M b vanishes own ∙ values l b)
          ∙ sym (undivided (dot K M f) (eval (ops K) M (get_or E l z).0) own)

      apart : dot K M (λ i. syndrome K E i + f i) ≡ 𝟘
      apart = dot_add K M (syndrome K E) f ∙ add_eq_zero K (dot K M (syndrome K E)) (dot K M f) agree

    both : (j : ℕ) → j +ℕ length rs < t → dot K (from_roots K rs) (λ i. syndrome K E (j +ℕ i) + f (j +ℕ i)) ≡ 𝟘
    both j h =
        dot_add K (from_roots K rs) (λ i. syndrome K E (j +ℕ i)) (λ i. f (j +ℕ i))
        ∙ add_eq_zero K _ _ (recurrence (from_roots K rs) E j (vanish K E (from_roots K rs) (subst (λ (k : List F). All (λ x. eval (ops K) (from_roots K rs) x ≡ 𝟘) k) (sym at) (from_roots_roots K rs))) ∙ sym (goes_on j h))

    pub interpolated : (j : ℕ) → j < t → syndrome K E j ≡ f j
    interpolated j h = eq_of_add K (syndrome K E j) (f j) (annihilated rs (λ i. syndrome K E i + f i) t d few apart both j h)
