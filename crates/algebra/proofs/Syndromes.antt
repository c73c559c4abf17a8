-- Syndromes of a list of terms (place, value), and what they determine: Vandermonde's theorem, the key equations of an error locator, and the values at its roots.
-- Assumes nothing.
use mathlib.Core.Path.{◌≡◌, refl, sym, ap, ◌∙◌, fun_ext}
use mathlib.Core.List.{List, [], ◌∷◌, map}
use Prim.Native.Nat.{ℕ, zero, suc, ◌≤◌, ◌<◌}
use Prim.Native.Nat.{◌+◌ as ◌+ℕ◌}
use native.Mathlib.Nat.{not-suc-le-zero}
use native.Mathlib.Nat.{add-zero as ℕ-add-zero, add-suc as ℕ-add-suc}
use native.Mathlib.Omega.{arith}
use lib.ListN.{length, get_or, take}
use Prim.{tt}
use Rattle.algebra.specs.Field.{Field, ops}
use Rattle.algebra.specs.Polynomial.{power, eval}
use Rattle.algebra.proofs.Ring.{ring, cancel, add_zero, mul_zero, zero_mul, zero_add, mul_div, mul_comm, mul_one, mul_ne}
use Rattle.common.specs.Lists.{All}
use Rattle.common.proofs.Lists.{All-map, All-of}
use Rattle.algebra.proofs.Lists.{Away, Distinct}
use Rattle.algebra.proofs.Polynomial.{times_linear, times_linear_from, from_roots, length_from_roots, from_roots_roots, from_roots_ne}

module _ (K : Field) where
  open K use {F, add as ◌+◌, mul as ◌*◌, 𝟘, 𝟙, inv, dec}

  infixl 65 ◌+◌
  infixl 70 ◌*◌
  abbrev pub Term : Type 0
  Term = F × F

  -- S_j = Σ Y X^j
  unfoldable pub syndrome : List Term → ℕ → F
  syndrome [] j = 𝟘
  syndrome (e ∷ E) j = e.1 * power (ops K) e.0 j + syndrome E j

  -- Σ Y p(X)
  unfoldable pub paired : List Term → List F → F
  paired [] p = 𝟘
  paired (e ∷ E) p = e.1 * eval (ops K) p e.0 + paired E p

  -- Σ p_i f(i)
  unfoldable pub dot : List F → (ℕ → F) → F
  dot [] f = 𝟘
  dot (a ∷ p) f = a * f zero + dot p (λ i. f (suc i))

  dot_add_step : (a u v s t : F) → a * (u + v) + (s + t) ≡ (a * u + s) + (a * v + t)
  dot_add_step a u v s t = simp ring

  pub dot_add : (p : List F) (f g : ℕ → F) → dot p (λ i. f i + g i) ≡ dot p f + dot p g
  unfolding dot
  dot_add [] f g = sym (zero_add K 𝟘)
  dot_add (a ∷ p) f g = ap (λ y. a * (f zero + g zero) + y) (dot_add p (λ i. f (suc i)) (λ i. g (suc i))) ∙ dot_add_step a (f zero) (g zero) _ _

  pub dot_ext : (p : List F) (f g : ℕ → F) → ((i : ℕ) → i < length p → f i ≡ g i) → dot p f ≡ dot p g
  unfolding dot
  dot_ext [] f g h = refl
  dot_ext (a ∷ p) f g h = ap (λ u. a * u + dot p (λ i. f (suc i))) (h zero (omega arith)) ∙ ap (λ u. a * g zero + u) (dot_ext p (λ i. f (suc i)) (λ i. g (suc i)) (λ i l. h (suc i) (omega arith)))

  dot_zero : (p : List F) (f : ℕ → F) → ((j : ℕ) → j < length p → f j ≡ 𝟘) → dot p f ≡ 𝟘
  unfolding dot
  dot_zero [] f h = refl
  dot_zero (a ∷ p) f h = zero_step a (f zero) (dot p (λ i. f (suc i))) (h zero (omega arith)) (dot_zero p (λ i. f (suc i)) (λ j l. h (suc j) (omega arith)))
    where
      zero_step : (a u v : F) → u ≡ 𝟘 → v ≡ 𝟘 → a * u + v ≡ 𝟘
      zero_step a u v h k = simp (ring, h, k)

  dot_power_nil : (y : F) → 𝟘 ≡ y * 𝟘
  dot_power_nil y = simp ring

  dot_power_step : (a y x u : F) → a * (y * 𝟙) + (y * x) * u ≡ y * (a + x * u)
  dot_power_step a y x u = simp ring

  dot_power_move : (y x u : F) → y * (x * u) ≡ (y * x) * u
  dot_power_move y x u = simp ring

  pub dot_power : (p : List F) (y x : F) → dot p (λ i. y * power (ops K) x i) ≡ y * eval (ops K) p x
  unfolding dot eval power
  dot_power [] y x = dot_power_nil y
  dot_power (a ∷ p) y x = ap (λ f. a * (y * 𝟙) + dot p f) (fun_ext (λ i. dot_power_move y x (power (ops K) x i))) ∙ ap (λ u. a * (y * 𝟙) + u) (dot_power p (y * x) x) ∙ dot_power_step a y x (eval (ops K) p x)

  -- the functional in terms of the syndromes
  dot_syndrome : (p : List F) (E : List Term) → dot p (syndrome E) ≡ paired E p
  unfolding syndrome paired
  dot_syndrome p [] = dot_zero p (λ i. 𝟘) (λ j l. refl)
  dot_syndrome p (e ∷ E) = dot_add p (λ i. e.1 * power (ops K) e.0 i) (syndrome E) ∙ ap (λ y. y + dot p (syndrome E)) (dot_power p e.1 e.0) ∙ ap (λ y. e.1 * eval (ops K) p e.0 + y) (dot_syndrome p E)

  -- the functional where all but the first term vanish
  add_zeros : (u v : F) → u ≡ 𝟘 → v ≡ 𝟘 → u + v ≡ 𝟘
  add_zeros u v h k = simp (ring, h, k)

  paired_zero : (E : List Term) (p : List F) → All (λ e. e.1 * eval (ops K) p e.0 ≡ 𝟘) E → paired E p ≡ 𝟘
  unfolding paired
  paired_zero [] p h = refl
  paired_zero (e ∷ E) p h = add_zeros _ _ h.0 (paired_zero E p h.1)

  abbrev pub places : List Term → List F
  places E = map (λ e. e.0) E

  abbrev pub AllZero : List Term → Type 0
  AllZero E = All (λ e. e.1 ≡ 𝟘) E

  pub vanish : (E : List Term) (p : List F) → All (λ x. eval (ops K) p x ≡ 𝟘) (places E) → All (λ e. e.1 * eval (ops K) p e.0 ≡ 𝟘) E
  vanish [] p h = tt
  vanish (e ∷ E) p h = (ap (λ u. e.1 * u) h.0 ∙ mul_zero K e.1, vanish E p h.1)

  paired_first : (e : Term) (E : List Term) (p : List F) → All (λ d. d.1 * eval (ops K) p d.0 ≡ 𝟘) E → paired (e ∷ E) p ≡ e.1 * eval (ops K) p e.0
  unfolding paired
  paired_first e E p h = ap (λ u. e.1 * eval (ops K) p e.0 + u) (paired_zero E p h) ∙ add_zero K _

  length_places : (E : List Term) → length (places E) ≡ length E
  length_places [] = refl
  length_places (e ∷ E) = ap suc (length_places E)

  syndrome_rest : (e : Term) (E : List Term) (j : ℕ) → e.1 ≡ 𝟘 → syndrome (e ∷ E) j ≡ syndrome E j
  unfolding syndrome
  syndrome_rest e E j h = ap (λ u. u * power (ops K) e.0 j + syndrome E j) h ∙ ap (λ u. u + syndrome E j) (zero_mul K _) ∙ zero_add K _

  -- the first value, where the syndromes are all zero
  first_zero : (e : Term) (E : List Term) → Away e.0 (places E) → ((j : ℕ) → j < suc (length E) → syndrome (e ∷ E) j ≡ 𝟘) → e.1 ≡ 𝟘
  first_zero e E a h =
      let p = from_roots K (places E) in
      cancel K (eval (ops K) p e.0) e.1 (from_roots_ne K (places E) e.0 a)
      (mul_comm K _ _ ∙ sym (paired_first e E p (vanish E p (from_roots_roots K (places E)))) ∙ sym (dot_syndrome p (e ∷ E))
      ∙ dot_zero p (syndrome (e ∷ E)) (λ j l. h j (omega (arith, length_from_roots K (places E), length_places E))))

  -- (C) Vandermonde: as many zero syndromes as places, and each value is zero
  vandermonde : (E : List Term) → Distinct (places E) → ((j : ℕ) → j < length E → syndrome E j ≡ 𝟘) → AllZero E
  vandermonde [] d h = tt
  vandermonde (e ∷ E) d h =
      let z : e.1 ≡ 𝟘 = first_zero e E d.0 h in
      (z, vandermonde E d.1 (λ j l. sym (syndrome_rest e E j z) ∙ h j (omega arith)))

  -- the errors whose value is not zero
  unfoldable pub keep : {y : F} → Dec (y ≡ 𝟘) → Term → List Term → List Term
  keep (yes _) e E = E
  keep (no _) e E = e ∷ E

  unfoldable pub support : List Term → List Term
  support [] = []
  support (e ∷ E) = keep (dec e.1 𝟘) e (support E)

  abbrev pub weight : List Term → ℕ
  weight E = length (support E)

  syndrome_keep : (e : Term) (d : Dec (e.1 ≡ 𝟘)) (E : List Term) (j : ℕ) → syndrome (keep d e E) j ≡ syndrome (e ∷ E) j
  unfolding keep
  syndrome_keep e (yes z) E j = sym (syndrome_rest e E j z)
  syndrome_keep e (no n) E j = refl

  syndrome_support : (E : List Term) (j : ℕ) → syndrome (support E) j ≡ syndrome E j
  unfolding syndrome support
  syndrome_support [] j = refl
  syndrome_support (e ∷ E) j = syndrome_keep e (dec e.1 𝟘) (support E) j ∙ ap (λ u. e.1 * power (ops K) e.0 j + u) (syndrome_support E j)

  keep_all : (P : F → Type 0) (e : Term) (d : Dec (e.1 ≡ 𝟘)) (E : List Term) → P e.0 → All P (places E) → All P (places (keep d e E))
  unfolding keep
  keep_all P e (yes z) E h k = k
  keep_all P e (no n) E h k = (h, k)

  support_all : (P : F → Type 0) (E : List Term) → All P (places E) → All P (places (support E))
  unfolding support
  support_all P [] h = tt
  support_all P (e ∷ E) h = keep_all P e (dec e.1 𝟘) (support E) h.0 (support_all P E h.1)

  keep_distinct : (e : Term) (d : Dec (e.1 ≡ 𝟘)) (E : List Term) → Away e.0 (places E) → Distinct (places E) → Distinct (places (keep d e E))
  unfolding keep
  keep_distinct e (yes z) E h k = k
  keep_distinct e (no n) E h k = (h, k)

  support_distinct : (E : List Term) → Distinct (places E) → Distinct (places (support E))
  unfolding support
  support_distinct [] h = tt
  support_distinct (e ∷ E) h = keep_distinct e (dec e.1 𝟘) (support E) (support_all (λ y. y ≡ e.0 → ⊥) E h.0) (support_distinct E h.1)

  keep_none : (e : Term) (d : Dec (e.1 ≡ 𝟘)) (E : List Term) → AllZero (keep d e E) → (e.1 ≡ 𝟘) × AllZero E
  unfolding keep
  keep_none e (yes z) E h = (z, h)
  keep_none e (no n) E h = h

  support_none : (E : List Term) → AllZero (support E) → AllZero E
  unfolding support
  support_none [] h = tt
  support_none (e ∷ E) h = let k = keep_none e (dec e.1 𝟘) (support E) h in (k.0, support_none E k.1)

  -- (C) with the number of values that are not zero
  pub vandermonde_weight : (E : List Term) (t : ℕ) → Distinct (places E) → weight E ≤ t → ((j : ℕ) → j < t → syndrome E j ≡ 𝟘) → AllZero E
  vandermonde_weight E t d w h = support_none E (vandermonde (support E) (support_distinct E d) (λ j l. syndrome_support E j ∙ h j (omega arith)))

  -- each value weighted q at its place
  unfoldable pub weighted : List F → List Term → List Term
  weighted q [] = []
  weighted q (e ∷ E) = (e.0, e.1 * eval (ops K) q e.0) ∷ weighted q E

  places_weighted : (q : List F) (E : List Term) → places (weighted q E) ≡ places E
  unfolding weighted
  places_weighted q [] = refl
  places_weighted q (e ∷ E) = ap {B = List F} (λ u. e.0 ∷ u) (places_weighted q E)

  keep_less : (y z : F) (d : Dec (y ≡ 𝟘)) (d' : Dec (z ≡ 𝟘)) (e e' : Term) (E E' : List Term) → (y ≡ 𝟘 → z ≡ 𝟘) → length E' ≤ length E → length (keep d' e' E') ≤ length (keep d e E)
  unfolding keep
  keep_less y z (yes a) (yes b) e e' E E' h l = l
  keep_less y z (yes a) (no b) e e' E E' h l = absurd (b (h a))
  keep_less y z (no a) (yes b) e e' E E' h l = omega arith
  keep_less y z (no a) (no b) e e' E E' h l = omega arith

  weight_weighted : (q : List F) (E : List Term) → weight (weighted q E) ≤ weight E
  unfolding weighted support
  weight_weighted q [] = omega arith
  weight_weighted q (e ∷ E) = keep_less e.1 (e.1 * eval (ops K) q e.0) _ _ e (e.0, e.1 * eval (ops K) q e.0) (support E) (support (weighted q E)) (λ h. ap (λ u. u * eval (ops K) q e.0) h ∙ zero_mul K _) (weight_weighted q E)

  -- the syndromes shifted by j are those of the values weighted X^j
  unfoldable pub shifted : ℕ → List Term → List Term
  shifted j [] = []
  shifted j (e ∷ E) = (e.0, e.1 * power (ops K) e.0 j) ∷ shifted j E

  power_add_step : (x u v : F) → x * (u * v) ≡ u * (x * v)
  power_add_step x u v = simp ring

  pub power_add : (x : F) (j i : ℕ) → power (ops K) x (j +ℕ i) ≡ power (ops K) x j * power (ops K) x i
  unfolding power
  power_add x j zero = ap (power (ops K) x) (ℕ-add-zero j) ∙ sym (mul_one K (power (ops K) x j))
  power_add x j (suc i) = ap (power (ops K) x) (ℕ-add-suc j i) ∙ ap (λ u. x * u) (power_add x j i) ∙ power_add_step x (power (ops K) x j) (power (ops K) x i)

  shifted_step : (y u v : F) → y * (u * v) ≡ (y * u) * v
  shifted_step y u v = simp ring

  syndrome_shifted : (E : List Term) (j i : ℕ) → syndrome E (j +ℕ i) ≡ syndrome (shifted j E) i
  unfolding syndrome shifted
  syndrome_shifted [] j i = refl
  syndrome_shifted (e ∷ E) j i = ap (λ u. e.1 * u + syndrome E (j +ℕ i)) (power_add e.0 j i) ∙ ap (λ u. u + syndrome E (j +ℕ i)) (shifted_step e.1 _ _) ∙ ap (λ u. (e.1 * power (ops K) e.0 j) * power (ops K) e.0 i + u) (syndrome_shifted E j i)

  swap_step : (y u v : F) → (y * u) * v ≡ (y * v) * u
  swap_step y u v = simp ring

  paired_shifted : (q : List F) (E : List Term) (j : ℕ) → paired (shifted j E) q ≡ syndrome (weighted q E) j
  unfolding syndrome shifted weighted paired
  paired_shifted q [] j = refl
  paired_shifted q (e ∷ E) j = ap (λ u. u + paired (shifted j E) q) (swap_step e.1 _ _) ∙ ap (λ u. (e.1 * eval (ops K) q e.0) * power (ops K) e.0 j + u) (paired_shifted q E j)

  -- Σ_i q_i S_(j + i) = Σ Y q(X) X^j
  pub dot_shifted : (q : List F) (E : List Term) (j : ℕ) → dot q (λ i. syndrome E (j +ℕ i)) ≡ syndrome (weighted q E) j
  dot_shifted q E j = ap (dot q) (fun_ext (λ i. syndrome_shifted E j i)) ∙ dot_syndrome q (shifted j E) ∙ paired_shifted q E j

  weighted_none : (q : List F) (E : List Term) → AllZero (weighted q E) → All (λ e. e.1 * eval (ops K) q e.0 ≡ 𝟘) E
  unfolding weighted
  weighted_none q [] h = tt
  weighted_none q (e ∷ E) h = (h.0, weighted_none q E h.1)

  -- (E) the key equations: a solution is a locator of every place of error
  pub key : (E : List Term) (q : List F) (t : ℕ) → Distinct (places E) → weight E ≤ t → ((j : ℕ) → j < t → dot q (λ i. syndrome E (j +ℕ i)) ≡ 𝟘)
      → All (λ e. (e.1 ≡ 𝟘 → ⊥) → eval (ops K) q e.0 ≡ 𝟘) E
  key E q t d w h =
      All-map (λ e. e.1 * eval (ops K) q e.0 ≡ 𝟘) (λ e. (e.1 ≡ 𝟘 → ⊥) → eval (ops K) q e.0 ≡ 𝟘) (λ e z n. cancel K e.1 (eval (ops K) q e.0) n z) E
      (weighted_none q E (vandermonde_weight (weighted q E) t (rw places_weighted d) (omega (arith, weight_weighted q E))
      (λ j l. sym (dot_shifted q E j) ∙ h j l)))

  -- all terms of the functional but one vanish
  paired_one : (E : List Term) (d : Term) (l : ℕ) (p : List F) → l < length E
      → ((i : ℕ) → i < length E → (i ≡ l → ⊥) → (get_or E i d).1 * eval (ops K) p (get_or E i d).0 ≡ 𝟘)
      → paired E p ≡ (get_or E l d).1 * eval (ops K) p (get_or E l d).0
  unfolding paired
  paired_one [] d l p b h = absurd (not-suc-le-zero b)
  paired_one (e ∷ E) d zero p b h = paired_first e E p (All-of (λ e. e.1 * eval (ops K) p e.0 ≡ 𝟘) E d (λ i k. h (suc i) (omega arith) (λ x. omega arith)))
  paired_one (e ∷ E) d (suc l) p b h = ap (λ u. u + paired E p) (h zero (omega arith) (λ x. omega arith)) ∙ zero_add K _ ∙ paired_one E d l p (omega arith) (λ i k n. h (suc i) (omega arith) (λ x. n (omega arith)))

  -- (F) a value from the syndromes
  pub value : (E : List Term) (d : Term) (l : ℕ) (p : List F) → l < length E
      → ((i : ℕ) → i < length E → (i ≡ l → ⊥) → ((get_or E i d).1 ≡ 𝟘 → ⊥) → eval (ops K) p (get_or E i d).0 ≡ 𝟘)
      → (eval (ops K) p (get_or E l d).0 ≡ 𝟘 → ⊥)
      → dot p (syndrome E) * inv (eval (ops K) p (get_or E l d).0) ≡ (get_or E l d).1
  value E d l p b h n =
      ap (λ u. u * inv (eval (ops K) p (get_or E l d).0)) (dot_syndrome p E ∙ paired_one E d l p b (λ i k m. by (get_or E i d) (dec _ 𝟘) (h i k m)))
      ∙ mul_div K (get_or E l d).1 (eval (ops K) p (get_or E l d).0) n
    where
      by : (e : Term) → Dec (e.1 ≡ 𝟘) → ((e.1 ≡ 𝟘 → ⊥) → eval (ops K) p e.0 ≡ 𝟘) → e.1 * eval (ops K) p e.0 ≡ 𝟘
      by e (yes z) f = ap (λ u. u * eval (ops K) p e.0) z ∙ zero_mul K _
      by e (no z) f = ap (λ u. e.1 * u) (f z) ∙ mul_zero K _

  -- ---- places that are known beforehand

  linear_nil : (c d u : F) → d * u + 𝟘 ≡ (d * u + c * 𝟘) + 𝟘
  linear_nil c d u = simp ring

  linear_dot_step : (c d a u v s t : F) → (d + c * a) * u + ((a * v + c * s) + t) ≡ (d * u + c * (a * u + s)) + (a * v + t)
  linear_dot_step c d a u v s t = simp ring

  dot_times_linear_from : (c d : F) (p : List F) (f : ℕ → F) → dot (times_linear_from K c d p) f ≡ (d * f zero + c * dot p f) + dot p (λ i. f (suc i))
  unfolding dot times_linear_from
  dot_times_linear_from c d [] f = linear_nil c d (f zero)
  dot_times_linear_from c d (a ∷ p) f =
      ap (λ u. (d + c * a) * f zero + u) (dot_times_linear_from c a p (λ i. f (suc i))) ∙ linear_dot_step c d a (f zero) (f (suc zero)) (dot p (λ i. f (suc i))) (dot p (λ i. f (suc (suc i))))

  linear_drop : (u v w : F) → (𝟘 * u + v) + w ≡ v + w
  linear_drop u v w = simp ring

  -- one root more: Σ ((x + c) p)_i f(i) = c Σ p_i f(i) + Σ p_i f(i + 1)
  pub dot_times_linear : (c : F) (p : List F) (f : ℕ → F) → dot (times_linear K c p) f ≡ c * dot p f + dot p (λ i. f (suc i))
  dot_times_linear c p f = dot_times_linear_from c 𝟘 p f ∙ linear_drop (f zero) (c * dot p f) (dot p (λ i. f (suc i)))

  unweighted : (g q : List F) (E : List Term) → All (λ e. (e.1 ≡ 𝟘 → ⊥) → eval (ops K) q e.0 ≡ 𝟘) (weighted g E)
      → All (λ e. (e.1 ≡ 𝟘 → ⊥) → (eval (ops K) g e.0 ≡ 𝟘 → ⊥) → eval (ops K) q e.0 ≡ 𝟘) E
  unfolding weighted
  unweighted g q [] h = tt
  unweighted g q (e ∷ E) h = ((λ n m. h.0 (mul_ne K e.1 (eval (ops K) g e.0) n m)), unweighted g q E h.1)

  -- (G) the key equations with marks: let g vanish at the marked places. A solution for the syndromes that g modifies, Σ_k g_k S_(j + k), is a locator of
  -- every place of error where g is not zero. Only these errors count against the number t of equations.
  pub key_marked : (E : List Term) (g q : List F) (t : ℕ) → Distinct (places E) → weight (weighted g E) ≤ t
      → ((j : ℕ) → j < t → dot q (λ i. dot g (λ k. syndrome E (j +ℕ i +ℕ k))) ≡ 𝟘)
      → All (λ e. (e.1 ≡ 𝟘 → ⊥) → (eval (ops K) g e.0 ≡ 𝟘 → ⊥) → eval (ops K) q e.0 ≡ 𝟘) E
  key_marked E g q t d w h =
      unweighted g q E (key (weighted g E) q t (rw places_weighted d) w
      (λ j l. dot_ext q (λ i. syndrome (weighted g E) (j +ℕ i)) (λ i. dot g (λ k. syndrome E (j +ℕ i +ℕ k))) (λ i b. sym (dot_shifted g E (j +ℕ i))) ∙ h j l))

  -- coefficients that are zero from place n on
  drop_zero_step : (a x : F) → a ≡ 𝟘 → a * x + 𝟘 ≡ 𝟘
  drop_zero_step a x h = simp (ring, h)

  pub dot_take : (n : ℕ) (p : List F) (f : ℕ → F) → ((k : ℕ) → n ≤ k → get_or p k 𝟘 ≡ 𝟘) → dot (take n p) f ≡ dot p f
  unfolding dot
  dot_take zero [] f h = refl
  dot_take zero (a ∷ p) f h =
      sym (ap (λ u. a * f zero + u) (sym (dot_take zero p (λ i. f (suc i)) (λ k l. h (suc k) (omega arith)))) ∙ drop_zero_step a (f zero) (h zero (omega arith)))
  dot_take (suc n) [] f h = refl
  dot_take (suc n) (a ∷ p) f h = ap (λ u. a * f zero + u) (dot_take n p (λ i. f (suc i)) (λ k l. h (suc k) (omega arith)))
