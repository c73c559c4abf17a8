-- The product of x + r over the roots, and the values of the errors from it.
-- Assumes nothing.
use mathlib.Core.Path.{◌≡◌, refl, sym, ap, ap₂, ◌∙◌, subst}
use mathlib.Core.List.{List, [], ◌∷◌, ◌++◌, map}
use Prim.Native.Nat.{ℕ, zero, suc, ◌+◌, ◌-◌, ◌≤◌, ◌<◌, Fin}
use native.Mathlib.Numerals.{add-one}
use native.Mathlib.Decide.{dec_lt}
use native.Mathlib.Omega.{arith}
use lib.Bits.{bit_xor}
use lib.ListN.{length, get_or, take, drop, replicate, length-map, length-append, get_or-eq_default}
use lib.Seq.{drop-cons, drop-length, length-take-le, get_or-take, take-suc, take-take}
use Rattle.common.proofs.Lists.{get_d_map_in, zeros_at}
use Rattle.algebra.specs.Field.{Field, ops}
use Rattle.algebra.specs.Polynomial.{eval, plus, scale}
use Rattle.algebra.proofs.Ring.{ring, mul_div}
use Rattle.algebra.proofs.Polynomial.{eval_plus, eval_scale, from_roots, eval_times_linear, horner, quotient, quotient_at, length_quotient}
use Rattle.algebra.proofs.Syndromes.{dot, dot_ext}
use Rattle.galois.specs.Field256.{numbers, mul, inv, scaled}
use Rattle.galois.proofs.Laws.{mul_lt, mul_zero_right, mul_comm}
use Rattle.galois.proofs.Instance.{bytes, byte, byte_zero, byte_one, byte_add, byte_mul, byte_inv}
use Rattle.galois.specs.Lanes.{products_of, horner_step}
use Rattle.galois.proofs.Elements.{elements}
use Rattle.error_correction.specs.Correction.{monic, quotient_by, FractionsAt, error_value, ErrorValues}
use Rattle.galois.proofs.Words.{elements_plus, elements_scale, length-sum, sum_at}
use Rattle.galois.proofs.LanePowers.{length_advanced, advanced_at, eval_from}
use Rattle.galois.proofs.Words.{length_products, products_at}

-- ---- identities

module _ (K : Field) where
  open K use {F, add as ◌⊕◌, mul as ◌⊗◌, 𝟘, 𝟙, inv}

  infixl 65 ◌⊕◌
  infixl 70 ◌⊗◌
  linear_identity : (c e y : F) → c ⊗ e ⊕ (𝟘 ⊕ y ⊗ e) ≡ (y ⊕ c) ⊗ e
  linear_identity c e y = simp ring

  alone_identity : (o y s : F) → o ≡ 𝟙 → ((o ⊕ y ⊗ 𝟘) ⊗ s ⊕ 𝟘) ⊗ inv ((o ⊕ y ⊗ 𝟘) ⊕ y ⊗ 𝟘) ≡ s
  alone_identity o y s e = ap₂ (λ u v. u ⊗ inv v) numerator denominator ∙ mul_div K s 𝟙 K.one·ne·zero
    where
      numerator : (o ⊕ y ⊗ 𝟘) ⊗ s ⊕ 𝟘 ≡ s ⊗ 𝟙
      numerator = rw e (simp ring)

      denominator : (o ⊕ y ⊗ 𝟘) ⊕ y ⊗ 𝟘 ≡ 𝟙
      denominator = rw e (simp ring)

  next_identity : (a y b : F) → a ⊗ y ⊕ b ≡ b ⊕ y ⊗ a
  next_identity a y b = simp ring

-- ---- the product of x + r, from the last root to the first

pub record Multiplied (rs p : List ℕ) (l : ℕ) : Type 0 where
  pub most : l ≤ length rs
  pub len : length p ≡ 16
  pub zeros : (k : ℕ) → length rs - l < k → get_or p k 0 ≡ 0
  pub lead : length rs - l < 16 → get_or p (length rs - l) 0 ≡ 1
  pub values : (y : Fin 256) → eval (ops bytes) (elements (monic (length rs - l) p)) y ≡ eval (ops bytes) (from_roots bytes (elements (drop l rs))) y

one_zeros : (k : ℕ) → 0 < k → get_or {A = ℕ} (1 ∷ replicate 15 0) k 0 ≡ 0
one_zeros zero h = absurd (omega arith)
one_zeros (suc k) h = zeros_at 15 k

pub multiplied_none : (rs : List ℕ) (n : ℕ) → length rs ≡ n → Multiplied rs (1 ∷ replicate 15 0) n
unfolding from_roots
multiplied_none rs n e =
    let z : length rs - n ≡ 0 = omega arith in
    record {
      most = omega arith;
      len = refl;
      zeros = λ k h. one_zeros k (omega arith);
      lead = λ h. ap (λ (k : ℕ). get_or (1 ∷ replicate 15 0) k 0) z;
      values = λ y.
          ap (λ (k : ℕ). eval (ops bytes) (elements (monic k (1 ∷ replicate 15 0))) y) z
          ∙ ap (λ (u : Fin 256). eval (ops bytes) (u ∷ []) y) byte_one
          ∙ ap (λ (l : List ℕ). eval (ops bytes) (from_roots bytes (elements l)) y) (sym (ap (λ (k : ℕ). drop k rs) (sym e) ∙ drop-length rs));
    }

-- the first elements of a sum, and one more in the second list alone
take_plus : (n : ℕ) (a b : List ℕ) → take n (plus numbers a b) ≡ plus numbers (take n a) (take n b)
unfolding plus
take_plus zero a b = refl
take_plus (suc n) [] b = refl
take_plus (suc n) (x ∷ a) [] = refl
take_plus (suc n) (x ∷ a) (y ∷ b) = ap (λ (l : List ℕ). bit_xor x y ∷ l) (take_plus n a b)

take_scaled : (n c : ℕ) (a : List ℕ) → take n (scaled c a) ≡ scaled c (take n a)
unfolding scale
take_scaled zero c a = refl
take_scaled (suc n) c [] = refl
take_scaled (suc n) c (x ∷ a) = ap (λ (l : List ℕ). mul c x ∷ l) (take_scaled n c a)

plus_last : (a b : List ℕ) (x : ℕ) → length a ≡ length b → plus numbers a b ++ x ∷ [] ≡ plus numbers a (b ++ x ∷ [])
unfolding plus
plus_last [] [] x h = refl
plus_last [] (y ∷ b) x h = absurd (omega arith)
plus_last (z ∷ a) [] x h = absurd (omega arith)
plus_last (z ∷ a) (y ∷ b) x h = ap (λ (l : List ℕ). bit_xor z y ∷ l) (plus_last a b x (omega arith))

module _ (rs p : List ℕ) (l : ℕ) (few : length rs ≤ 16) (m : Multiplied rs p l) (more : 0 < l) where
  abbrev c : ℕ
  c = get_or rs (l - 1) 0

  abbrev pub multiplied : List ℕ
  multiplied = plus numbers (scaled c p) (0 ∷ take 15 p)

  -- the degree so far
  abbrev n : ℕ
  n = length rs - l

  degree_next : length rs - (l - 1) ≡ suc n
  degree_next = omega (arith, m.most)

  degree_low : n < 16
  degree_low = omega (arith, m.most)

  scaled_len : length (scaled c p) ≡ 16
  unfolding scale
  scaled_len = length-map p (mul c) ∙ m.len

  raised_len : length (0 ∷ take 15 p) ≡ 16
  raised_len = omega (arith, length-take-le 15 p (omega (arith, m.len)))

  same : length (scaled c p) ≡ length (0 ∷ take 15 p)
  same = scaled_len ∙ sym raised_len

  scaled_zero : (k : ℕ) → k < 16 → get_or p k 0 ≡ 0 → get_or (scaled c p) k 0 ≡ 0
  unfolding scale
  scaled_zero k h z = get_d_map_in (mul c) p 0 0 k (omega (arith, m.len)) ∙ ap (mul c) z ∙ mul_zero_right c

  high_at : (k : ℕ) → suc n < k → Dec (k < 16) → get_or multiplied k 0 ≡ 0
  high_at zero h d = absurd (omega arith)
  high_at (suc k) h (yes b) =
      sum_at (scaled c p) (0 ∷ take 15 p) (suc k) same
      ∙ ap₂ bit_xor (scaled_zero (suc k) b (m.zeros (suc k) (omega arith))) (get_or-take 15 p k 0 (omega arith) ∙ m.zeros k (omega arith))
  high_at (suc k) h (no b) = get_or-eq_default multiplied 0 {n = suc k} (omega (arith, length-sum (scaled c p) (0 ∷ take 15 p) same, scaled_len))

  lead_at : suc n < 16 → get_or multiplied (suc n) 0 ≡ 1
  lead_at h =
      sum_at (scaled c p) (0 ∷ take 15 p) (suc n) same
      ∙ ap₂ bit_xor (scaled_zero (suc n) h (m.zeros (suc n) (omega arith))) (get_or-take 15 p n 0 (omega arith) ∙ m.lead degree_low)

  whole : take (suc n) p ≡ monic n p
  whole = take-suc p n 0 (omega (arith, m.len, degree_low)) ∙ ap (λ (x : ℕ). take n p ++ x ∷ []) (m.lead degree_low)

  low_length : length (take n p) ≡ n
  low_length = length-take-le n p (omega (arith, m.len, degree_low))

  monic_length : length (monic n p) ≡ suc n
  monic_length = length-append (take n p) (1 ∷ []) ∙ omega (arith, low_length)

  scaled_monic_length : length (scaled c (monic n p)) ≡ suc n
  unfolding scale
  scaled_monic_length = length-map (monic n p) (mul c) ∙ monic_length

  -- one factor more
  product_list : monic (suc n) multiplied ≡ plus numbers (scaled c (monic n p)) (0 ∷ monic n p)
  product_list =
      ap (λ (a : List ℕ). a ++ 1 ∷ [])
      (take_plus (suc n) (scaled c p) (0 ∷ take 15 p)
      ∙ ap₂ (plus numbers) (take_scaled (suc n) c p ∙ ap (scaled c) whole) (ap (λ (a : List ℕ). 0 ∷ a) (take-take n 15 p (omega (arith, degree_low)))))
      ∙ plus_last (scaled c (monic n p)) (0 ∷ take n p) 1 (scaled_monic_length ∙ omega (arith, low_length))

  value_at_lem : (y : Fin 256) → eval (ops bytes) (elements (monic (suc n) multiplied)) y ≡ bytes.mul (bytes.add y (byte c)) (eval (ops bytes) (elements (monic n p)) y)
  unfolding eval
  value_at_lem y =
      ap (λ (q : List ℕ). eval (ops bytes) (elements q) y) product_list
      ∙ ap (λ (q : List (Fin 256)). eval (ops bytes) q y) (elements_plus (scaled c (monic n p)) (0 ∷ monic n p))
      ∙ eval_plus bytes (elements (scaled c (monic n p))) (elements (0 ∷ monic n p)) y
      ∙ ap₂ bytes.add (ap (λ (q : List (Fin 256)). eval (ops bytes) q y) (elements_scale c (monic n p)) ∙ eval_scale bytes (byte c) (elements (monic n p)) y)
      (ap (λ (u : Fin 256). bytes.add u (bytes.mul y (eval (ops bytes) (elements (monic n p)) y))) byte_zero)
      ∙ linear_identity bytes (byte c) (eval (ops bytes) (elements (monic n p)) y) y

  pub multiplied_more : Multiplied rs multiplied (l - 1)
  unfolding from_roots
  multiplied_more =
      record {
        most = omega (arith, m.most);
        len = length-sum (scaled c p) (0 ∷ take 15 p) same ∙ scaled_len;
        zeros = λ k h. high_at k (omega (arith, degree_next)) (dec_lt k 16);
        lead = λ h. ap (λ (k : ℕ). get_or multiplied k 0) degree_next ∙ lead_at (omega (arith, degree_next));
        values = λ y.
            ap (λ (k : ℕ). eval (ops bytes) (elements (monic k multiplied)) y) degree_next
            ∙ value_at_lem y ∙ ap (λ (u : Fin 256). bytes.mul (bytes.add y (byte c)) u) (m.values y)
            ∙ sym (eval_times_linear bytes (byte c) (from_roots bytes (elements (drop l rs))) y)
            ∙ ap (λ (q : List ℕ). eval (ops bytes) (from_roots bytes (elements q)) y) (sym rest);
      }
    where
      rest : drop (l - 1) rs ≡ c ∷ drop l rs
      rest =
          let n : suc (l - 1) ≡ l = omega arith in
          drop-cons rs (l - 1) 0 (omega (arith, m.most)) ∙ ap (λ (k : ℕ). c ∷ drop k rs) n

-- ---- the value of one error

-- a is coefficient k - 1 of the quotient before the next step, u and v the sums from coefficient k on
pub record Summed (p s : List ℕ) (y a u v k : ℕ) : Type 0 where
  pub most : k < length p
  pub coefficient : byte a ≡ eval (ops bytes) (elements (drop (k + 1) p)) (byte y)
  pub numerator : byte u ≡ dot bytes (drop k (quotient_by p y)) (λ i. byte (get_or s (k + i) 0))
  pub denominator : byte v ≡ eval (ops bytes) (drop k (quotient_by p y)) (byte y)

summed_as : {p s : List ℕ} {y k a b u v w z : ℕ} → a ≡ b → u ≡ w → v ≡ z → Summed p s y a u v k → Summed p s y b w z k
summed_as {p} {s} {y} {k} {a} {b} {u} {v} {w} {z} e f g m =
    subst (λ (x : ℕ). Summed p s y b w x k) g (subst (λ (x : ℕ). Summed p s y b x v k) f (subst (λ (x : ℕ). Summed p s y x u v k) e m))

module _ (p s : List ℕ) (y n : ℕ) (nine : length p ≡ suc n) where
  abbrev quot : List (Fin 256)
  quot = quotient_by p y

  quot_length : length quot ≡ n
  quot_length = length_quotient bytes (byte y) (elements p) n (length-map p byte ∙ nine)

  quot_at : (k : ℕ) → k < n → get_or quot k bytes.𝟘 ≡ eval (ops bytes) (elements (drop (k + 1) p)) (byte y)
  quot_at k h =
      quotient_at bytes (byte y) (elements p) k (omega (arith, length-map p byte, nine))
      ∙ ap (λ (q : List (Fin 256)). eval (ops bytes) q (byte y)) (drop-map (suc k) p)
      ∙ ap (λ (j : ℕ). eval (ops bytes) (elements (drop j p)) (byte y)) (sym (add-one k))
    where
      drop-map : (k : ℕ) (l : List ℕ) → drop k (elements l) ≡ elements (drop k l)
      drop-map zero l = refl
      drop-map (suc k) [] = refl
      drop-map (suc k) (a ∷ l) = drop-map k l

  nothing : drop n quot ≡ []
  nothing = ap (λ (k : ℕ). drop k quot) (sym quot_length) ∙ drop-length quot

  past : drop (n + 1) p ≡ []
  past = let e : n + 1 ≡ length p = omega arith in ap (λ (k : ℕ). drop k p) e ∙ drop-length p

  summed_none : Summed p s y 0 0 0 n
  unfolding dot eval
  summed_none =
      record {
        most = omega arith;
        coefficient = byte_zero ∙ ap (λ (l : List ℕ). eval (ops bytes) (elements l) (byte y)) (sym past);
        numerator = byte_zero ∙ ap (λ (q : List (Fin 256)). dot bytes q (λ i. byte (get_or s (n + i) 0))) (sym nothing);
        denominator = byte_zero ∙ ap (λ (q : List (Fin 256)). eval (ops bytes) q (byte y)) (sym nothing);
      }

  module _ (a u v k : ℕ) (m : Summed p s y a u v k) (more : 0 < k) where
    down : k - 1 + 1 ≡ k
    down = omega arith

    abbrev a' : ℕ
    a' = bit_xor (mul a y) (get_or p k 0)

    next : byte a' ≡ eval (ops bytes) (elements (drop k p)) (byte y)
    next =
        byte_add (mul a y) (get_or p k 0)
        ∙ ap₂ bytes.add (byte_mul a y ∙ ap (λ (w : Fin 256). bytes.mul w (byte y)) m.coefficient) refl
        ∙ next_identity bytes (eval (ops bytes) (elements (drop (k + 1) p)) (byte y)) (byte y) (byte (get_or p k 0))
        ∙ sym (eval_from p k (byte y) (omega (arith, m.most, nine)))

    own : byte a' ≡ get_or quot (k - 1) bytes.𝟘
    own = next ∙ sym (quot_at (k - 1) (omega (arith, m.most)) ∙ ap (λ (j : ℕ). eval (ops bytes) (elements (drop j p)) (byte y)) down)

    split : drop (k - 1) quot ≡ byte a' ∷ drop k quot
    split =
        let j : suc (k - 1) ≡ k = omega arith in
        drop-cons quot (k - 1) bytes.𝟘 (omega (arith, m.most, quot_length)) ∙ ap₂ (λ (w : Fin 256) (j : ℕ). w ∷ drop j quot) (sym own) j

    summed_more : Summed p s y a' (bit_xor (mul a' (get_or s (k - 1) 0)) u) (bit_xor (mul v y) a') (k - 1)
    unfolding dot eval
    summed_more =
        record {
          most = omega (arith, m.most);
          coefficient = next ∙ ap (λ (j : ℕ). eval (ops bytes) (elements (drop j p)) (byte y)) (sym down);
          numerator =
              byte_add (mul a' (get_or s (k - 1) 0)) u
              ∙ ap₂ bytes.add
              (byte_mul a' (get_or s (k - 1) 0) ∙ ap (λ (j : ℕ). bytes.mul (byte a') (byte (get_or s j 0))) here)
              (m.numerator ∙ dot_ext bytes (drop k quot) (λ i. byte (get_or s (k + i) 0)) (λ i. byte (get_or s (k - 1 + suc i) 0)) (λ i h. ap (λ (j : ℕ). byte (get_or s j 0)) (there i)))
              ∙ ap (λ (q : List (Fin 256)). dot bytes q (λ i. byte (get_or s (k - 1 + i) 0))) (sym split);
          denominator =
              byte_add (mul v y) a'
              ∙ ap (λ (w : Fin 256). bytes.add w (byte a')) (byte_mul v y ∙ ap (λ (w : Fin 256). bytes.mul w (byte y)) m.denominator)
              ∙ next_identity bytes (eval (ops bytes) (drop k quot) (byte y)) (byte y) (byte a')
              ∙ ap (λ (q : List (Fin 256)). eval (ops bytes) q (byte y)) (sym split);
        }
      where
        here : k - 1 ≡ k - 1 + 0
        here = omega arith

        there : (i : ℕ) → k + i ≡ k - 1 + suc i
        there i = omega arith

-- ---- sixteen at once

-- the sums of each place
pub record SummedLanes (p s places a u v : List ℕ) (k : ℕ) : Type 0 where
  pub coefficients : length a ≡ 16
  pub numerators : length u ≡ 16
  pub denominators : length v ≡ 16
  pub each : (l : ℕ) → l < 16 → Summed p s (get_or places l 0) (get_or a l 0) (get_or u l 0) (get_or v l 0) k

module _ (p s places : List ℕ) (n : ℕ) (size : length p ≡ suc n) (o : length places ≡ 16) where
  pub lanes_none : SummedLanes p s places (replicate 16 0) (replicate 16 0) (replicate 16 0) n
  lanes_none =
      record {
        coefficients = refl;
        numerators = refl;
        denominators = refl;
        each = λ l h.
            subst (λ (x : ℕ). Summed p s (get_or places l 0) x x x n) (sym (zeros_at 16 l)) (summed_none p s (get_or places l 0) n size);
      }

  module _ (a u v : List ℕ) (k : ℕ) (more : 0 < k) (m : SummedLanes p s places a u v k) where
    abbrev pub next_coefficients : List ℕ
    next_coefficients = horner_step places a (get_or p k 0)

    abbrev pub next_numerators : List ℕ
    next_numerators = plus numbers (scaled (get_or s (k - 1) 0) next_coefficients) u

    abbrev pub next_denominators : List ℕ
    next_denominators = plus numbers (products_of places v) next_coefficients

    products_length : length (products_of places v) ≡ 16
    products_length = length_products places v (o ∙ sym m.denominators) ∙ o

    coefficients_length : length next_coefficients ≡ 16
    coefficients_length = length_advanced places a (get_or p k 0) o m.coefficients

    scaled_length : length (scaled (get_or s (k - 1) 0) next_coefficients) ≡ 16
    unfolding scale
    scaled_length = length-map next_coefficients (mul (get_or s (k - 1) 0)) ∙ coefficients_length

    module _ (l : ℕ) (h : l < 16) where
      -- the next coefficient of the place
      abbrev next_coefficient : ℕ
      next_coefficient = bit_xor (mul (get_or a l 0) (get_or places l 0)) (get_or p k 0)

      coefficient_at : get_or next_coefficients l 0 ≡ next_coefficient
      coefficient_at =
          advanced_at places a (get_or p k 0) o m.coefficients l h ∙ ap (λ (x : ℕ). bit_xor x (get_or p k 0)) (mul_comm (get_or places l 0) (get_or a l 0))

      numerator_at_lem : get_or next_numerators l 0 ≡ bit_xor (mul next_coefficient (get_or s (k - 1) 0)) (get_or u l 0)
      unfolding scale
      numerator_at_lem =
          sum_at (scaled (get_or s (k - 1) 0) next_coefficients) u l (scaled_length ∙ sym m.numerators)
          ∙ ap (λ (x : ℕ). bit_xor x (get_or u l 0))
          (get_d_map_in (mul (get_or s (k - 1) 0)) next_coefficients 0 0 l (omega (arith, coefficients_length)) ∙ ap (mul (get_or s (k - 1) 0)) coefficient_at ∙ mul_comm (get_or s (k - 1) 0) next_coefficient)

      denominator_at_lem : get_or next_denominators l 0 ≡ bit_xor (mul (get_or v l 0) (get_or places l 0)) next_coefficient
      denominator_at_lem =
          sum_at (products_of places v) next_coefficients l (products_length ∙ sym coefficients_length)
          ∙ ap₂ bit_xor (products_at places v l (o ∙ sym m.denominators) (omega arith) ∙ mul_comm (get_or places l 0) (get_or v l 0)) coefficient_at

      lane_more : Summed p s (get_or places l 0) (get_or next_coefficients l 0) (get_or next_numerators l 0) (get_or next_denominators l 0) (k - 1)
      lane_more =
          summed_as (sym coefficient_at) (sym numerator_at_lem) (sym denominator_at_lem)
          (summed_more p s (get_or places l 0) n size (get_or a l 0) (get_or u l 0) (get_or v l 0) k (m.each l h) more)

    lanes_next : SummedLanes p s places next_coefficients next_numerators next_denominators (k - 1)
    lanes_next =
        record {
          coefficients = coefficients_length;
          numerators = length-sum (scaled (get_or s (k - 1) 0) next_coefficients) u (scaled_length ∙ sym m.numerators) ∙ scaled_length;
          denominators = length-sum (products_of places v) next_coefficients (products_length ∙ sym coefficients_length) ∙ products_length;
          each = lane_more;
        }

    -- the same, with each step's result named
    pub lanes_more : (c z w y v' : List ℕ) → c ≡ next_coefficients → z ≡ scaled (get_or s (k - 1) 0) c → w ≡ plus numbers z u → y ≡ products_of places v → v' ≡ plus numbers y c
        → SummedLanes p s places c w v' (k - 1)
    lanes_more c z w y v' f ez ew ey ev =
        let g : w ≡ next_numerators = ew ∙ ap (λ (b : List ℕ). plus numbers b u) (ez ∙ ap (scaled (get_or s (k - 1) 0)) f) in
        let h : v' ≡ next_denominators = ev ∙ ap₂ (plus numbers) ey f in
        subst (λ (b : List ℕ). SummedLanes p s places b w v' (k - 1)) (sym f)
        (subst (λ (b : List ℕ). SummedLanes p s places next_coefficients b v' (k - 1)) (sym g)
        (subst (λ (b : List ℕ). SummedLanes p s places next_coefficients next_numerators b (k - 1)) (sym h) lanes_next))

-- the value of an error from its fraction: lane l of the products by the inverses
module _ (p s places u v w r : List ℕ) (f : FractionsAt p s places u v) (e : w ≡ map inv v) (g : r ≡ products_of u w) where
  inverse_length : length w ≡ 16
  inverse_length = ap length e ∙ length-map v inv ∙ f.denominators_length

  quotient_lane : (l : ℕ) → l < 16 → get_or r l 0 ≡ mul (get_or u l 0) (inv (get_or v l 0))
  quotient_lane l h =
      ap (λ (x : List ℕ). get_or x l 0) g ∙ products_at u w l (f.numerators_length ∙ sym inverse_length) (omega (arith, f.numerators_length))
      ∙ ap (mul (get_or u l 0)) (ap (λ (x : List ℕ). get_or x l 0) e ∙ get_d_map_in inv v 0 0 l (omega (arith, f.denominators_length)))

  pub value_small : (l : ℕ) → l < 16 → get_or r l 0 < 256
  value_small l h = subst (λ (x : ℕ). x < 256) (sym (quotient_lane l h)) (mul_lt (get_or u l 0) (inv (get_or v l 0)))

  pub value_of : (l : ℕ) → l < 16 → byte (get_or r l 0) ≡ error_value p s (get_or places l 0)
  unfolding error_value
  value_of l h =
      ap byte (quotient_lane l h) ∙ byte_mul (get_or u l 0) (inv (get_or v l 0))
      ∙ ap₂ bytes.mul (f.numerator l h) (byte_inv (get_or v l 0) ∙ ap bytes.inv (f.denominator l h))

-- ---- one error alone

-- its value is the first syndrome
alone_at : (p s : List ℕ) (y : ℕ) → 0 < length p → byte (get_or s 0 0) ≡ error_value (monic 1 p) s y
unfolding error_value quotient horner dot eval
alone_at [] s y h = absurd (omega arith)
alone_at (a ∷ p) s y h = sym (alone_identity bytes (byte 1) (byte y) (byte (get_or s 0 0)) byte_one)

pub value_alone : (p s places : List ℕ) (count : ℕ) → length p ≡ 16 → get_or s 0 0 < 256 → count ≡ 1 → ErrorValues p s places count (get_or s 0 0 ∷ replicate 15 0)
value_alone p s places count n b e =
    record {
      own = λ l h. first l (omega arith) ∙ alone_at p s (get_or places l 0) (omega arith) ∙ ap (λ (k : ℕ). error_value (monic k p) s (get_or places l 0)) (sym e);
      small = λ l h. subst (λ (k : ℕ). get_or {A = ℕ} (get_or s 0 0 ∷ replicate 15 0) k 0 < 256) (nothing l (omega arith)) b;
      rest = λ l h. rest l (omega arith);
    }
  where
    nothing : (l : ℕ) → l < 1 → 0 ≡ l
    nothing l h = omega arith

    first : (l : ℕ) → l < 1 → byte (get_or {A = ℕ} (get_or s 0 0 ∷ replicate 15 0) l 0) ≡ byte (get_or s 0 0)
    first l h = ap (λ (k : ℕ). byte (get_or {A = ℕ} (get_or s 0 0 ∷ replicate 15 0) k 0)) (sym (nothing l h))

    rest : (l : ℕ) → 1 ≤ l → get_or {A = ℕ} (get_or s 0 0 ∷ replicate 15 0) l 0 ≡ 0
    rest zero h = absurd (omega arith)
    rest (suc l) h = zeros_at 15 l
