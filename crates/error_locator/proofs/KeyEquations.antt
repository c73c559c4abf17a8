-- The steps of the elimination that finds the locator, on eight rows of sixteen bytes.
-- Assumes nothing.
use mathlib.Core.Path.{◌≡◌, refl, sym, ap, ap₂, ◌∙◌}
use mathlib.Core.Bool.{true}
use mathlib.Core.List.{List, ◌++◌}
use mathlib.Core.Logic.{◌⊎◌, inl, inr}
use Prim.Native.Nat.{ℕ, ◌+◌, ◌*◌, ◌<◌, ◌≤◌, Fin}
use native.Mathlib.Omega.{arith}
use native.Mathlib.Numerals.{add-one}
use native.Mathlib.Decide.{ℕ_discrete, dec_lt}
use lib.Dec.{lit<}
use lib.Bits.{bit_xor}
use lib.ListN.{length, get_or, take, drop, replicate, get_or-replicate, length-map, length-drop, get_or-map, get_or-eq_default}
use lib.Seq.{get_or-take, get_or-drop, length-take-le}
use Rattle.common.proofs.Lists.{get_d_map_in, put_own, put_other}
use Rattle.algebra.specs.Polynomial.{plus, scale}
use Rattle.algebra.proofs.Ring.{zero_add, one_mul, mul_comm, mul_ne}
use Rattle.algebra.proofs.Elimination.{CombineRow, MulRow, Reach, Vector, Sol, solves, kernel_key, kernel_nonzero, sum_ext, reach_combine, reach_mul, diagonal_combine, diagonal_more, swept_skip, swept_row, combine_fewer, mul_fewer}
use Rattle.galois.specs.Field256.{numbers, mul, scaled}
use Rattle.galois.proofs.Instance.{bytes, byte, byte_inj, byte_zero, byte_one, byte_add, byte_mul}
use Rattle.galois.proofs.Words.{length-sum, sum_at, length_products, products_at, length_scaled}
use Rattle.galois.specs.Lanes.{products_of}
use Rattle.galois.proofs.Elements.{elements}
use Rattle.error_locator.specs.Locator.{mat, FirstPivot, combined_of, Reduced, Pivoted, Cleared, Eliminated, Filled, SolutionAt, Solution, Located}

-- ---- a row written anew

module _ (m row : List ℕ) (i : ℕ) (lm : length m ≡ 128) (li : i < 8) (lr : length row ≡ 16) where
  abbrev pub replaced : List ℕ
  replaced = take (i * 16) m ++ row ++ drop (i * 16 + length row) m

  row_own : (c : ℕ) → c < 16 → mat replaced i c ≡ byte (get_or row c 0)
  row_own c h = ap byte (put_own m row (i * 16) c (omega arith) (omega arith))

  row_other : (r c : ℕ) → r < 8 → c < 16 → (r ≡ i → ⊥) → mat replaced r c ≡ mat m r c
  row_other r c lr' lc n = ap byte (put_other m row (i * 16) (r * 16 + c) (omega arith) (omega arith) (go (dec_lt r i)))
    where
      go : Dec (r < i) → (r * 16 + c < i * 16) ⊎ (i * 16 + length row ≤ r * 16 + c)
      go (yes h) = inl (omega arith)
      go (no h) = inr (omega arith)

-- one row as a list
row_at : (m : List ℕ) (i c : ℕ) → c < 16 → byte (get_or (take 16 (drop (i * 16) m)) c 0) ≡ mat m i c
row_at m i c h = ap byte (get_or-take 16 (drop (i * 16) m) c 0 h ∙ get_or-drop (i * 16) m c 0)

row_length : (m : List ℕ) (i : ℕ) → length m ≡ 128 → i < 8 → length (take 16 (drop (i * 16) m)) ≡ 16
row_length m i l h = length-take-le 16 (drop (i * 16) m) (omega (arith, length-drop (i * 16) m))

scaled_at : (a : ℕ) (l : List ℕ) (c : ℕ) → c < length l → byte (get_or (scaled a l) c 0) ≡ bytes.mul (byte a) (byte (get_or l c 0))
unfolding scale
scaled_at a l c h = ap byte (get_d_map_in (mul a) l 0 0 c h) ∙ byte_mul a (get_or l c 0)

module _ (m new : List ℕ) (i a : ℕ) (lm : length m ≡ 128) (li : i < 8) where
  pub scaled_row : (row : List ℕ) → row ≡ scaled a (take 16 (drop (i * 16) m)) → new ≡ take (i * 16) m ++ row ++ drop (i * 16 + length row) m
      → MulRow bytes 8 9 i (byte a) (mat m) (mat new)
  scaled_row row e f =
      let n : length row ≡ 16 = ap length e ∙ length_scaled a (take 16 (drop (i * 16) m)) ∙ row_length m i lm li in
      record {
        other = λ r c h l x. ap (λ (u : List ℕ). mat u r c) f ∙ row_other m row i lm li n r c h (omega arith) x;
        row =
            λ c h. ap (λ (u : List ℕ). mat u i c) f ∙ row_own m row i lm li n c (omega arith) ∙ ap (λ (u : List ℕ). byte (get_or u c 0)) e
            ∙ scaled_at a (take 16 (drop (i * 16) m)) c (omega (arith, row_length m i lm li))
            ∙ ap (λ (u : Fin 256). bytes.mul (byte a) u) (row_at m i c (omega arith));
      }

-- one row and another
added_at : (m : List ℕ) (i j c : ℕ) → length m ≡ 128 → i < 8 → j < 8 → c < 16
    → byte (get_or (plus numbers (take 16 (drop (i * 16) m)) (take 16 (drop (j * 16) m))) c 0) ≡ bytes.add (mat m i c) (mat m j c)
added_at m i j c lm li lj h =
    ap byte (sum_at (take 16 (drop (i * 16) m)) (take 16 (drop (j * 16) m)) c (row_length m i lm li ∙ sym (row_length m j lm lj)))
    ∙ byte_add (get_or (take 16 (drop (i * 16) m)) c 0) (get_or (take 16 (drop (j * 16) m)) c 0)
    ∙ ap₂ bytes.add (row_at m i c h) (row_at m j c h)

pub added_row : (m new row : List ℕ) (i j : ℕ) → length m ≡ 128 → i < 8 → j < 8 → row ≡ plus numbers (take 16 (drop (i * 16) m)) (take 16 (drop (j * 16) m))
    → new ≡ take (i * 16) m ++ row ++ drop (i * 16 + length row) m → CombineRow bytes 8 9 i j bytes.𝟙 bytes.𝟙 (mat m) (mat new)
added_row m new row i j lm li lj e f =
    let n : length row ≡ 16 =
    ap length e ∙ length-sum (take 16 (drop (i * 16) m)) (take 16 (drop (j * 16) m)) (row_length m i lm li ∙ sym (row_length m j lm lj)) ∙ row_length m i lm li in
    record {
      other = λ r c h l x. ap (λ (u : List ℕ). mat u r c) f ∙ row_other m row i lm li n r c h (omega arith) x;
      row =
          λ c h. ap (λ (u : List ℕ). mat u i c) f ∙ row_own m row i lm li n c (omega arith) ∙ ap (λ (u : List ℕ). byte (get_or u c 0)) e
          ∙ added_at m i j c lm li lj (omega arith)
          ∙ sym (ap₂ bytes.add (one_mul bytes (mat m i c)) (one_mul bytes (mat m j c)));
    }

-- ---- two rows combined

module _ (p a b f : List ℕ) (lp : length p ≡ 16) (la : length a ≡ 16) (lb : length b ≡ 16) (lf : length f ≡ 16) where
  sides : length (products_of p a) ≡ length (products_of b f)
  sides = length_products p a (lp ∙ sym la) ∙ lp ∙ sym (length_products b f (lb ∙ sym lf) ∙ lb)

  pub length_combined : length (combined_of p a b f) ≡ 16
  unfolding combined_of
  length_combined = length-sum (products_of p a) (products_of b f) sides ∙ length_products p a (lp ∙ sym la) ∙ lp

  pub combined_at : (c : ℕ) → c < 16 → get_or (combined_of p a b f) c 0 ≡ bit_xor (mul (get_or p c 0) (get_or a c 0)) (mul (get_or b c 0) (get_or f c 0))
  unfolding combined_of
  combined_at c h =
      sum_at (products_of p a) (products_of b f) c sides
      ∙ ap₂ bit_xor (products_at p a c (lp ∙ sym la) (omega arith)) (products_at b f c (lb ∙ sym lf) (omega arith))

-- row i of m with row k of o, which has the same row k
pub combined_row : (o m new row : List ℕ) (i k p x : ℕ) → length o ≡ 128 → length m ≡ 128 → i < 8 → k < 8 → ((c : ℕ) → c < 9 → mat m k c ≡ mat o k c)
    → row ≡ combined_of (replicate 16 p) (take 16 (drop (i * 16) m)) (take 16 (drop (k * 16) o)) (replicate 16 x)
    → new ≡ take (i * 16) m ++ row ++ drop (i * 16 + length row) m → CombineRow bytes 8 9 i k (byte p) (byte x) (mat m) (mat new)
combined_row o m new row i k p x lo lm li lk own e f =
    let a = row_length m i lm li in
    let b = row_length o k lo lk in
    let n : length row ≡ 16 = ap length e ∙ length_combined (replicate 16 p) (take 16 (drop (i * 16) m)) (take 16 (drop (k * 16) o)) (replicate 16 x) refl a b refl in
    record {
      other = λ r c h l x. ap (λ (u : List ℕ). mat u r c) f ∙ row_other m row i lm li n r c h (omega arith) x;
      row =
          λ c h. ap (λ (u : List ℕ). mat u i c) f ∙ row_own m row i lm li n c (omega arith) ∙ ap (λ (u : List ℕ). byte (get_or u c 0)) e
          ∙ ap byte (combined_at (replicate 16 p) (take 16 (drop (i * 16) m)) (take 16 (drop (k * 16) o)) (replicate 16 x) refl a b refl c (omega arith))
          ∙ byte_add (mul (get_or (replicate 16 p) c 0) (get_or (take 16 (drop (i * 16) m)) c 0)) (mul (get_or (take 16 (drop (k * 16) o)) c 0) (get_or (replicate 16 x) c 0))
          ∙ ap₂ bytes.add
          (byte_mul (get_or (replicate 16 p) c 0) (get_or (take 16 (drop (i * 16) m)) c 0)
          ∙ ap₂ bytes.mul (ap byte (get_or-replicate 16 c p 0 (omega arith))) (row_at m i c (omega arith)))
          (byte_mul (get_or (take 16 (drop (k * 16) o)) c 0) (get_or (replicate 16 x) c 0)
          ∙ ap₂ bytes.mul (row_at o k c (omega arith) ∙ sym (own c h)) (ap byte (get_or-replicate 16 c x 0 (omega arith)))
          ∙ mul_comm bytes (mat m k c) (byte x));
    }

-- ---- the elimination

-- rows k to p are zero in column k
pub record Looked (m : List ℕ) (size k p : ℕ) : Type 0 where
  pub from : k ≤ p
  pub most : p ≤ size
  pub zeros : (r : ℕ) → k ≤ r → r < p → mat m r k ≡ bytes.𝟘

pub looked_step : (m : List ℕ) (size k p : ℕ) → p < size → get_or m (p * 16 + k) 0 ≡ 0 → Looked m size k p → Looked m size k (p + 1)
looked_step m size k p l e U = record { from = omega arith; most = omega arith; zeros = λ r a b. go r a b (ℕ_discrete r p) }
  where
    go : (r : ℕ) → k ≤ r → r < p + 1 → Dec (r ≡ p) → mat m r k ≡ bytes.𝟘
    go r a b (yes q) = ap (λ u. mat m u k) q ∙ ap byte e ∙ byte_zero
    go r a b (no q) = U.zeros r a (omega arith)

pub looked_found : (m : List ℕ) (size k p : ℕ) → get_or m (p * 16 + k) 0 < 256 → (get_or m (p * 16 + k) 0 ≡ 0 → ⊥) → Looked m size k p → FirstPivot m size k p
looked_found m size k p b n U = record { from = U.from; most = U.most; zeros = U.zeros; pivot = λ l e. n (byte_inj (get_or m (p * 16 + k) 0) 0 b (lit< tt) (e ∙ sym byte_zero)) }

-- ---- the pivot

pub pivoted_add : (m n : List ℕ) (size k p : ℕ) → size ≤ 8 → (p ≡ k → ⊥) → p < size → length n ≡ 128 → FirstPivot m size k p
    → CombineRow bytes 8 9 k p bytes.𝟙 bytes.𝟙 (mat m) (mat n) → Pivoted m n size k true
pivoted_add m n size k p z ne l len F A = record {
  len = len;
  reach = reach_combine bytes size 9 k p bytes.𝟙 bytes.𝟙 (mat m) (mat n) l ne bytes.one·ne·zero few;
  diagonal = λ d D. diagonal_combine bytes size 9 k k p bytes.𝟙 bytes.𝟙 d (mat m) (mat n) (omega arith) (omega (arith, F.from)) F.from l (omega (arith, F.from)) few D;
  outcome = λ z. F.pivot l (sym at ∙ z);
}
  where
    few : CombineRow bytes size 9 k p bytes.𝟙 bytes.𝟙 (mat m) (mat n)
    few = combine_fewer bytes size 8 9 k p bytes.𝟙 bytes.𝟙 (mat m) (mat n) z A

    at : mat n k k ≡ mat m p k
    at =
        A.row k (omega (arith, F.from))
        ∙ ap₂ bytes.add (one_mul bytes (mat m k k) ∙ F.zeros k (omega arith) (omega (arith, F.from))) (one_mul bytes (mat m p k))
        ∙ zero_add bytes (mat m p k)

-- ---- the column cleared

pub cleared_skip : (o m : List ℕ) (size k i : ℕ) → i < size → i ≡ k → Cleared o m size k i → Cleared o m size k (i + 1)
cleared_skip o m size k i l e C = record { len = C.len; most = omega arith; reach = C.reach; swept = rw add-one (swept_skip bytes size 9 k i (mat o) (mat m) e C.swept) }

pub cleared_step_lem : (o m n : List ℕ) (size k i : ℕ) → size ≤ 8 → i < size → k < size → (i ≡ k → ⊥) → (mat o k k ≡ bytes.𝟘 → ⊥) → length n ≡ 128
    → CombineRow bytes 8 9 i k (mat o k k) (mat m i k) (mat m) (mat n) → Cleared o m size k i → Cleared o n size k (i + 1)
cleared_step_lem o m n size k i z li lk ne nz len A C = record {
  len = len;
  most = omega arith;
  reach = λ v s. C.reach v (reach_combine bytes size 9 i k (mat o k k) (mat m i k) (mat m) (mat n) lk (λ e. ne (sym e)) nz few v s);
  swept = rw add-one (swept_row bytes size 9 k i (mat o) (mat m) (mat n) lk (omega arith) li ne few C.swept);
}
  where
    few : CombineRow bytes size 9 i k (mat o k k) (mat m i k) (mat m) (mat n)
    few = combine_fewer bytes size 8 9 i k (mat o k k) (mat m i k) (mat m) (mat n) z A

-- ---- all columns

pub kept_start : (m : List ℕ) (size : ℕ) → length m ≡ 128 → Reduced m m size 0 (byte 1)
kept_start m size l = record {
  len = l;
  reach = λ v s. s;
  diagonal = record { off = λ r c a b. absurd (omega arith); on = λ c b. absurd (omega arith) };
  nonzero = λ z. bytes.one·ne·zero (sym byte_one ∙ z);
}

pub kept_more : (o m n p q : List ℕ) (size k : ℕ) (d e : Fin 256) → size ≤ 8 → k < size → Reduced o m size k d → Pivoted m n size k true → Cleared n p size k size → length q ≡ 128
    → MulRow bytes 8 9 k d (mat p) (mat q) → e ≡ mat q k k → Reduced o q size (k + 1) e
kept_more o m n p q size k d e z l P Q C len A f = record {
  len = len;
  reach = λ v s. P.reach v (Q.reach v (C.reach v (reach_mul bytes size 9 k d (mat p) (mat q) P.nonzero few v s)));
  diagonal = rw (add-one, element) (diagonal_more bytes size 9 k d (mat n) (mat p) (mat q) l (omega arith) (Q.diagonal d P.diagonal) C.swept few);
  nonzero = λ z. mul_ne bytes d (mat n k k) P.nonzero Q.outcome (sym element ∙ z);
}
  where
    few : MulRow bytes size 9 k d (mat p) (mat q)
    few = mul_fewer bytes size 8 9 k d (mat p) (mat q) z A

    element : e ≡ bytes.mul d (mat n k k)
    element = f ∙ A.row k (omega arith) ∙ ap (λ u. bytes.mul d u) (C.swept.own k (omega arith))

-- ---- the matrix of the key equations, and the solution read from it

-- the first i rows are filled in
pub record FilledTo (s m : List ℕ) (size i : ℕ) : Type 0 where
  pub most : i ≤ size
  pub len : length m ≡ 128
  pub each : (r c : ℕ) → r < i → c < 9 → get_or m (r * 16 + c) 0 ≡ get_or s (r + c) 0

pub solution_above : (m : List ℕ) (k d c : ℕ) → k ≤ c → (c ≡ k → ⊥) → SolutionAt m k d c 0
solution_above m k d c l n = record { below = λ b. absurd (omega arith); own = λ b. absurd (n b); above = λ b. byte_zero }

elements_at : (q : List ℕ) (c : ℕ) → get_or (elements q) c bytes.𝟘 ≡ byte (get_or q c 0)
elements_at q c = ap (λ u. get_or (elements q) c u) (sym byte_zero) ∙ get_or-map byte q c 0

pub located : (s m n q : List ℕ) (size k d : ℕ) → size ≤ 8 → length q ≡ 9 → Filled s size m → Eliminated m n size k (byte d) → Solution n k d q → Located s size q
located s m n q size k d z l F E R =
    record {
      nonzero = kernel_nonzero bytes 9 k (byte d) (mat n) (elements q) (omega (arith, length-map q byte, E.most)) E.kept.nonzero vec;
      zeros = λ c h. above c h (dec_lt c 9);
      equations = kernel_key bytes size 9 (λ i. byte (get_or s i 0)) (mat n) (elements q) (length-map q byte ∙ l) reach sol;
    }
  where
    above : (c : ℕ) → size < c → Dec (c < 9) → get_or (elements q) c bytes.𝟘 ≡ bytes.𝟘
    above c h (yes b) = elements_at q c ∙ (R.each c b).above (omega (arith, E.most))
    above c h (no b) = get_or-eq_default (elements q) bytes.𝟘 {n = c} (omega (arith, length-map q byte))

    vec : Vector bytes 9 k (byte d) (mat n) (λ c. get_or (elements q) c bytes.𝟘)
    vec =
        record {
          below = λ c b. elements_at q c ∙ (R.each c (omega (arith, E.most))).below b;
          own = elements_at q k ∙ (R.each k (omega (arith, E.most))).own refl;
          above = λ c b l. elements_at q c ∙ (R.each c l).above b;
        }

    sol : Sol bytes size 9 (mat n) (λ c. get_or (elements q) c bytes.𝟘)
    sol = solves bytes size 9 k (byte d) (mat n) (λ c. get_or (elements q) c bytes.𝟘) E.most (omega (arith, E.most)) E.kept.diagonal E.none vec

    reach : Reach bytes size 9 (λ r c. byte (get_or s (r + c) 0)) (mat n)
    reach v z r l =
        sum_ext bytes 9 (λ c. bytes.mul (byte (get_or s (r + c) 0)) (v c)) (λ c. bytes.mul (mat m r c) (v c))
        (λ c b. ap (λ u. bytes.mul u (v c)) (ap byte (sym (F.each r c l b)))) ∙ E.kept.reach v z r l
