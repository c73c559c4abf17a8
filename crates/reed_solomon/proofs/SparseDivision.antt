-- The division by the sparse multiple of g: its quotient and what is left satisfy m = h q + r, so that what is left has the values of m at the roots of g.
-- Lists of coefficients have the highest first.
-- Assumes nothing.
use mathlib.Core.Path.{◌≡◌, refl, sym, ap, ap₂, ◌∙◌}
use mathlib.Core.List.{List, [], ◌∷◌, ◌++◌, append_assoc, reverse, reverse-reverse}
use mathlib.Core.Logic.{inl, inr}
use Prim.Native.Nat.{ℕ, ◌+◌, ◌-◌, ◌≤◌, ◌<◌, Fin}
use Prim.{tt}
use native.Mathlib.Decide.{dec_lt}
use native.Mathlib.Numerals.{add-one}
use native.Mathlib.Omega.{arith}
use lib.Bits.{bit_xor, xor_zero_l, xor_zero_r}
use lib.Dec.{leb, leb→le}
use lib.ListN.{length, get_or, take, drop, replicate, length-append, length-drop, length-replicate, replicate-append-replicate, get_or-append, get_or-eq_default}
use lib.Seq.{take-suc, take_at, drop_at, take-append-add, length-take-le, get_or-take, get_or-drop, get_or-append-add, ext_get_or}
use Rattle.common.specs.Lists.{All}
use Rattle.common.proofs.Computed.{at}
use Rattle.common.proofs.Lists.{All-of, put_own, put_other, zeros_at}
use Rattle.common.proofs.Xor.{xor_assoc, xor_undo}
use Rattle.algebra.specs.Field.{Field, ops}
use Rattle.algebra.specs.Polynomial.{power, eval, plus}
use Rattle.algebra.proofs.Ring.{ring, add_zero, mul_zero, zero_mul, zero_add}
use Rattle.galois.specs.Field256.{numbers}
use Rattle.galois.proofs.Instance.{bytes, byte_one}
use Rattle.galois.proofs.Elements.{elements, alpha}
use Rattle.galois.proofs.Words.{length-sum, sum_at}
use Rattle.reed_solomon.specs.Steps.{delays, delayed_sum, DelayedSums, SparseQuotient, SparseRemainder, SameValues}
use Rattle.reed_solomon.proofs.LongDivision.{high, high_one, high_append, high_plus, high_zeros}
use Rattle.reed_solomon.proofs.SparseMultiple.{sparse, sparse_root}

-- ---- delayed sums

module _ (q : List ℕ) (n : ℕ) where
  delayed_more : (ds : List ℕ) (d x : ℕ) → delayed_sum (ds ++ d ∷ []) q n x ≡ bit_xor (delayed_sum ds q n x) (get_or q (n - d) 0)
  unfolding delayed_sum
  delayed_more [] d x = refl
  delayed_more (e ∷ ds) d x = delayed_more ds d (bit_xor x (get_or q (n - e) 0))

  delayed_out : (ds : List ℕ) (x y : ℕ) → delayed_sum ds q n (bit_xor x y) ≡ bit_xor x (delayed_sum ds q n y)
  unfolding delayed_sum
  delayed_out [] x y = refl
  delayed_out (d ∷ ds) x y = ap (delayed_sum ds q n) (xor_assoc x y (get_or q (n - d) 0)) ∙ delayed_out ds x (bit_xor y (get_or q (n - d) 0))

  delayed_sum_lem : (ds : List ℕ) (x : ℕ) → delayed_sum ds q n x ≡ bit_xor x (delayed_sum ds q n 0)
  delayed_sum_lem ds x = ap (delayed_sum ds q n) (sym (xor_zero_r x)) ∙ delayed_out ds x 0

  -- twice is as if it had not been
  delayed_twice : (ds : List ℕ) (x : ℕ) → delayed_sum ds q n (delayed_sum ds q n x) ≡ x
  delayed_twice ds x = delayed_sum_lem ds (delayed_sum ds q n x) ∙ ap (λ (y : ℕ). bit_xor y (delayed_sum ds q n 0)) (delayed_sum_lem ds x) ∙ xor_undo x (delayed_sum ds q n 0)

-- with delays of sixteen and more, sixteen places need what stands before them alone
delayed_same : (ds p q : List ℕ) (b n x : ℕ) → All (λ d. 16 ≤ d) ds → 0 < b → n < b + 16 → ((k : ℕ) → k < b → get_or p k 0 ≡ get_or q k 0) → delayed_sum ds p n x ≡ delayed_sum ds q n x
unfolding delayed_sum
delayed_same [] p q b n x a z h e = refl
delayed_same (d ∷ ds) p q b n x a z h e =
    ap (λ (y : ℕ). delayed_sum ds p n (bit_xor x y)) (e (n - d) (omega (arith, a.0))) ∙ delayed_same ds p q b n (bit_xor x (get_or q (n - d) 0)) a.1 z h e

long : All (λ d. 16 ≤ d) delays
long = All-of (λ d. 16 ≤ d) delays 0 (λ i h. leb→le 16 (get_or delays i 0) (at (λ k d. leb 16 d) delays tt i h))

pub short : All (λ d. d ≤ 84) delays
short = All-of (λ d. d ≤ 84) delays 0 (λ i h. leb→le (get_or delays i 0) 84 (at (λ k d. leb d 84) delays tt i h))

-- ---- the loops

pub sums_none : (q : List ℕ) (n : ℕ) (v : List ℕ) → DelayedSums [] q n v v
unfolding delayed_sum
sums_none q n v = record { each = λ j h. refl }

pub sums_more : (ds q v r w s : List ℕ) (n k : ℕ) → k < length ds → get_or ds k 0 ≤ n → length r ≡ 16 → length w ≡ 16 → w ≡ take 16 (drop (n - get_or ds k 0) q) → s ≡ plus numbers r w
    → DelayedSums (take k ds) q n v r → DelayedSums (take (k + 1) ds) q n v s
sums_more ds q v r w s n k h b lr lw e f D =
    record {
      each = λ j l.
          let a : n - get_or ds k 0 + j ≡ n + j - get_or ds k 0 = omega arith in
          ap (λ (x : List ℕ). get_or x j 0) f ∙ sum_at r w j (lr ∙ sym lw)
          ∙ ap₂ bit_xor (D.each j l)
          (ap (λ (x : List ℕ). get_or x j 0) e ∙ get_or-take 16 (drop (n - get_or ds k 0) q) j 0 l ∙ get_or-drop (n - get_or ds k 0) q j 0 ∙ ap (λ (i : ℕ). get_or q i 0) a)
          ∙ sym (delayed_more q (n + j) (take k ds) (get_or ds k 0) (get_or v j 0))
          ∙ ap (λ (x : List ℕ). delayed_sum x q (n + j) (get_or v j 0)) (sym (ap (λ (i : ℕ). take i ds) (add-one k) ∙ take-suc ds k 0 h));
    }

pub quotient_none : (m : List ℕ) → SparseQuotient m (replicate 320 0) 0
quotient_none m = record { before = λ k h. zeros_at 320 k; each = λ k h. absurd (omega arith); after = λ k h. zeros_at 320 k }

module _ (m q v p : List ℕ) (i : ℕ) (h : i + 16 ≤ 128) (lq : length q ≡ 320) (lv : length v ≡ 16) (lp : length p ≡ 320)
    (e : DelayedSums delays q (i + 84) (take 16 (drop i m)) v) (f : p ≡ take (i + 84) q ++ v ++ drop (i + 84 + length v) q) where
  fits : i + 84 + length v ≤ length q
  fits = omega arith

  other : (k : ℕ) → k < i + 84 → get_or p k 0 ≡ get_or q k 0
  other k l = ap (λ (r : List ℕ). get_or r k 0) f ∙ put_other q v (i + 84) k fits (omega arith) (inl l)

  past : (k : ℕ) → i + 84 + 16 ≤ k → get_or q k 0 ≡ 0 → get_or p k 0 ≡ 0
  past k l z = go (dec_lt k 320)
    where
      go : Dec (k < 320) → get_or p k 0 ≡ 0
      go (yes b) = ap (λ (r : List ℕ). get_or r k 0) f ∙ put_other q v (i + 84) k fits (omega arith) (inr (omega arith)) ∙ z
      go (no b) = get_or-eq_default p 0 {n = k} (omega arith)

  own : (j : ℕ) → j < 16 → get_or p (i + 84 + j) 0 ≡ delayed_sum delays q (i + 84 + j) (get_or m (i + j) 0)
  own j l =
      ap (λ (r : List ℕ). get_or r (i + 84 + j) 0) f ∙ put_own q v (i + 84) j fits (omega arith) ∙ e.each j l
      ∙ ap (delayed_sum delays q (i + 84 + j)) (get_or-take 16 (drop i m) j 0 l ∙ get_or-drop i m j 0)

  -- the sums are those of the new list
  anew : (n x : ℕ) → n < i + 84 + 16 → delayed_sum delays q n x ≡ delayed_sum delays p n x
  anew n x l = delayed_same delays q p (i + 84) n x long (omega arith) l (λ k b. sym (other k b))

  pub quotient_more : SparseQuotient m q i → SparseQuotient m p (i + 16)
  quotient_more s =
      record {
        before = λ k l. other k (omega arith) ∙ s.before k l;
        each = λ k l. go k l (dec_lt k i);
        after = λ k l. past k (omega arith) (s.after k (omega arith));
      }
    where
      go : (k : ℕ) → k < i + 16 → Dec (k < i) → get_or p (84 + k) 0 ≡ delayed_sum delays p (84 + k) (get_or m k 0)
      go k l (yes b) = other (84 + k) (omega arith) ∙ s.each k b ∙ anew (84 + k) (get_or m k 0) (omega arith)
      go k l (no b) =
          let n : 84 + k ≡ i + 84 + (k - i) = omega arith in
          let a : i + (k - i) ≡ k = omega arith in
          ap (λ (x : ℕ). get_or p x 0) n ∙ own (k - i) (omega arith)
          ∙ ap₂ (λ (x y : ℕ). delayed_sum delays q x (get_or m y 0)) (sym n) a ∙ anew (84 + k) (get_or m k 0) (omega arith)

pub remainder_more : (m q r v s : List ℕ) (i : ℕ) → i + 16 ≤ 96 → length r ≡ 96 → length v ≡ 16 → DelayedSums delays q (i + 212) (take 16 (drop (i + 128) m)) v
    → s ≡ take i r ++ v ++ drop (i + length v) r → SparseRemainder m q r i → SparseRemainder m q s (i + 16)
remainder_more m q r v s i h lr lv e f R = record { each = λ k l. ap (λ (x : List ℕ). get_or x k 0) f ∙ go k l (dec_lt k i) }
  where
    go : (k : ℕ) → k < i + 16 → Dec (k < i) → get_or (take i r ++ v ++ drop (i + length v) r) k 0 ≡ delayed_sum delays q (212 + k) (get_or m (128 + k) 0)
    go k l (yes b) = put_other r v i k (omega arith) (omega arith) (inl b) ∙ R.each k b
    go k l (no b) =
        let n : k ≡ i + (k - i) = omega arith in
        let a : i + 212 + (k - i) ≡ 212 + k = omega arith in
        let c : i + 128 + (k - i) ≡ 128 + k = omega arith in
        ap (λ (x : ℕ). get_or (take i r ++ v ++ drop (i + length v) r) x 0) n ∙ put_own r v i (k - i) (omega arith) (omega arith) ∙ e.each (k - i) (omega arith)
        ∙ ap₂ (λ (x y : ℕ). delayed_sum delays q x y) a
        (get_or-take 16 (drop (i + 128) m) (k - i) 0 (omega arith) ∙ get_or-drop (i + 128) m (k - i) 0 ∙ ap (λ (x : ℕ). get_or m x 0) c)

-- ---- a multiple of h

-- q, d places later
unfoldable delayed : ℕ → List ℕ → List ℕ
delayed d q = replicate d 0 ++ (q ++ replicate (84 - d) 0)

-- z, and q after each delay
unfoldable spread : List ℕ → List ℕ → List ℕ → List ℕ
spread [] q z = z
spread (d ∷ ds) q z = spread ds q (plus numbers z (delayed d q))

module _ (K : Field) where
  open K use {F, add as ◌⊕◌, mul as ◌⊗◌, 𝟘, 𝟙}

  infixl 65 ◌⊕◌
  infixl 70 ◌⊗◌
  spread_identity : (p t h z : F) → t ⊗ h ⊕ (z ⊕ p ⊗ h) ≡ (p ⊕ t) ⊗ h ⊕ z
  spread_identity p t h z = simp ring

  delay_identity : (p h a : F) → (𝟘 ⊕ p ⊗ h) ⊕ a ⊗ 𝟘 ≡ p ⊗ h
  delay_identity p h a = simp ring

  one_identity : (t : F) → t ⊗ 𝟙 ⊕ 𝟘 ≡ t
  one_identity t = simp ring

  none_identity : (t h z : F) → t ≡ 𝟘 → t ⊗ h ⊕ z ≡ z
  none_identity t h z e = simp (ring, e)

length_delayed : (d : ℕ) (q : List ℕ) → d ≤ 84 → length (delayed d q) ≡ length q + 84
unfolding delayed
length_delayed d q h =
    length-append (replicate d 0) (q ++ replicate (84 - d) 0)
    ∙ omega (arith, length-replicate {A = ℕ} d 0, length-append q (replicate (84 - d) 0), length-replicate {A = ℕ} (84 - d) 0)

length_added : (d : ℕ) (q z : List ℕ) → d ≤ 84 → length z ≡ length q + 84 → length (plus numbers z (delayed d q)) ≡ length q + 84
length_added d q z b h = length-sum z (delayed d q) (h ∙ sym (length_delayed d q b)) ∙ h

length_spread : (ds q z : List ℕ) → All (λ d. d ≤ 84) ds → length z ≡ length q + 84 → length (spread ds q z) ≡ length q + 84
unfolding spread
length_spread [] q z b h = h
length_spread (d ∷ ds) q z b h = length_spread ds q (plus numbers z (delayed d q)) b.1 (length_added d q z b.0 h)

-- ---- its values

module _ (x : Fin 256) where
  -- the sum of the powers
  unfoldable total : List ℕ → Fin 256
  total [] = bytes.𝟘
  total (d ∷ ds) = bytes.add (power (ops bytes) x (84 - d)) (total ds)

  high_later : (n : ℕ) (q : List ℕ) → high x (q ++ replicate n 0) ≡ bytes.add bytes.𝟘 (bytes.mul (power (ops bytes) x n) (high x q))
  high_later n q =
      high_append x q (replicate n 0)
      ∙ ap₂ (λ (u : Fin 256) (k : ℕ). bytes.add u (bytes.mul (power (ops bytes) x k) (high x q))) (high_zeros x n) (length-replicate {A = ℕ} n 0)

  high_delayed : (d : ℕ) (q : List ℕ) → high x (delayed d q) ≡ bytes.mul (power (ops bytes) x (84 - d)) (high x q)
  unfolding delayed
  high_delayed d q =
      high_append x (replicate d 0) (q ++ replicate (84 - d) 0)
      ∙ ap₂ (λ (u v : Fin 256). bytes.add u (bytes.mul (power (ops bytes) x (length (q ++ replicate (84 - d) 0))) v)) (high_later (84 - d) q) (high_zeros x d)
      ∙ delay_identity bytes (power (ops bytes) x (84 - d)) (high x q) (power (ops bytes) x (length (q ++ replicate (84 - d) 0)))

  high_spread : (ds q z : List ℕ) → All (λ d. d ≤ 84) ds → length z ≡ length q + 84 → high x (spread ds q z) ≡ bytes.add (bytes.mul (total ds) (high x q)) (high x z)
  unfolding spread total
  high_spread [] q z b h = sym (ap (λ (u : Fin 256). bytes.add u (high x z)) (zero_mul bytes (high x q)) ∙ zero_add bytes (high x z))
  high_spread (d ∷ ds) q z b h =
      high_spread ds q (plus numbers z (delayed d q)) b.1 (length_added d q z b.0 h)
      ∙ ap (λ (u : Fin 256). bytes.add (bytes.mul (total ds) (high x q)) u)
      (high_plus x z (delayed d q) (h ∙ sym (length_delayed d q b.0)) ∙ ap (λ (u : Fin 256). bytes.add (high x z) u) (high_delayed d q))
      ∙ spread_identity bytes (power (ops bytes) x (84 - d)) (total ds) (high x q) (high x z)

  -- leading zeros do not count
  pub high_leading : (n : ℕ) (l : List ℕ) → high x (replicate n 0 ++ l) ≡ high x l
  high_leading n l =
      high_append x (replicate n 0) l
      ∙ ap (λ (u : Fin 256). bytes.add (high x l) (bytes.mul (power (ops bytes) x (length l)) u)) (high_zeros x n)
      ∙ ap (λ (u : Fin 256). bytes.add (high x l) u) (mul_zero bytes (power (ops bytes) x (length l)))
      ∙ add_zero bytes (high x l)

within : All (λ d. d ≤ 84) (0 ∷ delays)
within = (omega arith, short)

-- h is what its delays make of 1
sparse_spread : spread (0 ∷ delays) (1 ∷ []) (replicate 85 0) ≡ reverse sparse
unfolding spread delayed plus
sparse_spread = refl

total_zero : (j : ℕ) → j < 16 → total (alpha j) (0 ∷ delays) ≡ bytes.𝟘
total_zero j h =
    sym (one_identity bytes (total (alpha j) (0 ∷ delays)))
    ∙ sym (ap₂ (λ (u v : Fin 256). bytes.add (bytes.mul (total (alpha j) (0 ∷ delays)) u) v) (high_one (alpha j) 1 ∙ byte_one) (high_zeros (alpha j) 85))
    ∙ sym (high_spread (alpha j) (0 ∷ delays) (1 ∷ []) (replicate 85 0) within refl)
    ∙ ap (high (alpha j)) sparse_spread
    ∙ ap (λ (l : List ℕ). eval (ops bytes) (elements l) (alpha j)) (reverse-reverse sparse)
    ∙ sparse_root j h

-- ---- what is left

module _ (m q r : List ℕ) (lm : length m ≡ 224) (lq : length q ≡ 320) (lr : length r ≡ 96) (Q : SparseQuotient m q 128) (R : SparseRemainder m q r 96) where
  -- the coefficients of the quotient
  abbrev inner : List ℕ
  inner = take 128 (drop 84 q)

  inner_length : length inner ≡ 128
  inner_length = length-take-le 128 (drop 84 q) (omega (arith, length-drop 84 q))

  delayed_at : (d k : ℕ) → d ≤ 84 → k < 212 → get_or (delayed d inner) k 0 ≡ get_or q (84 + k - d) 0
  unfolding delayed
  delayed_at d k h l = go (dec_lt k d) (dec_lt (k - d) 128)
    where
      skip : (k : ℕ) → d ≤ k → get_or (replicate d 0 ++ (inner ++ replicate (84 - d) 0)) k 0 ≡ get_or (inner ++ replicate (84 - d) 0) (k - d) 0
      skip k b =
          let n : k ≡ length {A = ℕ} (replicate d 0) + (k - d) = omega (arith, length-replicate {A = ℕ} d 0) in
          ap (λ (i : ℕ). get_or (replicate d 0 ++ (inner ++ replicate (84 - d) 0)) i 0) n ∙ get_or-append-add (replicate d 0) (inner ++ replicate (84 - d) 0) (k - d) 0

      go : Dec (k < d) → Dec (k - d < 128) → get_or (replicate d 0 ++ (inner ++ replicate (84 - d) 0)) k 0 ≡ get_or q (84 + k - d) 0
      go (yes a) b =
          get_or-append (replicate d 0) (inner ++ replicate (84 - d) 0) 0 k (omega (arith, length-replicate {A = ℕ} d 0)) ∙ zeros_at d k
          ∙ sym (Q.before (84 + k - d) (omega arith))
      go (no a) (yes b) =
          let n : 84 + (k - d) ≡ 84 + k - d = omega arith in
          skip k (omega arith) ∙ get_or-append inner (replicate (84 - d) 0) 0 (k - d) (omega (arith, inner_length))
          ∙ get_or-take 128 (drop 84 q) (k - d) 0 b ∙ get_or-drop 84 q (k - d) 0 ∙ ap (λ (i : ℕ). get_or q i 0) n
      go (no a) (no b) =
          let n : k - d ≡ length inner + (k - d - 128) = omega (arith, inner_length) in
          skip k (omega arith) ∙ ap (λ (i : ℕ). get_or (inner ++ replicate (84 - d) 0) i 0) n ∙ get_or-append-add inner (replicate (84 - d) 0) (k - d - 128) 0
          ∙ zeros_at (84 - d) (k - d - 128) ∙ sym (Q.after (84 + k - d) (omega arith))

  spread_at : (ds z : List ℕ) (k : ℕ) → All (λ d. d ≤ 84) ds → length z ≡ 212 → k < 212 → get_or (spread ds inner z) k 0 ≡ delayed_sum ds q (84 + k) (get_or z k 0)
  unfolding spread delayed_sum
  spread_at [] z k a n l = refl
  spread_at (d ∷ ds) z k a n l =
      spread_at ds (plus numbers z (delayed d inner)) k a.1 (length_added d inner z a.0 (n ∙ sym size) ∙ size) l
      ∙ ap (delayed_sum ds q (84 + k)) (sum_at z (delayed d inner) k (n ∙ sym (length_delayed d inner a.0 ∙ size)) ∙ ap (bit_xor (get_or z k 0)) (delayed_at d k a.0 l))
    where
      size : length inner + 84 ≡ 212
      size = omega (arith, inner_length)

  -- what is left, below the places of the quotient
  abbrev rest : List ℕ
  rest = replicate 128 0 ++ take 84 r

  rest-length : length rest ≡ 212
  rest-length = length-append (replicate 128 0) (take 84 r) ∙ omega (arith, length-replicate {A = ℕ} 128 0, length-take-le 84 r (omega arith))

  rest_low : (k : ℕ) → k < 128 → get_or rest k 0 ≡ 0
  rest_low k l = get_or-append (replicate 128 0) (take 84 r) 0 k (omega (arith, length-replicate {A = ℕ} 128 0)) ∙ zeros_at 128 k

  rest_high : (k : ℕ) → 128 ≤ k → k < 212 → get_or rest k 0 ≡ delayed_sum delays q (84 + k) (get_or m k 0)
  rest_high k b l =
      let n : k ≡ length {A = ℕ} (replicate 128 0) + (k - 128) = omega (arith, length-replicate {A = ℕ} 128 0) in
      let a : 212 + (k - 128) ≡ 84 + k = omega arith in
      let c : 128 + (k - 128) ≡ k = omega arith in
      ap (λ (i : ℕ). get_or rest i 0) n ∙ get_or-append-add (replicate 128 0) (take 84 r) (k - 128) 0 ∙ get_or-take 84 r (k - 128) 0 (omega arith)
      ∙ R.each (k - 128) (omega arith) ∙ ap₂ (λ (i j : ℕ). delayed_sum delays q i (get_or m j 0)) a c

  -- m = h q + r
  whole : take 212 m ≡ spread (0 ∷ delays) inner rest
  unfolding delayed_sum
  whole = ext_get_or 0 (take 212 m) (spread (0 ∷ delays) inner rest) (size ∙ sym other) (λ k l. each k (omega (arith, size)) (dec_lt k 128))
    where
      size : length (take 212 m) ≡ 212
      size = length-take-le 212 m (omega arith)

      other : length (spread (0 ∷ delays) inner rest) ≡ 212
      other = length_spread (0 ∷ delays) inner rest within (rest-length ∙ omega (arith, inner_length)) ∙ omega (arith, inner_length)

      once : (k : ℕ) → bit_xor (get_or rest k 0) (get_or q (84 + k - 0) 0) ≡ delayed_sum delays q (84 + k) (get_or m k 0) → k < 212 → get_or (take 212 m) k 0 ≡ get_or (spread (0 ∷ delays) inner rest) k 0
      once k e l =
          get_or-take 212 m k 0 l ∙ sym (delayed_twice q (84 + k) delays (get_or m k 0)) ∙ ap (delayed_sum delays q (84 + k)) (sym e)
          ∙ sym (spread_at (0 ∷ delays) rest k within rest-length l)

      each : (k : ℕ) → k < 212 → Dec (k < 128) → get_or (take 212 m) k 0 ≡ get_or (spread (0 ∷ delays) inner rest) k 0
      each k l (yes b) =
          let n : 84 + k - 0 ≡ 84 + k = omega arith in
          once k (ap₂ bit_xor (rest_low k b) (ap (λ (i : ℕ). get_or q i 0) n ∙ Q.each k b) ∙ xor_zero_l (delayed_sum delays q (84 + k) (get_or m k 0))) l
      each k l (no b) =
          once k (ap₂ bit_xor (rest_high k (omega arith) l) (Q.after (84 + k - 0) (omega arith)) ∙ xor_zero_r (delayed_sum delays q (84 + k) (get_or m k 0))) l

  sparse_values : (j : ℕ) → j < 16 → high (alpha j) (take 84 r) ≡ high (alpha j) (take 212 m)
  sparse_values j h =
      sym (high_leading (alpha j) 128 (take 84 r))
      ∙ sym (none_identity bytes (total (alpha j) (0 ∷ delays)) (high (alpha j) inner) (high (alpha j) rest) (total_zero j h))
      ∙ sym (high_spread (alpha j) (0 ∷ delays) inner rest within (rest-length ∙ omega (arith, inner_length)))
      ∙ sym (ap (high (alpha j)) whole)

-- ---- the dividend

zeros_split : (a b n : ℕ) → n ≡ a + b → ◌≡◌ {A = List ℕ} (replicate n 0) (replicate a 0 ++ replicate b 0)
zeros_split a b n e = ap (λ (k : ℕ). replicate k 0) e ∙ sym (replicate-append-replicate a b 0)

-- up to 204 coefficients, laid into zeros
laid_out : (l m : List ℕ) → length l ≤ 204 → m ≡ take 8 (replicate 224 0) ++ l ++ drop {A = ℕ} (8 + length l) (replicate 224 0) → take 212 m ≡ replicate 8 0 ++ (l ++ replicate (204 - length l) 0)
laid_out l m h e =
    let a : length (replicate 8 0 ++ l) ≡ 8 + length l = length-append (replicate 8 0) l in
    let b : 212 ≡ length (replicate 8 0 ++ l) + (204 - length l) = omega arith in
    ap (take 212) (e ∙ ap (λ (t : List ℕ). (replicate 8 0 ++ l) ++ t) zeros)
    ∙ ap (λ (k : ℕ). take k ((replicate 8 0 ++ l) ++ replicate (216 - length l) 0)) b
    ∙ take-append-add (replicate 8 0 ++ l) (replicate (216 - length l) 0) (204 - length l)
    ∙ ap (λ (t : List ℕ). (replicate 8 0 ++ l) ++ t)
    (ap (take (204 - length l)) (zeros_split (204 - length l) 12 (216 - length l) (omega arith)) ∙ take_at (replicate (204 - length l) 0) (replicate 12 0) (204 - length l) (length-replicate {A = ℕ} (204 - length l) 0))
    ∙ append_assoc (replicate 8 0) l (replicate (204 - length l) 0)
  where
    zeros : drop {A = ℕ} (8 + length l) (replicate 224 0) ≡ replicate (216 - length l) 0
    zeros =
        ap (drop (8 + length l)) (zeros_split (8 + length l) (216 - length l) 224 (omega arith))
        ∙ drop_at (replicate (8 + length l) 0) (replicate (216 - length l) 0) (8 + length l) (length-replicate {A = ℕ} (8 + length l) 0)

pub divided_values : (l m q p r : List ℕ) → length l ≤ 204 → m ≡ take 8 (replicate 224 0) ++ l ++ drop (8 + length l) (replicate 224 0)
    → length m ≡ 224 → length q ≡ 320 → length p ≡ 96 → SparseQuotient m q 128 → SparseRemainder m q p 96 → SameValues r (take 84 p)
    → SameValues r (l ++ replicate (204 - length l) 0)
divided_values l m q p r h e lm lq lp Q R D =
    record {
      each = λ j b.
          D.each j b ∙ sparse_values m q p lm lq lp Q R j b ∙ ap (high (alpha j)) (laid_out l m h e)
          ∙ high_leading (alpha j) 8 (l ++ replicate (204 - length l) 0);
    }
