-- Gauss-Jordan elimination on a matrix that is a function of row and column: row operations only shrink the set of solutions,
-- and the column without a pivot solves the equations.
-- Assumes nothing.
use mathlib.Core.Path.{◌≡◌, refl, sym, ap, ◌∙◌, subst}
use mathlib.Core.List.{List, [], ◌∷◌}
use Prim.Native.Nat.{ℕ, zero, suc, ◌≤◌, ◌<◌}
use Prim.Native.Nat.{◌+◌ as ◌+ℕ◌}
use native.Mathlib.Nat.{not-suc-le-zero}
use native.Mathlib.Omega.{arith}
use native.Mathlib.Decide.{dec_lt, ℕ_discrete}
use lib.ListN.{length, get_or}
use Rattle.algebra.specs.Field.{Field}
use Rattle.algebra.proofs.Ring.{ring, cancel, add_zero, mul_zero, zero_mul, zero_add, mul_comm}
use Rattle.common.proofs.Lists.{All-at}
use Rattle.algebra.proofs.Polynomial.{Zero}
use Rattle.algebra.proofs.Syndromes.{dot}

module _ (K : Field) where
  open K use {F, add as ◌+◌, mul as ◌*◌, 𝟘, 𝟙, inv, dec}

  infixl 65 ◌+◌
  infixl 70 ◌*◌
  -- f(0) + .. + f(n - 1)
  unfoldable pub sum : ℕ → (ℕ → F) → F
  sum zero f = 𝟘
  sum (suc n) f = sum n f + f n

  pub sum_ext : (n : ℕ) (f g : ℕ → F) → ((i : ℕ) → i < n → f i ≡ g i) → sum n f ≡ sum n g
  unfolding sum
  sum_ext zero f g h = refl
  sum_ext (suc n) f g h = ap (λ u. u + f n) (sum_ext n f g (λ i l. h i (omega arith))) ∙ ap (λ u. sum n g + u) (h n (omega arith))

  sum_add_step : (s t u v : F) → (s + t) + (u + v) ≡ (s + u) + (t + v)
  sum_add_step s t u v = simp ring

  sum_add : (n : ℕ) (f g : ℕ → F) → sum n (λ i. f i + g i) ≡ sum n f + sum n g
  unfolding sum
  sum_add zero f g = sym (zero_add K 𝟘)
  sum_add (suc n) f g = ap (λ u. u + (f n + g n)) (sum_add n f g) ∙ sum_add_step _ _ _ _

  sum_mul_step : (a s u : F) → a * s + a * u ≡ a * (s + u)
  sum_mul_step a s u = simp ring

  sum_mul : (n : ℕ) (a : F) (f : ℕ → F) → sum n (λ i. a * f i) ≡ a * sum n f
  unfolding sum
  sum_mul zero a f = sym (mul_zero K a)
  sum_mul (suc n) a f = ap (λ u. u + a * f n) (sum_mul n a f) ∙ sum_mul_step a _ _

  sum_zero : (n : ℕ) (f : ℕ → F) → ((i : ℕ) → i < n → f i ≡ 𝟘) → sum n f ≡ 𝟘
  unfolding sum
  sum_zero zero f h = refl
  sum_zero (suc n) f h = ap (λ u. u + f n) (sum_zero n f (λ i l. h i (omega arith))) ∙ zero_add K _ ∙ h n (omega arith)

  -- from the front
  sum_front : (n : ℕ) (f : ℕ → F) → sum (suc n) f ≡ f zero + sum n (λ i. f (suc i))
  unfolding sum
  sum_front zero f = Field.add·comm K 𝟘 (f zero)
  sum_front (suc n) f = ap (λ u. u + f (suc n)) (sum_front n f) ∙ Field.add·assoc K _ _ _

  dot_sum : (q : List F) (f : ℕ → F) → dot K q f ≡ sum (length q) (λ i. get_or q i 𝟘 * f i)
  unfolding dot sum
  dot_sum [] f = refl
  dot_sum (a ∷ q) f = ap (λ u. a * f zero + u) (dot_sum q (λ i. f (suc i))) ∙ sym (sum_front (length q) (λ i. get_or (a ∷ q) i 𝟘 * f i))

  -- one term, two terms
  sum_one : (n k : ℕ) (f : ℕ → F) → k < n → ((i : ℕ) → i < n → (i ≡ k → ⊥) → f i ≡ 𝟘) → sum n f ≡ f k
  unfolding sum
  sum_one zero k f l h = absurd (not-suc-le-zero l)
  sum_one (suc n) k f l h = go (ℕ_discrete n k) (λ m. sum_one n k f m (λ i b. h i (omega arith)))
    where
      go : Dec (n ≡ k) → (k < n → sum n f ≡ f k) → sum n f + f n ≡ f k
      go (yes e) r = ap (λ u. u + f n) (sum_zero n f (λ i b. h i (omega arith) (λ x. omega arith))) ∙ zero_add K _ ∙ ap f e
      go (no e) r = ap (λ u. sum n f + u) (h n (omega arith) e) ∙ add_zero K _ ∙ r (omega arith)

  sum_two : (n j k : ℕ) (f : ℕ → F) → j < k → k < n → ((i : ℕ) → i < n → (i ≡ j → ⊥) → (i ≡ k → ⊥) → f i ≡ 𝟘) → sum n f ≡ f j + f k
  unfolding sum
  sum_two zero j k f b l h = absurd (not-suc-le-zero l)
  sum_two (suc n) j k f b l h = go (ℕ_discrete n k) (λ m. sum_two n j k f b m (λ i b. h i (omega arith)))
    where
      go : Dec (n ≡ k) → (k < n → sum n f ≡ f j + f k) → sum n f + f n ≡ f j + f k
      go (yes e) r = ap (λ u. u + f n) (sum_one n j f (omega arith) (λ i m x. h i (omega arith) x (λ y. omega arith))) ∙ ap (λ u. f j + f u) e
      go (no e) r = ap (λ u. sum n f + u) (h n (omega arith) (λ x. omega arith) e) ∙ add_zero K _ ∙ r (omega arith)

  -- v solves the t equations in n unknowns
  abbrev pub Sol : ℕ → ℕ → (ℕ → ℕ → F) → (ℕ → F) → Type 0
  Sol t n m v = (r : ℕ) → r < t → sum n (λ c. m r c * v c) ≡ 𝟘

  -- what solves the new equations solves the old
  abbrev pub Reach : ℕ → ℕ → (ℕ → ℕ → F) → (ℕ → ℕ → F) → Type 0
  Reach t n old new = (v : ℕ → F) → Sol t n new v → Sol t n old v

  -- row i is b times what it was, and a times row j
  pub record CombineRow (t n i j : ℕ) (b a : F) (old new : ℕ → ℕ → F) : Type 0 where
    pub other : (r c : ℕ) → r < t → c < n → (r ≡ i → ⊥) → new r c ≡ old r c
    pub row : (c : ℕ) → c < n → new i c ≡ b * old i c + a * old j c

  -- row i is a times what it was
  pub record MulRow (t n i : ℕ) (a : F) (old new : ℕ → ℕ → F) : Type 0 where
    pub other : (r c : ℕ) → r < t → c < n → (r ≡ i → ⊥) → new r c ≡ old r c
    pub row : (c : ℕ) → c < n → new i c ≡ a * old i c

  -- the same among fewer rows
  pub combine_fewer : (s t n i j : ℕ) (b a : F) (old new : ℕ → ℕ → F) → s ≤ t → CombineRow t n i j b a old new → CombineRow s n i j b a old new
  combine_fewer s t n i j b a old new h A = record { other = λ r c l. A.other r c (omega arith); row = A.row }

  pub mul_fewer : (s t n i : ℕ) (a : F) (old new : ℕ → ℕ → F) → s ≤ t → MulRow t n i a old new → MulRow s n i a old new
  mul_fewer s t n i a old new h A = record { other = λ r c l. A.other r c (omega arith); row = A.row }

  combine_back : (b x a y v : F) → b * (x * v) ≡ (b * x + a * y) * v + a * (y * v)
  combine_back b x a y v = simp ring

  pub reach_combine : (t n i j : ℕ) (b a : F) (old new : ℕ → ℕ → F) → j < t → (j ≡ i → ⊥) → (b ≡ 𝟘 → ⊥) → CombineRow t n i j b a old new → Reach t n old new
  reach_combine t n i j b a old new lj ne nz A v s r l = go (ℕ_discrete r i)
    where
      same : (r : ℕ) → r < t → (r ≡ i → ⊥) → sum n (λ c. old r c * v c) ≡ 𝟘
      same r l x = sum_ext n (λ c. old r c * v c) (λ c. new r c * v c) (λ c h. ap (λ u. u * v c) (sym (A.other r c l h x))) ∙ s r l

      weighted : i < t → sum n (λ c. b * (old i c * v c)) ≡ 𝟘
      weighted l =
          sum_ext n (λ c. b * (old i c * v c)) (λ c. new i c * v c + a * (old j c * v c))
          (λ c h. combine_back b (old i c) a (old j c) (v c) ∙ ap (λ u. u * v c + a * (old j c * v c)) (sym (A.row c h)))
          ∙ sum_add n (λ c. new i c * v c) (λ c. a * (old j c * v c))
          ∙ ap (λ u. u + sum n (λ c. a * (old j c * v c))) (s i l) ∙ zero_add K _ ∙ sum_mul n a (λ c. old j c * v c) ∙ ap (λ u. a * u) (same j lj ne) ∙ mul_zero K a

      at : i < t → sum n (λ c. old i c * v c) ≡ 𝟘
      at l = cancel K b _ nz (sym (sum_mul n b (λ c. old i c * v c)) ∙ weighted l)

      go : Dec (r ≡ i) → sum n (λ c. old r c * v c) ≡ 𝟘
      go (yes e) = subst (λ r. r < t → sum n (λ c. old r c * v c) ≡ 𝟘) (sym e) at l
      go (no e) = same r l e

  mul_back : (a x v : F) → a * (x * v) ≡ (a * x) * v
  mul_back a x v = simp ring

  pub reach_mul : (t n i : ℕ) (a : F) (old new : ℕ → ℕ → F) → (a ≡ 𝟘 → ⊥) → MulRow t n i a old new → Reach t n old new
  reach_mul t n i a old new ne A v s r l = go (ℕ_discrete r i)
    where
      at : i < t → sum n (λ c. old i c * v c) ≡ 𝟘
      at l = cancel K a _ ne (sym (sum_mul n a (λ c. old i c * v c)) ∙ sum_ext n (λ c. a * (old i c * v c)) (λ c. new i c * v c) (λ c b. mul_back a (old i c) (v c) ∙ ap (λ u. u * v c) (sym (A.row c b))) ∙ s i l)

      go : Dec (r ≡ i) → sum n (λ c. old r c * v c) ≡ 𝟘
      go (yes e) = subst (λ r. r < t → sum n (λ c. old r c * v c) ≡ 𝟘) (sym e) at l
      go (no e) = sum_ext n (λ c. old r c * v c) (λ c. new r c * v c) (λ c b. ap (λ u. u * v c) (sym (A.other r c l b e))) ∙ s r l

  -- the first k columns are those of d times the unit matrix
  pub record Diagonal (t k : ℕ) (d : F) (m : ℕ → ℕ → F) : Type 0 where
    pub off : (r c : ℕ) → r < t → c < k → (r ≡ c → ⊥) → m r c ≡ 𝟘
    pub on : (c : ℕ) → c < k → m c c ≡ d

  -- the vector of the kernel, where column k has no pivot: v_c = m c k below k, v_k = d, and 0 above
  pub record Vector (n k : ℕ) (d : F) (m : ℕ → ℕ → F) (v : ℕ → F) : Type 0 where
    pub below : (c : ℕ) → c < k → v c ≡ m c k
    pub own : v k ≡ d
    pub above : (c : ℕ) → k < c → c < n → v c ≡ 𝟘

  twice : (d x : F) → d * x + x * d ≡ 𝟘
  twice d x = simp ring

  pub solves : (t n k : ℕ) (d : F) (m : ℕ → ℕ → F) (v : ℕ → F) → k ≤ t → k < n → Diagonal t k d m → ((r : ℕ) → k ≤ r → r < t → m r k ≡ 𝟘) → Vector n k d m v → Sol t n m v
  solves t n k d m v kt kn U z W r l = go (dec_lt r k)
    where
      times0 : (x y : F) → y ≡ 𝟘 → x * y ≡ 𝟘
      times0 x y e = ap (λ u. x * u) e ∙ mul_zero K x

      zero× : (x y : F) → x ≡ 𝟘 → x * y ≡ 𝟘
      zero× x y e = ap (λ u. u * y) e ∙ zero_mul K y

      two : r < k → m r r * v r + m r k * v k ≡ 𝟘
      two b = ap (λ u. u * v r + m r k * v k) (U.on r b) ∙ ap (λ u. d * u + m r k * v k) (W.below r b) ∙ ap (λ u. d * m r k + m r k * u) W.own ∙ twice d (m r k)

      at : (c : ℕ) → c < n → (r ≡ c → ⊥) → (c ≡ k → ⊥) → Dec (c < k) → m r c * v c ≡ 𝟘
      at c b x y (yes p) = zero× _ _ (U.off r c l p x)
      at c b x y (no p) = times0 _ _ (W.above c (omega arith) b)

      upto : (c : ℕ) → c < n → k ≤ r → Dec (c < k) → Dec (c ≡ k) → m r c * v c ≡ 𝟘
      upto c b h (yes p) d = zero× _ _ (U.off r c l p (λ x. omega arith))
      upto c b h (no p) (yes e) = zero× _ _ (ap (λ u. m r u) e ∙ z r h l)
      upto c b h (no p) (no e) = times0 _ _ (W.above c (omega arith) b)

      go : Dec (r < k) → sum n (λ c. m r c * v c) ≡ 𝟘
      go (yes b) = sum_two n r k (λ c. m r c * v c) b kn (λ i c x y. at i c (λ e. x (sym e)) y (dec_lt i k)) ∙ two b
      go (no b) = sum_zero n (λ c. m r c * v c) (λ c e. upto c e (omega arith) (dec_lt c k) (ℕ_discrete c k))

  both_none : (b x a y : F) → x ≡ 𝟘 → y ≡ 𝟘 → b * x + a * y ≡ 𝟘
  both_none b x a y h k = simp (ring, h, k)

  -- a step among the rows from k on, which are zero in the first k columns
  pub diagonal_combine : (t n k i j : ℕ) (b a d : F) (old new : ℕ → ℕ → F) → k ≤ i → i < t → k ≤ j → j < t → k ≤ n → CombineRow t n i j b a old new → Diagonal t k d old → Diagonal t k d new
  diagonal_combine t n k i j b a d old new ki li kj lj kn A U = record { off = λ r c l m x. same r c l m (ℕ_discrete r i) ∙ U.off r c l m x; on = λ c l. same c c (omega arith) l (ℕ_discrete c i) ∙ U.on c l }
    where
      none : (r c : ℕ) → k ≤ r → r < t → c < k → old r c ≡ 𝟘
      none r c h l m = U.off r c l m (λ x. omega arith)

      same : (r c : ℕ) → r < t → c < k → Dec (r ≡ i) → new r c ≡ old r c
      same r c l m (yes e) =
          ap (λ u. new u c) e ∙ A.row c (omega arith) ∙ both_none b (old i c) a (old j c) (none i c ki li m) (none j c kj lj m)
          ∙ sym (none i c ki li m) ∙ ap (λ u. old u c) (sym e)
      same r c l m (no e) = A.other r c l (omega arith) e

  -- each row below i but row k is what it was, times the element k of row k, and a multiple of row k that makes column k zero
  pub record Swept (t n k i : ℕ) (old new : ℕ → ℕ → F) : Type 0 where
    pub done : (r c : ℕ) → r < i → c < n → (r ≡ k → ⊥) → new r c ≡ old k k * old r c + old r k * old k c
    pub own : (c : ℕ) → c < n → new k c ≡ old k c
    pub todo : (r c : ℕ) → i ≤ r → r < t → c < n → new r c ≡ old r c

  pub swept_skip : (t n k i : ℕ) (old new : ℕ → ℕ → F) → i ≡ k → Swept t n k i old new → Swept t n k (suc i) old new
  swept_skip t n k i old new e S = record { done = λ r c h b x. S.done r c (omega arith) b x; own = S.own; todo = λ r c h l b. S.todo r c (omega arith) l b }

  -- the step of one row
  pub swept_row : (t n k i : ℕ) (old mid new : ℕ → ℕ → F) → k < t → k < n → i < t → (i ≡ k → ⊥) → CombineRow t n i k (old k k) (mid i k) mid new → Swept t n k i old mid → Swept t n k (suc i) old new
  swept_row t n k i old mid new kt kn li ne A S = record {
    done = λ r c h b x. done r c h b x (ℕ_discrete r i);
    own = λ c b. A.other k c kt b (λ e. ne (sym e)) ∙ S.own c b;
    todo = λ r c h l b. A.other r c l b (λ e. omega arith) ∙ S.todo r c (omega arith) l b;
  }
    where
      done : (r c : ℕ) → r < suc i → c < n → (r ≡ k → ⊥) → Dec (r ≡ i) → new r c ≡ old k k * old r c + old r k * old k c
      done r c h b x (yes e) =
          ap (λ u. new u c) e ∙ A.row c b
          ∙ ap (λ u. old k k * u + mid i k * mid k c) (S.todo i c (omega arith) li b)
          ∙ ap (λ u. old k k * old i c + u * mid k c) (S.todo i k (omega arith) li kn)
          ∙ ap (λ u. old k k * old i c + old i k * u) (S.own c b)
          ∙ ap (λ u. old k k * old u c + old u k * old k c) (sym e)
      done r c h b x (no e) = A.other r c (omega arith) b e ∙ S.done r c (omega arith) b x

  swept_own : (p d x y : F) → y ≡ 𝟘 → p * d + x * y ≡ d * p
  swept_own p d x y h = simp (ring, h)

  times_none : (d x : F) → x ≡ 𝟘 → d * x ≡ 𝟘
  times_none d x h = simp (ring, h)

  -- all rows swept, and row k times d: one column more
  pub diagonal_more : (t n k : ℕ) (d : F) (old mid new : ℕ → ℕ → F) → k < t → k < n → Diagonal t k d old → Swept t n k t old mid → MulRow t n k d mid new → Diagonal t (suc k) (d * old k k) new
  diagonal_more t n k d old mid new kt kn U S A = record { off = λ r c l b x. off' r c l b x (ℕ_discrete r k) (ℕ_discrete c k); on = λ c b. on' c b (ℕ_discrete c k) }
    where
      -- another row
      else : (r c : ℕ) → r < t → c < n → (r ≡ k → ⊥) → new r c ≡ old k k * old r c + old r k * old k c
      else r c l b x = A.other r c l b x ∙ S.done r c l b x

      off' : (r c : ℕ) → r < t → c < suc k → (r ≡ c → ⊥) → Dec (r ≡ k) → Dec (c ≡ k) → new r c ≡ 𝟘
      off' r c l b x (yes e) (yes f) = absurd (omega arith)
      off' r c l b x (yes e) (no f) =
          ap (λ u. new u c) e ∙ A.row c (omega arith) ∙ times_none d (mid k c) (S.own c (omega arith) ∙ U.off k c kt (omega arith) (λ y. omega arith))
      off' r c l b x (no e) (yes f) =
          ap (λ u. new r u) f ∙ else r k l kn e ∙ twice (old k k) (old r k)
      off' r c l b x (no e) (no f) =
          else r c l (omega arith) e ∙ both_none (old k k) (old r c) (old r k) (old k c) (U.off r c l (omega arith) x) (U.off k c kt (omega arith) (λ y. omega arith))

      on' : (c : ℕ) → c < suc k → Dec (c ≡ k) → new c c ≡ d * old k k
      on' c b (yes e) = ap (λ u. new u u) e ∙ A.row k kn ∙ ap (λ u. d * u) (S.own k kn)
      on' c b (no e) =
          else c c (omega arith) (omega arith) e ∙ ap (λ u. old k k * u + old c k * old k c) (U.on c (omega arith))
          ∙ swept_own (old k k) d (old c k) (old k c) (U.off k c kt (omega arith) (λ y. omega arith))

  -- (D) the equations of the locator, from the last matrix
  pub kernel_key : (t n : ℕ) (S : ℕ → F) (m : ℕ → ℕ → F) (q : List F) → length q ≡ n → Reach t n (λ r c. S (r +ℕ c)) m → Sol t n m (λ c. get_or q c 𝟘)
      → (j : ℕ) → j < t → dot K q (λ i. S (j +ℕ i)) ≡ 𝟘
  kernel_key t n S m q e h s j l =
      dot_sum q (λ i. S (j +ℕ i)) ∙ ap (λ n. sum n (λ i. get_or q i 𝟘 * S (j +ℕ i))) e
      ∙ sum_ext n (λ i. get_or q i 𝟘 * S (j +ℕ i)) (λ i. S (j +ℕ i) * get_or q i 𝟘) (λ i b. mul_comm K _ _) ∙ h (λ c. get_or q c 𝟘) s j l

  pub kernel_nonzero : (n k : ℕ) (d : F) (m : ℕ → ℕ → F) (q : List F) → k < length q → (d ≡ 𝟘 → ⊥) → Vector n k d m (λ c. get_or q c 𝟘) → Zero K q → ⊥
  kernel_nonzero n k d m q l ne W z = ne (sym W.own ∙ All-at (λ a. a ≡ 𝟘) q 𝟘 k z l)
