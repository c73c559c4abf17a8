-- What the list of a list's zeros holds, and how long it is.
-- Assumes nothing.
use mathlib.Core.Path.{◌≡◌, sym, subst}
use mathlib.Core.List.{List, [], ◌∷◌, ◌++◌, map}
use mathlib.Core.Logic.{◌⊎◌, inl, inr}
use Prim.Native.Nat.{ℕ, zero, suc, ◌+◌, ◌≤◌, ◌<◌, Fin}
use Prim.{tt}
use native.Mathlib.Decide.{ℕ_discrete}
use native.Mathlib.Nat.{add-zero, not-suc-le-zero}
use native.Mathlib.Omega.{arith}
use borrow.Author.Tests.{eq-eqb, ne_eqb}
use lib.Dec.{eqb}
use lib.ListN.{length, get_or, length-append}
use Rattle.common.specs.Choice.{pick}
use Rattle.common.specs.Lists.{All}
use Rattle.algebra.proofs.Lists.{Away, Distinct}
use Rattle.error_correction.specs.Correction.{zeros_from}

-- what holds at every zero holds of every place listed
pub zeros_all : (P : ℕ → Type 0) (n : ℕ) (l : List ℕ) → ((i : ℕ) → i < length l → get_or l i 0 ≡ 0 → P (n + i)) → All P (zeros_from n l)
unfolding zeros_from
zeros_all P n [] h = tt
zeros_all P n (x ∷ l) h = go (ℕ_discrete x 0) (zeros_all P (n + 1) l (λ i b z. subst P (shift i) (h (suc i) (omega arith) z)))
  where
    shift : (i : ℕ) → n + suc i ≡ n + 1 + i
    shift i = omega arith

    go : Dec (x ≡ 0) → All P (zeros_from (n + 1) l) → All P (pick (eqb x 0) (n ∷ []) [] ++ zeros_from (n + 1) l)
    go (yes e) r = rw (eq-eqb x 0 e) (subst P (add-zero n) (h 0 (omega arith) e), r)
    go (no e) r = rw (ne_eqb x 0 e) r

-- every zero is listed
pub zeros_has : (P : ℕ → Type 0) (n : ℕ) (l : List ℕ) → All P (zeros_from n l) → (i : ℕ) → i < length l → get_or l i 0 ≡ 0 → P (n + i)
unfolding zeros_from
zeros_has P n [] h i b z = absurd (not-suc-le-zero b)
zeros_has P n (x ∷ l) h zero b z = subst P (sym (add-zero n)) (rw (eq-eqb x 0 z) at h).0
zeros_has P n (x ∷ l) h (suc i) b z = subst P shift (zeros_has P (n + 1) l (rest (ℕ_discrete x 0)) i (omega arith) z)
  where
    shift : n + 1 + i ≡ n + suc i
    shift = omega arith

    rest : Dec (x ≡ 0) → All P (zeros_from (n + 1) l)
    rest (yes e) = (rw (eq-eqb x 0 e) at h).1
    rest (no e) = rw (ne_eqb x 0 e) at h

-- the places listed are below n + length l and from n on
zeros_away : (f : ℕ → Fin 256) (m k n : ℕ) (l : List ℕ) → ((i j : ℕ) → i < j → j < m → f j ≡ f i → ⊥) → k < n → n + length l ≤ m → Away (f k) (map f (zeros_from n l))
unfolding zeros_from
zeros_away f m k n [] h a b = tt
zeros_away f m k n (x ∷ l) h a b = go (ℕ_discrete x 0) (zeros_away f m k (n + 1) l h (omega arith) (omega arith))
  where
    go : Dec (x ≡ 0) → Away (f k) (map f (zeros_from (n + 1) l)) → Away (f k) (map f (pick (eqb x 0) (n ∷ []) [] ++ zeros_from (n + 1) l))
    go (yes e) r = rw (eq-eqb x 0 e) (h k n a (omega arith), r)
    go (no e) r = rw (ne_eqb x 0 e) r

pub zeros_distinct : (f : ℕ → Fin 256) (m n : ℕ) (l : List ℕ) → ((i j : ℕ) → i < j → j < m → f j ≡ f i → ⊥) → n + length l ≤ m → Distinct (map f (zeros_from n l))
unfolding zeros_from
zeros_distinct f m n [] h b = tt
zeros_distinct f m n (x ∷ l) h b = go (ℕ_discrete x 0) (zeros_away f m n (n + 1) l h (omega arith) (omega arith)) (zeros_distinct f m (n + 1) l h (omega arith))
  where
    go : Dec (x ≡ 0) → Away (f n) (map f (zeros_from (n + 1) l)) → Distinct (map f (zeros_from (n + 1) l)) → Distinct (map f (pick (eqb x 0) (n ∷ []) [] ++ zeros_from (n + 1) l))
    go (yes e) a r = rw (eq-eqb x 0 e) (a, r)
    go (no e) a r = rw (ne_eqb x 0 e) r

-- ---- how many zeros there are

abbrev pub hit : ℕ → ℕ → ℕ
hit n x = length (pick (eqb x 0) (n ∷ []) [])

pub hit_zero : (n x : ℕ) → x ≡ 0 → hit n x ≡ 1
hit_zero n x e = simp (eq-eqb x 0 e)

pub hit_other : (n x : ℕ) → (x ≡ 0 → ⊥) → hit n x ≡ 0
hit_other n x e = simp (ne_eqb x 0 e)

pub zeros_cons : (n x : ℕ) (l : List ℕ) → length (zeros_from n (x ∷ l)) ≡ hit n x + length (zeros_from (n + 1) l)
unfolding zeros_from
zeros_cons n x l = length-append (pick (eqb x 0) (n ∷ []) []) (zeros_from (n + 1) l)

-- where every zero of a list is a zero of one of two others, it has no more zeros than both
pub zeros_shared : (n : ℕ) (w u v : List ℕ) → length u ≡ length w → length v ≡ length w → ((i : ℕ) → i < length w → get_or w i 0 ≡ 0 → (get_or u i 0 ≡ 0) ⊎ (get_or v i 0 ≡ 0))
    → length (zeros_from n w) ≤ length (zeros_from n u) + length (zeros_from n v)
unfolding zeros_from
zeros_shared n [] u v a b m = omega arith
zeros_shared n (z ∷ w) [] v a b m = absurd (omega arith)
zeros_shared n (z ∷ w) (x ∷ u) [] a b m = absurd (omega arith)
zeros_shared n (z ∷ w) (x ∷ u) (y ∷ v) a b m =
    omega (arith, zeros_cons n z w, zeros_cons n x u, zeros_cons n y v, own (ℕ_discrete z 0), zeros_shared (n + 1) w u v (omega arith) (omega arith) (λ i h. m (suc i) (omega arith)))
  where
    either : (x ≡ 0) ⊎ (y ≡ 0) → z ≡ 0 → hit n z ≤ hit n x + hit n y
    either (inl e) k = omega (arith, hit_zero n z k, hit_zero n x e)
    either (inr e) k = omega (arith, hit_zero n z k, hit_zero n y e)

    own : Dec (z ≡ 0) → hit n z ≤ hit n x + hit n y
    own (yes e) = either (m 0 (omega arith) e) e
    own (no e) = omega (arith, hit_other n z e)
