-- A loop that stores one element a turn: what holds of each element stored so far.
-- Assumes nothing.
use mathlib.Core.Path.{◌≡◌, sym, ◌∙◌, subst}
use mathlib.Core.List.{List}
use Prim.Native.Nat.{ℕ, ◌+◌, ◌≤◌, ◌<◌}
use native.Mathlib.Decide.{ℕ_discrete}
use native.Mathlib.Omega.{arith}
use lib.ListN.{length, get_or, set, length-set}
use lib.Seq.{get_or-set_same, get_or-set_other}

-- the first n of size elements are stored, and P holds of each of them and its place
pub record Each (P : ℕ → ℕ → Type 0) (size : ℕ) (r : List ℕ) (n : ℕ) : Type 0 where
  pub len : length r ≡ size
  pub most : n ≤ size
  pub each : (k : ℕ) → k < n → P k (get_or r k 0)

module _ {P : ℕ → ℕ → Type 0} {size : ℕ} {r : List ℕ} where
  pub each_none : length r ≡ size → Each P size r 0
  each_none l = record { len = l; most = omega arith; each = λ k h. absurd (omega arith) }

  pub each_more : {n : ℕ} (v : ℕ) → n < size → P n v → Each P size r n → Each P size (set r n v) (n + 1)
  each_more {n} v h p e =
      record { len = length-set r n v ∙ e.len; most = omega arith; each = λ k l. go k l (ℕ_discrete k n) }
    where
      go : (k : ℕ) → k < n + 1 → Dec (k ≡ n) → P k (get_or (set r n v) k 0)
      go k l (yes q) =
          subst (λ (i : ℕ). P i (get_or (set r n v) i 0)) (sym q)
          (subst (P n) (sym (get_or-set_same r n v 0 (omega (arith, e.len)))) p)
      go k l (no q) = subst (P k) (sym (get_or-set_other r n k v 0 q)) (e.each k (omega arith))

  pub each_all : {n : ℕ} → size ≤ n → Each P size r n → (k : ℕ) → k < size → P k (get_or r k 0)
  each_all h e k l = e.each k (omega (arith, e.most))

-- ---- a list changed in place from its front

-- P holds of the first n elements and their places, and the others are as they were
pub record Updated (P : ℕ → ℕ → Type 0) (old new : List ℕ) (n : ℕ) : Type 0 where
  pub len : length new ≡ length old
  pub done : (k : ℕ) → k < n → P k (get_or new k 0)
  pub todo : (k : ℕ) → n ≤ k → get_or new k 0 ≡ get_or old k 0
