-- Laws of a choice that a test makes.
-- Assumes nothing.
use mathlib.Core.Path.{◌≡◌, refl}
use mathlib.Core.Bool.{Bool, true, false, not, true≢false, false≢true}
use Prim.Native.Nat.{ℕ, ◌≤◌}
use native.Mathlib.Omega.{arith}
use lib.Dec.{eqb}
use Rattle.common.specs.Choice.{pick, unequal}

pub false_true : {A : Type 0} → false ≡ true → A
false_true d = let z : ◌≡◌ {A = ℕ} 0 1 = cc in absurd (omega arith)

-- both tests pass where their conjunction does
pub both_true : (s t : Bool) → pick s t false ≡ true → (s ≡ true) × (t ≡ true)
both_true true t e = (refl, e)
both_true false t e = (e, false_true e)

-- what holds of a flag, where a test of its opposite has told which it is
pub flag_false : (P : Bool → Type 0) (b : Bool) → not b ≡ true → P b → P false
flag_false P true e p = absurd (false≢true e)
flag_false P false e p = p

pub flag_true : (P : Bool → Type 0) (b : Bool) → not b ≡ false → P b → P true
flag_true P true e p = p
flag_true P false e p = absurd (true≢false e)

pub unequal_le : (x y : ℕ) → unequal x y ≤ 1
unequal_le x y = go (eqb x y)
  where
    go : (t : Bool) → pick {A = ℕ} t 0 1 ≤ 1
    go true = omega arith
    go false = omega arith
