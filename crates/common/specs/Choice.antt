-- The choice that a test makes, and tests as numbers.
-- Assumes nothing.
use Rattle.std.specs.Prelude.{Bool, true, false, ℕ, eqb}

-- a where the test passes, else b
abbrev pub pick {ℓ} : {A : Type ℓ} → Bool → A → A → A
pick true a b = a
pick false a b = b

-- 1 where the test passes, else 0
abbrev pub indicator : Bool → ℕ
indicator true = 1
indicator false = 0

-- 0 where two numbers are equal, else 1
abbrev pub unequal : ℕ → ℕ → ℕ
unequal x y = pick (eqb x y) 0 1
