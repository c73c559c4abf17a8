-- The test of the positions, and what it tells of each.
-- Assumes nothing.
use mathlib.Core.Path.{◌≡◌, refl, subst}
use mathlib.Core.Bool.{Bool, true, false}
use mathlib.Core.List.{List}
use Prim.Native.Nat.{ℕ, zero, suc, ◌+◌, ◌≤◌, ◌<◌, max}
use native.Mathlib.Nat.{not-suc-le-zero}
use native.Mathlib.Decide.{ℕ_discrete}
use native.Mathlib.Numerals.{add-one}
use native.Mathlib.Omega.{arith}
use borrow.Author.Tests.{ltb-true, lt-ltb, le-ltb}
use lib.Dec.{ltb}
use lib.ListN.{get_or}
use Rattle.common.specs.Choice.{pick}
use Rattle.common.proofs.Choice.{both_true}
use Rattle.interleaver.specs.Branch.{size_of, positions_within}
use Rattle.interleaver.specs.declared.branches.Side.{Side}

module _ (side : Side) (positions : List ℕ) where
  -- the test at one branch more
  pub within_more : (j : ℕ) → positions_within side positions j ≡ true → get_or positions j 0 < max 1 (size_of side j) → positions_within side positions (j + 1) ≡ true
  unfolding positions_within
  within_more j e h = rw add-one (rw e (lt-ltb _ _ h))

  pub within_fails : (j n : ℕ) → j < n → max 1 (size_of side j) ≤ get_or positions j 0 → positions_within side positions n ≡ false
  unfolding positions_within
  within_fails j zero u h = absurd (not-suc-le-zero u)
  within_fails j (suc n) u h = by (ℕ_discrete j n) (within_fails j n)
    where
      fails : (t : Bool) {b : Bool} → b ≡ false → pick t b false ≡ false
      fails true e = e
      fails false e = refl

      by : Dec (j ≡ n) → (j < n → max 1 (size_of side j) ≤ get_or positions j 0 → positions_within side positions n ≡ false) → positions_within side positions (suc n) ≡ false
      by (yes q) r = fails (positions_within side positions n) (subst (λ (m : ℕ). ltb (get_or positions m 0) (max 1 (size_of side m)) ≡ false) q (le-ltb _ _ h))
      by (no q) r = rw (r (omega arith) h)

  pub within_bound : (n : ℕ) → positions_within side positions n ≡ true → (j : ℕ) → j < n → get_or positions j 0 < max 1 (size_of side j)
  unfolding positions_within
  within_bound zero e j h = absurd (not-suc-le-zero h)
  within_bound (suc n) e j h = by (ℕ_discrete j n) (within_bound n)
    where
      both : (positions_within side positions n ≡ true) × (ltb (get_or positions n 0) (max 1 (size_of side n)) ≡ true)
      both = both_true (positions_within side positions n) (ltb (get_or positions n 0) (max 1 (size_of side n))) e

      by : Dec (j ≡ n) → (positions_within side positions n ≡ true → (k : ℕ) → k < n → get_or positions k 0 < max 1 (size_of side k)) → get_or positions j 0 < max 1 (size_of side j)
      by (yes q) r = rw q (ltb-true _ _ both.1)
      by (no q) r = r both.0 j (omega arith)

  pub within_all : (n : ℕ) → ((j : ℕ) → j < n → get_or positions j 0 < max 1 (size_of side j)) → positions_within side positions n ≡ true
  unfolding positions_within
  within_all zero h = refl
  within_all (suc n) h = rw (within_all n (λ j k. h j (omega arith))) (lt-ltb _ _ (h n (omega arith)))
