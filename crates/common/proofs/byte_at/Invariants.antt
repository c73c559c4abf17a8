-- `common::byte_at` meets its contract.
-- Assumes nothing.
use mathlib.Core.Path.{◌≡◌}
use Prim.Native.Nat.{ℕ, ◌-◌, ◌≤◌}
use Rattle.common.specs.Bytes.{byte_at}
use Rattle.common.proofs.byte_at.Given as goal

-- the byte that is wanted is byte k - j of what is left
pub record Divided (n k left j : ℕ) : Type 0 where
  pub within : j ≤ k
  pub same : byte_at (k - j) left ≡ byte_at k n

abbrev pub invariant-loop : goal.invariant-loop
invariant-loop l = Divided l.n l.k l.left l.counter
