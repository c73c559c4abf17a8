-- `reed_solomon::error_bits::set_bits` meets its contract: the bits of the values from l on are left to count.
-- Assumes nothing.
use mathlib.Core.Path.{◌≡◌}
use mathlib.Core.List.{List}
use Prim.Native.Nat.{ℕ, ◌+◌, ◌*◌, ◌≤◌}
use lib.ListN.{drop}
use Rattle.reed_solomon.specs.Code.{unequal_bits}
use Rattle.reed_solomon.specs.Steps.{weighed}
use Rattle.reed_solomon.proofs.error_bits.set_bits.Given as goal

-- what is counted and what is left make the whole, and no byte has more than eight bits
pub record Counting (values : List ℕ) (bits l : ℕ) : Type 0 where
  pub few : bits ≤ 8 * l
  pub total : bits + weighed (unequal_bits 8) (drop l values) ≡ weighed (unequal_bits 8) values

abbrev pub invariant-loop-value : goal.invariant-loop-value
invariant-loop-value l = Counting l.values l.bits l.value-index
