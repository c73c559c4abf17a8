-- `reception_counts::count_bytes::put_counts` meets its contract.
-- Assumes nothing.
use mathlib.Core.Path.{◌≡◌}
use mathlib.Core.List.{List, ◌++◌, map, flatten}
use Prim.Native.Nat.{ℕ, ◌*◌, ◌≤◌}
use lib.ListN.{take, drop}
use Rattle.reception_counts.specs.Bytes.{to_bytes}
use Rattle.reception_counts.proofs.count_bytes.put_counts.Given as goal

-- the first i of eight numbers are written
pub record Put (output₀ numbers output : List ℕ) (i : ℕ) : Type 0 where
  pub within : i ≤ 8
  pub same : output ≡ flatten (map (to_bytes 8) (take i numbers)) ++ drop (8 * i) output₀

abbrev pub invariant-loop-i : goal.invariant-loop-i
invariant-loop-i l = Put l.initial.output l.numbers l.output l.i
