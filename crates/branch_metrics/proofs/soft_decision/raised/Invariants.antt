-- `branch_metrics::soft_decision::raised` meets its contract.
-- Assumes nothing.
use mathlib.Core.Path.{◌≡◌}
use Prim.Native.Nat.{◌+◌, ◌≤◌}
use lib.Ieee.{le, nan}
use lib.ListN.{get_or}
use Rattle.common.specs.Choice.{indicator}
use Rattle.common.proofs.Each.{Each}
use Rattle.branch_metrics.proofs.soft_decision.raised.Given as goal

abbrev pub invariant-loop-i : goal.invariant-loop-i
invariant-loop-i l = Each (λ k v. (v ≡ get_or l.levels k 0 + indicator (le l.threshold (get_or l.list (l.at + k) nan))) × (v ≤ get_or l.levels k 0 + 1)) 16 l.r l.i
