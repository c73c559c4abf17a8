-- `branch_metrics::soft_decision::sixteen_decisions` meets its contract.
-- Assumes nothing.
use mathlib.Core.Path.{◌≡◌}
use Prim.Native.Nat.{◌+◌, ◌≤◌}
use lib.Ieee.{nan}
use lib.ListN.{get_or}
use Rattle.common.proofs.Each.{Each}
use Rattle.branch_metrics.specs.SoftPairs.{number_decision, marked}
use Rattle.branch_metrics.proofs.soft_decision.sixteen_decisions.Given as goal

abbrev pub invariant-loop-i : goal.invariant-loop-i
invariant-loop-i l = Each (λ k v. (v ≡ marked (get_or l.marks (l.at + k) 0) (number_decision (get_or l.list (l.at + k) nan))) × (v ≤ 8)) 16 l.r l.i
