-- `branch_metrics::soft_decision::paired` meets its contract.
-- Assumes nothing.
use mathlib.Core.Path.{◌≡◌}
use Prim.Native.Nat.{◌+◌, ◌*◌}
use lib.ListN.{get_or}
use Rattle.common.proofs.Each.{Each}
use Rattle.branch_metrics.proofs.soft_decision.paired.Given as goal

abbrev pub invariant-loop-k : goal.invariant-loop-k
invariant-loop-k l = Each (λ i v. v ≡ 9 * get_or l.is i 0 + get_or l.qs i 0) 16 l.r l.k
