-- `branch_metrics::soft_decision::write_sixteens` meets its contract.
-- Assumes nothing.
use Prim.Native.Nat.{◌*◌}
use lib.ListN.{length}
use Rattle.common.proofs.Each.{Each}
use Rattle.branch_metrics.specs.SoftPairs.{symbol_at}
use Rattle.branch_metrics.proofs.Runs.{Holds}
use Rattle.branch_metrics.proofs.soft_decision.write_sixteens.Given as goal

abbrev pub invariant-loop-n : goal.invariant-loop-n
invariant-loop-n l = Each (Holds (symbol_at l.is l.qs l.lost)) (length l.initial.output) l.output (16 * l.n)
