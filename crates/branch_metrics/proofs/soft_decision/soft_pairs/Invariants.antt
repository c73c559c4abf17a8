-- `branch_metrics::soft_decision::soft_pairs` meets its contract.
-- Assumes nothing.
use lib.ListN.{length}
use Rattle.common.proofs.Each.{Each}
use Rattle.branch_metrics.specs.SoftPairs.{symbol_at}
use Rattle.branch_metrics.proofs.Runs.{Holds}
use Rattle.branch_metrics.proofs.soft_decision.soft_pairs.Given as goal

abbrev pub invariant-loop-k : goal.invariant-loop-k
invariant-loop-k l = Each (Holds (symbol_at l.is l.qs l.lost)) (length l.initial.output) l.output l.k
