-- `branch_metrics::depuncturing::spread_3_4` meets its contract.
-- Assumes nothing.
use lib.ListN.{length}
use Rattle.branch_metrics.proofs.Facts.{Spread_3_4}
use Rattle.branch_metrics.proofs.depuncturing.spread_3_4.Given as goal

abbrev pub invariant-loop-k : goal.invariant-loop-k
invariant-loop-k l = Spread_3_4 l.pairs (length l.initial.output) l.output l.k
