-- `branch_metrics::depuncturing::spread_3_4` meets its contract.
-- Assumes nothing.
use Rattle.branch_metrics.proofs.Facts.{threes_more}
use Rattle.branch_metrics.proofs.depuncturing.spread_3_4.Goals as goal

pub loop-k-preserved : goal.loop-k-preserved
loop-k-preserved c = threes_more _ c.loop-k.invariant c.loop-k-test.true c.requires.1
