-- `branch_metrics::depuncturing::spread_places` meets its contract: proofs/Facts.antt has what holds as the loop goes.
-- Assumes nothing.
use Rattle.branch_metrics.proofs.Facts.{Spreading}
use Rattle.branch_metrics.proofs.depuncturing.spread_places.Given as goal

abbrev pub invariant-loop-k : goal.invariant-loop-k
invariant-loop-k l = Spreading l.pairs l.rate l.n l.k l.place l.j l.initial.output l.output
