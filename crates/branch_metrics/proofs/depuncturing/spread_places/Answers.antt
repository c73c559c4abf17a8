-- `branch_metrics::depuncturing::spread_places` meets its contract: proofs/Facts.antt has what holds as the loop goes.
-- Assumes nothing.
use Rattle.branch_metrics.proofs.Facts.{spreading_none, spreading_more, in_pattern, asks, table_is}
use Rattle.branch_metrics.proofs.depuncturing.spread_places.Goals as goal

pub loop-k-init : goal.loop-k-init
loop-k-init c = spreading_none _ _ _ _

pub step_of-step-requires : goal.step_of-step-requires
step_of-step-requires c =
    let i = (in_pattern _ _ _ _ c.loop-k.invariant c.requires.1 c.requires.2).0 in
    (asks _ _ _ _ c.loop-k.invariant c.loop-k-test.true c.requires.4 _ (table_is _ _ c.requires.0 i), c.requires.6)

pub loop-k-preserved : goal.loop-k-preserved
loop-k-preserved c =
    let l = c.loop-k in
    let f = c.step_of-step.ensures in
    rw (c.following-place.ensures, c.requires.1)
    (spreading_more _ _ _ l.invariant c.loop-k-test.true c.requires.5 _ _ _ (table_is _ _ c.requires.0 (in_pattern _ _ _ _ l.invariant c.requires.1 c.requires.2).0) f.0 f.1)
