-- `kernels::lanes::scale_by` meets its contract.
-- Assumes nothing.
use Rattle.kernels.proofs.Factors.{scaling_none, scaling_more, scaling_all}
use Rattle.kernels.proofs.lanes.scale_by.Goals as goal

pub loop-factor-init : goal.loop-factor-init
loop-factor-init c = scaling_none _ _

pub loop-factor-preserved : goal.loop-factor-preserved
loop-factor-preserved c =
    scaling_more c.loop-factor.invariant c.loop-factor-test.true c.scale-next.ensures

pub returns : goal.returns
returns c = scaling_all c.loop-factor.invariant c.loop-factor-test.false
