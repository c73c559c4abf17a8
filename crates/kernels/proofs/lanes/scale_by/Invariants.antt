-- `kernels::lanes::scale_by` meets its contract.
-- Assumes nothing.
use Rattle.kernels.proofs.Factors.{Scaling}
use Rattle.kernels.proofs.lanes.scale_by.Given as goal

abbrev pub invariant-loop-factor : goal.invariant-loop-factor
invariant-loop-factor l = Scaling l.factors l.initial.a l.a l.factor-index
