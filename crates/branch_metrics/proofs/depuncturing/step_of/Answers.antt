-- `branch_metrics::depuncturing::step_of` meets its contract.
-- Assumes nothing.
use native.Mathlib.Omega.{arith}
use Rattle.branch_metrics.proofs.Facts.{wide}
use Rattle.branch_metrics.proofs.depuncturing.step_of.Goals as goal

pub decision_at-a-requires : goal.decision_at-a-requires
decision_at-a-requires c = (omega (arith, c.requires.0, wide c.args.sent), c.requires.1)
