-- `branch_metrics::soft_decision::number_decision` meets its contract.
-- Assumes nothing.
use mathlib.Core.Path.{◌∙◌, ap}
use mathlib.Core.Bool.{cond}
use Prim.Native.Nat.{ℕ}
use lib.Ieee.{is_nan}
use Rattle.branch_metrics.specs.SoftPairs.{number_decision}
use Rattle.branch_metrics.proofs.soft_decision.number_decision.Goals as goal

pub returns : goal.returns
unfolding number_decision
returns c = (c.decision.ensures.0 ∙ ap (λ (l : ℕ). cond (is_nan c.args.x) 8 l) c.number_level.ensures.0, c.decision.ensures.1)
