-- `branch_metrics::soft_decision::symbol_pair` meets its contract.
-- Assumes nothing.
use mathlib.Core.Path.{sym, ap, ◌∙◌}
use Rattle.branch_metrics.specs.SoftPairs.{symbol_pair}
use Rattle.branch_metrics.proofs.soft_decision.symbol_pair.Goals as goal

pub returns-in-Some : goal.returns-in-Some
unfolding symbol_pair
returns-in-Some c = c.point_levels.ensures ∙ sym (ap symbol_pair c.in-Some.is)

pub returns-in-None : goal.returns-in-None
unfolding symbol_pair
returns-in-None c = sym (ap symbol_pair c.in-None.is)
