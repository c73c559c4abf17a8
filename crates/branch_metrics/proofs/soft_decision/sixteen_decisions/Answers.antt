-- `branch_metrics::soft_decision::sixteen_decisions` meets its contract.
-- Assumes nothing.
use mathlib.Core.Bool.{cond}
use mathlib.Core.Path.{◌∙◌, ap}
use Prim.Native.Nat.{ℕ, ◌+◌, ◌<◌}
use native.Mathlib.Omega.{arith}
use lib.Ieee.{nan, is_nan}
use lib.ListN.{get_or}
use Rattle.common.proofs.Each.{each_more}
use Rattle.branch_metrics.specs.SoftPairs.{number_decision, marked}
use Rattle.branch_metrics.proofs.soft_decision.sixteen_decisions.Goals as goal

pub loop-i-preserved : goal.loop-i-preserved
unfolding number_decision
loop-i-preserved c =
    let l = c.loop-i in
    let h : l.i < 16 = omega arith in
    each_more _ (omega arith) (
      c.decision.ensures.0
          ∙ ap (λ (v : ℕ). marked (get_or c.args.marks.now (c.args.at + l.i) 0) (cond (is_nan (get_or c.args.list.now (c.args.at + l.i) nan)) 8 v))
          (c.sixteen_levels-levels.ensures l.i h).0,
      c.decision.ensures.1,
    ) l.invariant
