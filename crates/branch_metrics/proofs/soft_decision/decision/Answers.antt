-- `branch_metrics::soft_decision::decision` meets its contract.
-- Assumes nothing.
use mathlib.Core.Path.{sym}
use native.Mathlib.Omega.{arith}
use borrow.Author.Tests.{eq-eqb}
use Rattle.branch_metrics.proofs.Numbers.{ne_nan, marked_nan}
use Rattle.branch_metrics.proofs.soft_decision.decision.Goals as goal

pub returns-then-x : goal.returns-then-x
returns-then-x c = (sym (rw (sym (ne_nan c.args.x), c.if-x.true) (marked_nan c.args.mark)), omega arith)

pub returns : goal.returns
returns c = (rw (sym (ne_nan c.args.x), c.if-x.false) (simp (eq-eqb _ _ c.if-mark-ne0.false)), omega arith)
