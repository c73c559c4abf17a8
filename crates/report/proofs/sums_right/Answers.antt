-- `report::sums_right` meets its contract.
-- Assumes nothing.
use native.Mathlib.Omega.{arith}
use borrow.Author.Tests.{eq-eqb, ne_eqb}
use Rattle.report.specs.Text.{sums}
use Rattle.report.proofs.Counting.{fits_small}
use Rattle.report.proofs.sums_right.Goals as goal

pub overflow_add-sum : goal.overflow_add-sum
overflow_add-sum c = omega (arith, fits_small _ c.requires)

pub overflow_add-sum-2 : goal.overflow_add-sum-2
overflow_add-sum-2 c = omega (arith, fits_small _ c.requires)

pub overflow_add-sum-3 : goal.overflow_add-sum-3
overflow_add-sum-3 c = omega (arith, fits_small _ c.requires)

pub overflow_add-sum-4 : goal.overflow_add-sum-4
overflow_add-sum-4 c = omega (arith, fits_small _ c.requires)

pub returns-else-sum-report : goal.returns-else-sum-report
unfolding sums
returns-else-sum-report c = simp (ne_eqb _ _ c.if-sum-report.false)

pub returns-then-sum-report : goal.returns-then-sum-report
unfolding sums
returns-then-sum-report c = simp (eq-eqb _ _ c.if-sum-report.true, c.min.ensures)
