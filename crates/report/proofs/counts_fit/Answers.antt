-- `report::counts_fit` meets its contract.
-- Assumes nothing.
use mathlib.Core.Path.{◌≡◌, refl, sym, subst}
use mathlib.Core.Bool.{true}
use Prim.Native.Nat.{ℕ}
use native.Mathlib.Omega.{arith}
use Rattle.report.specs.Text.{numbers_within}
use Rattle.report.proofs.LineRuns.{within_more, within_fails}
use Rattle.report.proofs.counts_fit.Goals as goal

pub loop-i-init : goal.loop-i-init
unfolding numbers_within
loop-i-init c = (omega arith, refl)

pub returns-then-table_row-values : goal.returns-then-table_row-values
returns-then-table_row-values c =
    let l = c.loop-i in
    within_fails 8 l.i _ c.loop-i-test.true (omega (arith, c.if-table_row-values.true, c.table_row.ensures.1))

pub loop-i-preserved : goal.loop-i-preserved
loop-i-preserved c =
    let l = c.loop-i in
    (omega arith, within_more l.i _ l.invariant.1 (omega (arith, c.if-table_row-values.false, c.table_row.ensures.1)))

pub returns : goal.returns
returns c =
    let l = c.loop-i in
    let e : l.i ≡ 8 = omega arith in
    sym (subst (λ (k : ℕ). numbers_within k c.args.values ≡ true) e l.invariant.1)
