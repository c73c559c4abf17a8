-- `report::read_rows` meets its contract.
-- Assumes nothing.
use mathlib.Core.Path.{refl}
use native.Mathlib.Omega.{arith}
use borrow.Author.Rules.{rules}
use Rattle.report.proofs.LineRuns.{rows_none, rows_more, rows_stop, rows_all}
use Rattle.report.proofs.read_rows.Goals as goal

pub loop-i-init : goal.loop-i-init
loop-i-init c = rows_none refl (search rules)

pub read_row-requires : goal.read_row-requires
read_row-requires c = (c.loop-i.invariant.past, omega arith)

pub returns-in_err-line : goal.returns-in_err-line
returns-in_err-line c =
    let l = c.loop-i in
    rw c.from_residual.ensures (rows_stop 0 0 l.invariant c.loop-i-test.true c.in_err-line.ensures)

pub loop-i-preserved : goal.loop-i-preserved
loop-i-preserved c =
    let l = c.loop-i in
    let r = c.in_ok-line in
    rows_more r.line.value r.line.end l.invariant c.loop-i-test.true r.ensures

pub returns : goal.returns
returns c = rows_all c.loop-i.invariant c.loop-i-test.false
