-- `report::put_bits` meets its contract.
-- Assumes nothing.
use Prim.Native.Nat.{◌+◌}
use native.Mathlib.Omega.{arith}
use Rattle.report_lines.proofs.Lines.{put_appended}
use Rattle.report.proofs.Fronts.{dash_is}
use Rattle.report.proofs.Counting.{appended_none}
use Rattle.report.proofs.put_bits.Goals as goal

pub returns-in-Absent : goal.returns-in-Absent
returns-in-Absent c = rw c.in-Absent.is (appended_none _ _ _ (omega arith))

pub returns-in-Dash : goal.returns-in-Dash
returns-in-Dash c =
    let a = c.args in
    rw (c.in-Dash.is, dash_is, c.put.ensures) (put_appended a.output.now _ a.at (a.at + 31) (omega arith) (omega arith))

pub returns-in-Number : goal.returns-in-Number
returns-in-Number c = rw c.in-Number.is c.put_row.ensures
