-- `report::put_rows` meets its contract.
-- Assumes nothing.
use Prim.Native.Nat.{◌*◌, ◌≤◌}
use Rattle.report_lines.specs.Line.{Appended}
use Rattle.report.specs.Text.{lines_text}
use Rattle.report.proofs.put_rows.Given as goal

abbrev pub invariant-loop-i : goal.invariant-loop-i
invariant-loop-i l = (l.i ≤ 8) × Appended (lines_text l.i l.values) l.initial.output l.output 0 l.at (31 * l.i)
