-- `report::read_rows` meets its contract.
-- Assumes nothing.

use Rattle.report.proofs.LineRuns.{RowsTo}
use Rattle.report.proofs.read_rows.Given as goal

abbrev pub invariant-loop-i : goal.invariant-loop-i
invariant-loop-i l = RowsTo l.text l.at l.i l.values l.place
