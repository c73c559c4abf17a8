-- `report::bits_fit` meets its contract.
-- Assumes nothing.
use Rattle.report.specs.Text.{row}
use Rattle.report.proofs.bits_fit.Goals as goal

pub returns-in-Number : goal.returns-in-Number
unfolding row
returns-in-Number c = rw c.in-Number.is (simp c.table_row.ensures.1)
