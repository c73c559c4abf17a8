-- `report_lines::read_number` meets its contract.
-- Assumes nothing.
use Rattle.report_lines.proofs.Numbers.{NumberTo}
use Rattle.report_lines.proofs.read_number.Given as goal

abbrev pub invariant-loop-i : goal.invariant-loop-i
invariant-loop-i l = NumberTo l.text l.at l.limit l.i l.value
