-- `reed_solomon::count_marks` meets its contract: the first i marks are counted.
-- Assumes nothing.
use Rattle.reed_solomon.proofs.Marks.{CountedTo}
use Rattle.reed_solomon.proofs.count_marks.Given as goal

abbrev pub invariant-loop-mark : goal.invariant-loop-mark
invariant-loop-mark l = CountedTo l.marks l.count l.mark-index
