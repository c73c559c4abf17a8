-- `reed_solomon::count_marks` meets its contract: the first i marks are counted.
-- Assumes nothing.
use Rattle.reed_solomon.proofs.Marks.{counted_none, counted_more}
use borrow.Author.Rules.{rules}
use Rattle.reed_solomon.proofs.count_marks.Goals as goal

pub loop-mark-init : goal.loop-mark-init
loop-mark-init c = counted_none _

pub loop-mark-preserved : goal.loop-mark-preserved
loop-mark-preserved c = counted_more _ _ _ c.requires (search rules) c.loop-mark.invariant
