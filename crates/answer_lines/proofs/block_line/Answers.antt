-- `answer_lines::block_line` meets its contract.
-- Assumes nothing.
use native.Mathlib.Omega.{arith}
use Rattle.report_lines.proofs.Lines.{joined_appended}
use Rattle.answer_lines.specs.Lines.{block_text}
use Rattle.answer_lines.proofs.Bounds.{larger}
use Rattle.answer_lines.proofs.block_line.Goals as goal

pub returns : goal.returns
unfolding block_text
returns c =
    let a = c.args in
    let f = c.put_field-at in
    let g = c.put_field-next in
    let h = c.put_field in
    let p = joined_appended _ _ a.output.now f.new.output g.new.output 0 f.result g.result _ _ f.ensures g.ensures in
    larger 96 (joined_appended _ _ a.output.now g.new.output h.new.output 0 g.result h.result _ _ p h.ensures)
    (omega (arith, f.ensures.bound, g.ensures.bound, h.ensures.bound))
