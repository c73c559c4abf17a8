-- `answer_lines::refusal_line` meets its contract.
-- Assumes nothing.
use native.Mathlib.Omega.{arith}
use Rattle.report_lines.proofs.Lines.{joined_appended}
use Rattle.answer_lines.specs.Lines.{refusal_text}
use Rattle.answer_lines.proofs.Bounds.{larger}
use Rattle.answer_lines.proofs.refusal_line.Goals as goal

pub returns : goal.returns
unfolding refusal_text
returns c =
    let a = c.args in
    let f = c.put_field-at in
    let g = c.put_field in
    larger 96 (joined_appended _ _ a.output.now f.new.output g.new.output 0 f.result g.result _ _ f.ensures g.ensures)
    (omega (arith, f.ensures.bound, g.ensures.bound))
