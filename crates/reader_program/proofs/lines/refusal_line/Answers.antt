-- `reader_program::lines::refusal_line` meets its contract.
-- Assumes nothing.
use native.Mathlib.Omega.{arith}
use mathlib.Core.Path.{refl}
use Rattle.report_lines.proofs.Lines.{joined_appended, restated}
use Rattle.reader_program.specs.Lines.{refusal_line}
use Rattle.reader_program.proofs.lines.refusal_line.Goals as goal

pub returns : goal.returns
unfolding refusal_line
returns c =
    let a = c.args in
    let f = c.put_field-at in
    let g = c.put_line in
    restated 96 (joined_appended _ _ a.text.now f.new.output g.new.output 0 f.result g.result _ _ f.ensures g.ensures) refl
    (omega (arith, f.ensures.bound, g.ensures.bound))
