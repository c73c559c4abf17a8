-- `dvbs_send::lines::replaced_line` meets its contract.
-- Assumes nothing.
use mathlib.Core.Path.{refl}
use native.Mathlib.Omega.{arith}
use Rattle.report_lines.proofs.Lines.{joined_appended, restated}
use Rattle.dvbs_send.specs.Lines.{replaced_line}
use Rattle.dvbs_send.proofs.lines.replaced_line.Goals as goal

pub returns : goal.returns
unfolding replaced_line
returns c =
    let a = c.args in
    let f = c.put_field-at in
    let g = c.put_field in
    restated 96 (joined_appended _ _ a.text.now f.new.output g.new.output 0 f.result g.result _ _ f.ensures g.ensures) refl
    (omega (arith, f.ensures.bound, g.ensures.bound))
