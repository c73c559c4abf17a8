-- `dvbs_send::lines::counts_line` meets its contract.
-- Assumes nothing.
use mathlib.Core.Path.{refl}
use native.Mathlib.Omega.{arith}
use Rattle.report_lines.proofs.Lines.{joined_appended, restated}
use Rattle.dvbs_send.specs.Lines.{counts_line}
use Rattle.dvbs_send.proofs.lines.counts_line.Goals as goal

pub returns : goal.returns
unfolding counts_line
returns c =
    let a = c.args in
    let f = c.put_field-at in
    let g = c.put_field-at-2 in
    let h = c.put_field in
    let p = joined_appended _ _ a.text.now f.new.output g.new.output 0 f.result g.result _ _ f.ensures g.ensures in
    restated 96 (joined_appended _ _ a.text.now g.new.output h.new.output 0 g.result h.result _ _ p h.ensures) refl
    (omega (arith, f.ensures.bound, g.ensures.bound, h.ensures.bound))
