-- `report::put_rows` meets its contract.
-- Assumes nothing.
use mathlib.Core.Path.{◌≡◌, ap}
use Prim.Native.Nat.{ℕ}
use native.Mathlib.Omega.{arith}
use Rattle.report.specs.Text.{lines_text}
use Rattle.report_lines.proofs.Lines.{restated}
use Rattle.report.proofs.Counting.{no_lines, line_more}
use Rattle.report.proofs.put_rows.Goals as goal

pub loop-i-init : goal.loop-i-init
loop-i-init c = (omega arith, no_lines _ _)

pub put_row-at-requires : goal.put_row-at-requires
put_row-at-requires c =
    let l = c.loop-i in
    let s = l.invariant.1.same in
    let k = l.invariant.1.bound in
    (omega arith, omega arith)

pub loop-i-preserved : goal.loop-i-preserved
loop-i-preserved c =
    let l = c.loop-i in
    (omega arith, line_more _ _ _ _ l.i l.at _ l.invariant.1 c.put_row-at.ensures)

pub shape_of-output : goal.shape_of-output
shape_of-output c = c.loop-i.invariant.1.same

pub returns : goal.returns
returns c =
    let l = c.loop-i in
    let e : l.i ≡ 8 = omega arith in
    restated 248 l.invariant.1 (ap (λ (k : ℕ). lines_text k c.args.values) e) (omega (arith, l.invariant.1.bound))
