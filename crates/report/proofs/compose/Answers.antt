-- `report::compose` meets its contract.
-- Assumes nothing.
use mathlib.Core.Path.{ap}
use mathlib.Core.List.{List, ◌++◌}
use Prim.Native.Nat.{ℕ}
use native.Mathlib.Omega.{arith}
use Rattle.report_lines.specs.Line.{line_text}
use Rattle.report_lines.proofs.Lines.{joined_appended, restated}
use Rattle.report.specs.Text.{row, lines_text, bits_text, report_text}
use Rattle.report.proofs.compose.Goals as goal

pub returns : goal.returns
unfolding report_text
returns c =
    let a = c.args in
    let one = c.put_rows-at.ensures in
    let two = joined_appended _ (bits_text a.report.bits) _ _ _ 0 _ _ _ _ one c.put_bits-at.ensures in
    let three = joined_appended _ (line_text (row 9).key a.report.rest) _ _ _ 0 _ _ _ _ two c.put_row.ensures in
    restated 310 three (ap (λ (vs : List ℕ). lines_text 8 vs ++ bits_text a.report.bits ++ line_text (row 9).key a.report.rest) c.numbers.ensures)
    (omega (arith, one.bound, c.put_bits-at.ensures.bound, c.put_row.ensures.bound))
