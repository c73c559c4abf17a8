-- `report::put_row` meets its contract.
-- Assumes nothing.
use mathlib.Core.Path.{ap}
use mathlib.Core.List.{List}
use Prim.Native.Nat.{ℕ, ◌+◌}
use native.Mathlib.Omega.{arith}
use lib.ListN.{length}
use Rattle.report_lines.specs.Line.{line_text}
use Rattle.report_lines.proofs.Lines.{restated}
use Rattle.report.proofs.Table.{table}
use borrow.Author.Rules.{rules}
use Rattle.report.proofs.put_row.Goals as goal

pub put_line-requires : goal.put_line-requires
put_line-requires c =
    let a = c.args in
    let t = table a.n (search rules) in
    let k = ap length c.table_row.ensures.0 in
    omega (arith, t.short)

pub returns : goal.returns
returns c =
    let a = c.args in
    let t = table a.n (search rules) in
    let k = ap length c.table_row.ensures.0 in
    let l = c.put_line in
    restated (a.at + 31) l.ensures (ap (λ (w : List ℕ). line_text w a.value) c.table_row.ensures.0) (omega (arith, l.ensures.bound, t.short))
