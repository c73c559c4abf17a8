-- `report::read_row` meets its contract.
-- Assumes nothing.
use mathlib.Core.Path.{subst₂}
use mathlib.Core.List.{List}
use Prim.Native.Nat.{ℕ}
use native.Mathlib.Omega.{arith}
use Rattle.std.specs.Prelude.{is_some}
use Rattle.report_lines.specs.Reading.{found_or, LineIs}
use Rattle.report.proofs.Table.{table}
use borrow.Author.Rules.{rules}
use Rattle.report.proofs.read_row.Goals as goal

pub read_line-requires : goal.read_line-requires
read_line-requires c = (omega arith, omega (arith, (table c.args.n (search rules)).small, c.table_row-row.ensures.1))

pub returns : goal.returns
returns c =
    let a = c.args in
    let t = c.table_row-row.ensures in
    let l = c.read_line in
    subst₂ (λ (k : List ℕ) (m : ℕ). LineIs k a.text.now a.at m (is_some l.result) (found_or 0 (λ l. l.value) l.result) (found_or 0 (λ l. l.end) l.result)) t.0 t.1 l.ensures
