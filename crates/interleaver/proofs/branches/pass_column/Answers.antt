-- `interleaver::branches::pass_column` meets its contract.
-- Assumes nothing.
use mathlib.Core.Path.{◌∙◌, ap, sym}
use mathlib.Core.List.{List}
use Prim.Native.Nat.{ℕ}
use borrow.Author.Tests.{ne_eqb}
use Rattle.interleaver.specs.Column.{column, scattered}
use Rattle.interleaver.specs.Block.{position_after}
use Rattle.interleaver.proofs.Columns.{length_column}
use Rattle.interleaver.proofs.Rings.{through}
use Rattle.interleaver.proofs.branches.pass_column.Goals as goal

pub returns-then-cells-eq0 : goal.returns-then-cells-eq0
returns-then-cells-eq0 c =
    let a = c.args in
    let e = through a.position a.cells.now (column a.j a.block.now) c.if-cells-eq0.true (length_column a.j a.block.now) in
    (e.0, e.1, c.copy_column.ensures ∙ ap (λ (l : List ℕ). scattered a.j l a.output.now) e.2)

pub returns : goal.returns
unfolding position_after
returns c =
    let e = c.exchange_column.ensures in
    (e.0 ∙ sym (simp (ne_eqb _ _ c.if-cells-eq0.false)), e.1, e.2)
