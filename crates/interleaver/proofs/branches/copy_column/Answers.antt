-- `interleaver::branches::copy_column` meets its contract.
-- Assumes nothing.
use mathlib.Core.Path.{◌≡◌, ◌∙◌, sym}
use Prim.Native.Nat.{◌<◌}
use native.Mathlib.Omega.{arith}
use Rattle.interleaver.proofs.Columns.{placing_more, placing_all, length_column, get_d_column}
use Rattle.interleaver.proofs.branches.copy_column.Goals as goal

pub loop-k-preserved : goal.loop-k-preserved
loop-k-preserved c =
    let a = c.args in
    let l = c.loop-k in
    let test : l.k < 17 = omega arith in
    let n = length_column a.j a.block.now in
    placing_more l.invariant _ (omega arith) (sym (get_d_column a.j a.block.now l.k test))

pub returns : goal.returns
returns c =
    let a = c.args in
    let l = c.loop-k in
    let e : l.k ≡ 17 = omega arith in
    placing_all l.invariant (length_column a.j a.block.now ∙ sym e)
