-- `interleaver::branches::exchange_round` meets its contract.
-- Assumes nothing.
use mathlib.Core.Path.{◌≡◌, ◌∙◌, ap, sym}
use mathlib.Core.List.{◌++◌}
use Prim.Native.Nat.{ℕ, ◌≤◌, ◌<◌}
use native.Mathlib.Omega.{arith}
use lib.ListN.{length}
use lib.Seq.{get_or-take}
use Rattle.interleaver.specs.Branch.{turned}
use Rattle.interleaver.specs.Column.{column}
use Rattle.interleaver.proofs.Columns.{placing_more, placing_all, length_column, get_d_column}
use Rattle.interleaver.proofs.Rings.{next_of, length_leaving, turning_out, turning_more, turning_all}
use Rattle.interleaver.proofs.branches.exchange_round.Goals as goal

pub loop-k-preserved : goal.loop-k-preserved
loop-k-preserved c =
    let l = c.loop-k in
    let a = c.args in
    let test : l.k < 17 = omega arith in
    let bs = column a.j a.block.now in
    let n : length bs ≡ 17 = length_column a.j a.block.now in
    let h : l.k < length bs = omega arith in
    let few : length bs ≤ length a.cells.now = omega arith in
    let m = length_leaving a.position a.cells.now bs n in (
      l.invariant.0,
      turning_more l.invariant.1 h c.requires.1 few _ _ (sym (get_d_column a.j a.block.now l.k test)) (c.next_of-p.ensures ∙ ap (λ (z : ℕ). next_of z l.p) l.invariant.0),
      placing_more l.invariant.2 _ (omega arith) (turning_out l.invariant.1 h c.requires.1 few ∙ sym (get_or-take 17 (turned a.position a.cells.now ++ bs) l.k 0 test)),
    )

pub returns : goal.returns
returns c =
    let l = c.loop-k in
    let a = c.args in
    let e : l.k ≡ 17 = omega arith in
    let n : length (column a.j a.block.now) ≡ 17 = length_column a.j a.block.now in
    let t = rw e at l.invariant.1 in
    (t.at, turning_all t n, placing_all l.invariant.2 (length_leaving a.position a.cells.now _ n ∙ sym e))
