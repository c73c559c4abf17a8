-- `interleaver::branches::exchange_row` meets its contract.
-- Assumes nothing.
use mathlib.Core.Path.{◌≡◌, ◌∙◌, ap, sym}
use mathlib.Core.List.{◌++◌}
use Prim.Native.Nat.{ℕ, ◌+◌, ◌≤◌, ◌<◌}
use native.Mathlib.Omega.{arith}
use borrow.Author.Tests.{lt-ltb}
use lib.ListN.{length}
use lib.Seq.{get_or-take}
use Rattle.interleaver.specs.Branch.{turned}
use Rattle.interleaver.specs.Block.{position_advanced}
use Rattle.interleaver.specs.Column.{column}
use Rattle.interleaver.proofs.Columns.{placing_more, placing_all, length_column, get_d_column}
use Rattle.interleaver.proofs.Rings.{next_of, length_leaving, advanced_next, Turning, turning_out, turning_more, turning_all}
use Rattle.interleaver.proofs.branches.exchange_row.Goals as goal

-- the position does not come round
straight : (size p k : ℕ) → p + k < size → position_advanced size p k ≡ p + k
straight size p k h = simp (lt-ltb (p + k) size h)

pub loop-k-preserved : goal.loop-k-preserved
loop-k-preserved c =
    let l = c.loop-k in
    let a = c.args in
    let test : l.k < 17 = omega arith in
    let bs = column a.j a.block.now in
    let n : length bs ≡ 17 = length_column a.j a.block.now in
    let h : l.k < length bs = omega arith in
    let small : a.position < length a.cells.now = omega arith in
    let few : length bs ≤ length a.cells.now = omega arith in
    let m = length_leaving a.position a.cells.now bs n in
    let at = straight (length a.cells.now) a.position l.k (omega arith) in
    let t : Turning a.cells.now a.position bs l.cells (a.position + l.k) l.k = rw (sym at) l.invariant.0 in
    let next = advanced_next (length a.cells.now) a.position l.k small (omega arith) in (
      turning_more t h small few _ _ (sym (get_d_column a.j a.block.now l.k test)) (sym (ap (next_of (length a.cells.now)) (sym at) ∙ next)),
      placing_more l.invariant.1 _ (omega arith) (turning_out t h small few ∙ sym (get_or-take 17 (turned a.position a.cells.now ++ bs) l.k 0 test)),
    )

pub returns : goal.returns
returns c =
    let l = c.loop-k in
    let a = c.args in
    let size = length a.cells.now in
    let e : l.k ≡ 17 = omega arith in
    let n : length (column a.j a.block.now) ≡ 17 = length_column a.j a.block.now in
    let t = rw e at l.invariant.0 in
    let at = straight size a.position 16 (omega arith) in
    let r
    = c.next_of.ensures
    ∙ ap (λ (z : ℕ). next_of z (a.position + 16)) l.invariant.0.same
    ∙ ap (next_of size) (sym at)
    ∙ advanced_next size a.position 16 (omega arith) (omega arith)
    in
    (r, rw r (turning_all t n), placing_all l.invariant.1 (length_leaving a.position a.cells.now _ n ∙ sym e))
