-- `interleaver::branches::pass_cells` meets its contract.
-- Assumes nothing.
use mathlib.Core.Path.{◌≡◌, refl, ap, ◌∙◌}
use Prim.Native.Nat.{ℕ, ◌+◌, ◌-◌, ◌*◌, ◌≤◌, ◌<◌}
use native.Mathlib.Omega.{arith}
use borrow.Author.Rules.{rules}
use lib.ListN.{length, take, drop}
use Rattle.interleaver.specs.Branch.{laid, delay_of, size_of, cells_of}
use Rattle.interleaver.proofs.Blocks.{Good, position_bound, enough}
use Rattle.interleaver.proofs.Cells.{delay_small, cells_fit, length_cells}
use Rattle.interleaver.proofs.Passing.{passing_none, passing_length, passing_cells, passing_position, passing_more, passing_all}
use Rattle.interleaver.proofs.branches.pass_cells.Goals as goal

pub loop-j-init : goal.loop-j-init
loop-j-init c = passing_none _ _ _ _

pub overflow_add-end : goal.overflow_add-end
overflow_add-end c =
    let end_fits : c.loop-j.base + 17 * c.delay.result ≤ 1122 = let a = c.args in
    let e = c.delay.ensures in
    let b = c.loop-j.invariant.start in
    omega (arith, cells_fit a.side c.loop-j.j (omega arith)) in
    let l = end_fits in omega arith

pub slice_bounds-pass_column-end : goal.slice_bounds-pass_column-end
slice_bounds-pass_column-end c =
    let whole : Good c.args.side (laid c.args.cells.now c.args.positions) = record { cells = c.requires.1; positions = search rules; range = c.requires.0 } in
    let end_fits : c.loop-j.base + 17 * c.delay.result ≤ 1122 = let a = c.args in
    let e = c.delay.ensures in
    let b = c.loop-j.invariant.start in
    omega (arith, cells_fit a.side c.loop-j.j (omega arith)) in
    let e = end_fits in
    let n = passing_length c.loop-j.invariant (whole) (omega arith) in
    search rules

pub pass_column-requires : goal.pass_column-requires
pass_column-requires c =
    let whole : Good c.args.side (laid c.args.cells.now c.args.positions) = record { cells = c.requires.1; positions = search rules; range = c.requires.0 } in
    let size_is : c.loop-j.base + 17 * c.delay.result - c.loop-j.base ≡ size_of c.args.side c.loop-j.j = let e = c.delay.ensures in omega arith in
    let part_is : let a = c.args in
    take (c.loop-j.base + 17 * c.delay.result - c.loop-j.base) (drop c.loop-j.base c.loop-j.cells) ≡ cells_of a.side (laid a.cells.now a.positions) c.loop-j.j = ap (λ (n : ℕ). take n (drop c.loop-j.base c.loop-j.cells)) (size_is) ∙ passing_cells c.loop-j.invariant (whole) (omega arith) in
    let a = c.args in
    let j = c.loop-j.j in
    let h : j < 12 = omega arith in
    let n = ap length (part_is) ∙ length_cells a.side (laid a.cells.now a.positions) j (whole).cells h in
    let p = passing_position c.loop-j.invariant (whole) h in
    let q = position_bound a.side (laid a.cells.now a.positions) (whole) a.block.now j h in
    let r = c.loop-j.invariant.filled.same in
    let d = delay_small a.side j h in
    (λ z. let m = enough (delay_of a.side j) (λ e. z (n ∙ e)) in omega arith, omega arith, omega arith, h, c.requires.2, omega arith)

pub loop-j-preserved : goal.loop-j-preserved
loop-j-preserved c =
    let whole : Good c.args.side (laid c.args.cells.now c.args.positions) = record { cells = c.requires.1; positions = search rules; range = c.requires.0 } in
    let size_is : c.loop-j.base + 17 * c.delay.result - c.loop-j.base ≡ size_of c.args.side c.loop-j.j = let e = c.delay.ensures in omega arith in
    let part_is : let a = c.args in
    take (c.loop-j.base + 17 * c.delay.result - c.loop-j.base) (drop c.loop-j.base c.loop-j.cells) ≡ cells_of a.side (laid a.cells.now a.positions) c.loop-j.j = ap (λ (n : ℕ). take n (drop c.loop-j.base c.loop-j.cells)) (size_is) ∙ passing_cells c.loop-j.invariant (whole) (omega arith) in
    let h : c.loop-j.j < 12 = omega arith in
    let e = c.pass_column.ensures in
    passing_more c.loop-j.invariant (whole) h c.requires.3 (size_is) (omega arith) (part_is) (passing_position c.loop-j.invariant (whole) h)
    e.0 e.1 refl e.2

pub returns : goal.returns
returns c =
    let whole : Good c.args.side (laid c.args.cells.now c.args.positions) = record { cells = c.requires.1; positions = search rules; range = c.requires.0 } in
    let e : c.loop-j.j ≡ 12 = omega arith in
    let r = passing_all c.loop-j.invariant (whole) e c.requires.3 in
    (r.1, r.0, r.2)
