-- `received_symbols::points::point_pairs` meets its contract.
-- Assumes nothing.
use borrow.Rule.Slice.PartMut.{mid_of}
use mathlib.Core.Path.{◌≡◌, refl, ◌∙◌}
use Prim.Native.Nat.{◌+◌, ◌-◌, ◌≤◌, ◌<◌}
use native.Mathlib.Omega.{arith}
use lib.ListN.{length}
use Rattle.common.proofs.Each.{each_none}
use Rattle.branch_metrics.proofs.Runs.{pairs_more}
use Rattle.received_symbols.proofs.SoftInput.{part_length, part_put}
use Rattle.received_symbols.proofs.points.point_pairs.Goals as goal

pub loop-k-init : goal.loop-k-init
loop-k-init c = (omega arith, each_none refl)

pub overflow_add-end : goal.overflow_add-end
overflow_add-end c =
    let next : (0 < c.min-some.result) × (c.min-some.result ≤ 256) × (c.loop-k.k + c.min-some.result ≤ c.args.count) = (omega (arith, c.min-some.ensures), omega (arith, c.min-some.ensures), omega (arith, c.min-some.ensures)) in
    omega (arith, (next).2)

pub slice_bounds-some_pairs-end : goal.slice_bounds-some_pairs-end
slice_bounds-some_pairs-end c =
    let next : (0 < c.min-some.result) × (c.min-some.result ≤ 256) × (c.loop-k.k + c.min-some.result ≤ c.args.count) = (omega (arith, c.min-some.ensures), omega (arith, c.min-some.ensures), omega (arith, c.min-some.ensures)) in
    omega (arith, (next).2, c.loop-k.invariant.1.len, c.requires.1)

pub some_pairs-requires : goal.some_pairs-requires
some_pairs-requires c =
    let next : (0 < c.min-some.result) × (c.min-some.result ≤ 256) × (c.loop-k.k + c.min-some.result ≤ c.args.count) = (omega (arith, c.min-some.ensures), omega (arith, c.min-some.ensures), omega (arith, c.min-some.ensures)) in
    let part : length (mid_of c.loop-k.k (c.loop-k.k + c.min-some.result - c.loop-k.k) c.loop-k.output) ≡ c.min-some.result = part_length c.loop-k.k c.min-some.result c.loop-k.output (omega (arith, (next).2, c.loop-k.invariant.1.len, c.requires.1)) in
    let n = next in (n.1, omega (arith, n.2, c.requires.0), omega (arith, part))

pub loop-k-smaller : goal.loop-k-smaller
loop-k-smaller c =
    let next : (0 < c.min-some.result) × (c.min-some.result ≤ 256) × (c.loop-k.k + c.min-some.result ≤ c.args.count) = (omega (arith, c.min-some.ensures), omega (arith, c.min-some.ensures), omega (arith, c.min-some.ensures)) in
    omega (arith, (next).0, (next).2)

pub loop-k-preserved : goal.loop-k-preserved
loop-k-preserved c =
    let next : (0 < c.min-some.result) × (c.min-some.result ≤ 256) × (c.loop-k.k + c.min-some.result ≤ c.args.count) = (omega (arith, c.min-some.ensures), omega (arith, c.min-some.ensures), omega (arith, c.min-some.ensures)) in
    let part : length (mid_of c.loop-k.k (c.loop-k.k + c.min-some.result - c.loop-k.k) c.loop-k.output) ≡ c.min-some.result = part_length c.loop-k.k c.min-some.result c.loop-k.output (omega (arith, (next).2, c.loop-k.invariant.1.len, c.requires.1)) in
    let l = c.loop-k in
    let p = c.some_pairs in
    let some = c.min-some.result in
    let pairs = p.new.output in
    let size = p.auto.output ∙ part in
    ((next).2, pairs_more _ _ l.k some pairs _ size (omega (arith, (next).2, c.requires.1)) p.ensures l.invariant.1 (part_put l.k some l.output pairs size))

pub shape_of-output : goal.shape_of-output
shape_of-output c = c.loop-k.invariant.1.len

pub returns : goal.returns
returns c = λ t h. c.loop-k.invariant.1.each t (omega arith)
