-- `viterbi_decoder::forward` meets its contract: proofs/Sweeps.antt has what holds as the loops go.
-- Assumes nothing.
use borrow.Author.Rules.{rules}
use mathlib.Core.Path.{◌≡◌, sym}
use Prim.Native.Nat.{◌+◌, ◌-◌, ◌*◌, ◌/◌, ◌%◌}
use native.Mathlib.Omega.{arith}
use lib.ListN.{length}
use Rattle.viterbi_decoder.specs.Lanes.{row_costs}
use Rattle.viterbi_decoder.proofs.Sweeps.{small_costs, in_block_none, in_block_fits, in_block_more, in_block_all, going_none, going_begun, going_next, offset_le, going_first, close, going_more, going_all}
use Rattle.viterbi_decoder.proofs.forward.Goals as goal
use Rattle.viterbi_decoder.proofs.forward.Goals.{then-block-gt0, else-block-gt0}

pub loop-block-init : goal.loop-block-init
loop-block-init c = going_begun (going_none _ _ _ _ _ c.start-metrics.ensures)

pub loop-k-init : goal.loop-k-init
loop-k-init c =
    let e = c.saturating_sub-from.ensures in
    in_block_none _ _ _ _ (omega (arith, e)) (omega (arith, e)) c.loop-block.invariant.bounded

pub offset_bounds-costs-steps : goal.offset_bounds-costs-steps
offset_bounds-costs-steps c = omega (arith, c.requires.4 c.loop-k.k)

pub bounds-costs-steps : goal.bounds-costs-steps
bounds-costs-steps c = c.requires.4 c.loop-k.k

pub step-row-requires : goal.step-row-requires
step-row-requires c =
    let l = c.loop-k in
    (c.requires.0 _ (c.requires.4 l.k), in_block_fits l.invariant c.loop-k-test.true)

pub loop-k-preserved : goal.loop-k-preserved
unfolding row_costs
loop-k-preserved c =
    let origins_size : length c.step-row.result.origins ≡ 64 = search rules in
    in_block_more c.loop-k.invariant (small_costs c.args.costs.now c.args.steps.now c.requires.0 c.requires.4) c.loop-k-test.true (origins_size) c.step-row.ensures

pub slice_bounds-put-end : goal.slice_bounds-put-end
slice_bounds-put-end c = sym c.loop-k.invariant.size

pub put-requires : goal.put-requires
put-requires c = omega (arith, c.loop-k.invariant.size, c.loop-block.invariant.length_is, c.requires.5)

pub levelled-level-requires : goal.levelled-level-requires
levelled-level-requires c =
    let g = c.loop-block.invariant in
    let b = rw c.saturating_sub-from.ensures at c.loop-k.invariant in
    let small = small_costs c.args.costs.now c.args.steps.now c.requires.0 c.requires.4 in
    (offset_le g small c.requires.2, close g small c.requires.2 (in_block_all b (omega arith)) (omega arith) (omega arith))

pub loop-block-preserved : goal.loop-block-preserved
loop-block-preserved c =
    let b = in_block_all (rw c.saturating_sub-from.ensures at c.loop-k.invariant) (omega arith) in
    let g = c.loop-block.invariant in
    let small = small_costs c.args.costs.now c.args.steps.now c.requires.0 c.requires.4 in
    let e : (c.args.n % 6 + 6 * c.loop-block.block) / 6 - 1 ≡ c.loop-block.block - 1 = omega arith in
    going_next c.loop-block.block
    (elim c.if-block-gt0.branch [
      | then-block-gt0 w ↦ rw (w.rows-is, w.metrics-is, w.offset-is, w.put.ensures)
          (rw e at (going_more g small c.requires.2 b (omega arith) (omega (arith, w.if-block-gt0.true)) c.loop-k.invariant.size c.requires.5 w.levelled-level.result.metrics w.levelled-level.result.offset w.levelled-level.ensures.0 w.levelled-level.ensures.1))
      | else-block-gt0 w ↦ rw (w.rows-is, w.metrics-is, w.offset-is) (going_first g small c.requires.2 b (omega arith) (omega (arith, w.if-block-gt0.false)))
    ])

pub shape_of-rows : goal.shape_of-rows
shape_of-rows c = c.loop-block.invariant.length_is

pub returns : goal.returns
returns c =
    going_all c.loop-block.invariant (small_costs c.args.costs.now c.args.steps.now c.requires.0 c.requires.4) c.requires.2 (omega arith)
