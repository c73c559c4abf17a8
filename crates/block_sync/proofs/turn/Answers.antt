-- `block_sync::turn` meets its contract.
-- Assumes nothing.
use native.Mathlib.Omega.{arith}
use Rattle.block_sync.proofs.Decisions.{used_within}
use Rattle.block_sync.proofs.Buffers.{turn_is}
use Rattle.block_sync.proofs.turn.Goals as goal

pub block_given-block-requires : goal.block_given-block-requires
block_given-block-requires c = used_within c.decide-d.ensures

pub slice_bounds-joined-start : goal.slice_bounds-joined-start
slice_bounds-joined-start c = omega (arith, c.used_bits-used.ensures, used_within c.decide-d.ensures)

pub slice_bounds-joined-count : goal.slice_bounds-joined-count
slice_bounds-joined-count c = omega (arith, c.used_bits-used.ensures, used_within c.decide-d.ensures)

pub overflow_sub-result : goal.overflow_sub-result
overflow_sub-result c = omega (arith, c.used_bits-used.ensures, used_within c.decide-d.ensures)

pub returns : goal.returns
returns c =
    let d = c.decide-d in
    record { decision = d.result; decides = d.ensures; result = turn_is _ d.result c.args.bits.now _ _ _ c.block_given-block.ensures c.used_bits-used.ensures (used_within d.ensures) c.joined-rest.ensures }
