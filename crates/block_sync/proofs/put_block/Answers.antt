-- `block_sync::put_block` meets its contract.
-- Assumes nothing.
use mathlib.Core.Path.{ap, ◌∙◌}
use native.Mathlib.Omega.{arith}
use Rattle.common.proofs.Written.{written_none, written_next}
use Rattle.block_sync.specs.Grid.{turned_byte}
use Rattle.block_sync.proofs.Packed.{block_length, block_at}
use Rattle.block_sync.proofs.put_block.Goals as goal

pub loop-k-init : goal.loop-k-init
loop-k-init c =
    written_none (omega (arith, block_length c.args.inverted c.args.bits.now c.requires.0, c.requires.1))

pub loop-k-preserved : goal.loop-k-preserved
loop-k-preserved c =
    let l = c.loop-k in
    let n = block_length c.args.inverted c.args.bits.now c.requires.0 in
    written_next l.invariant _ (omega arith)
    (c.turned_byte.ensures ∙ ap (turned_byte c.args.inverted) c.byte_at.ensures ∙ block_at c.args.inverted c.args.bits.now c.requires.0 l.k (omega arith))
