-- `block_sync::block_given` meets its contract.
-- Assumes nothing.
use Rattle.block_sync.proofs.Buffers.{given_block}
use Rattle.block_sync.proofs.block_given.Goals as goal

pub returns : goal.returns
returns c = given_block c.args.d c.args.bits.now _ _ c.in_ok-begins.was c.block_of-bytes.ensures
