-- `block_sync::BlockSync::new` meets its contract.
-- Assumes nothing.
use mathlib.Core.Path.{refl}
use Rattle.block_sync.specs.Feed.{fresh_block_sync}
use Rattle.block_sync.proofs.BlockSync.new.Goals as goal

pub returns : goal.returns
unfolding fresh_block_sync
returns c = refl
