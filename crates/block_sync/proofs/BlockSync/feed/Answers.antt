-- `block_sync::BlockSync::feed` meets its contract.
-- Assumes nothing.
use Rattle.block_sync.specs.Feed.{refused}
use Rattle.block_sync.proofs.BlockSync.feed.Goals as goal

pub returns-then-self-ge8168 : goal.returns-then-self-ge8168
returns-then-self-ge8168 c = refused c.if-self-ge8168.true
