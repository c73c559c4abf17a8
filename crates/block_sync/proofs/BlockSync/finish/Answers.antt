-- `block_sync::BlockSync::finish` meets its contract.
-- Assumes nothing.
use native.Mathlib.Omega.{arith}
use Rattle.block_sync.specs.Feed.{refused, turned}
use Rattle.block_sync.proofs.BlockSync.finish.Goals as goal

pub returns-then-held-ge8168 : goal.returns-then-held-ge8168
returns-then-held-ge8168 c = refused c.if-held-ge8168.true

pub returns : goal.returns
returns c = turned (omega arith) c.turn.ensures
