-- `block_sync::is_sync` meets its contract.
-- Assumes nothing.
use mathlib.Core.Path.{◌∙◌}
use borrow.Author.Tests.{eq-eqb}
use Rattle.block_sync.proofs.Tests.{sync_first, sync_second}
use Rattle.block_sync.proofs.is_sync.Goals as goal

pub returns-then-byte-eq71 : goal.returns-then-byte-eq71
returns-then-byte-eq71 c = eq-eqb _ _ c.if-byte-eq71.true ∙ sync_first _ _ _ c.byte_at-byte.ensures c.if-byte-eq71.true

pub returns-else-byte-eq71 : goal.returns-else-byte-eq71
returns-else-byte-eq71 c = sync_second _ _ _ c.byte_at-byte.ensures c.if-byte-eq71.false
