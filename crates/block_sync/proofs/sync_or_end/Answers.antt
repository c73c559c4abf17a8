-- `block_sync::sync_or_end` meets its contract.
-- Assumes nothing.
use mathlib.Core.Path.{◌∙◌}
use borrow.Author.Tests.{lt-ltb}
use Rattle.block_sync.proofs.Tests.{end_true, end_sync}
use Rattle.block_sync.proofs.sync_or_end.Goals as goal

pub returns-then-bits-at : goal.returns-then-bits-at
returns-then-bits-at c = lt-ltb _ _ c.if-bits-at.true ∙ end_true _ _ c.if-bits-at.true

pub returns-else-bits-at : goal.returns-else-bits-at
returns-else-bits-at c = end_sync _ _ _ c.if-bits-at.false c.is_sync.ensures
