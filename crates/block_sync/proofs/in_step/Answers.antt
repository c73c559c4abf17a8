-- `block_sync::in_step` meets its contract.
-- Assumes nothing.
use mathlib.Core.Path.{refl}
use Rattle.block_sync.proofs.Tests.{or_first, or_second, four}
use Rattle.block_sync.proofs.in_step.Goals as goal
use Rattle.block_sync.proofs.in_step.Goals.{then-sync_or_end, else-sync_or_end, then-sync_or_end-2, else-sync_or_end-2}

pub returns-then-sync_or_end-3 : goal.returns-then-sync_or_end-3
returns-then-sync_or_end-3 c =
    four _ _ _ _ (
    elim c.if-sync_or_end.branch [
      | then-sync_or_end w ↦ or_first _ w.value-is c.sync_or_end.ensures w.if-sync_or_end.true
      | else-sync_or_end w ↦ or_second _ c.sync_or_end.ensures w.if-sync_or_end.false w.value-is w.sync_or_end-else-sync_or_end.ensures
    ]
    )
    (
    elim c.if-sync_or_end-2.branch [
      | then-sync_or_end-2 w ↦ or_first _ w.value-is refl w.if-sync_or_end-2.true
      | else-sync_or_end-2 w ↦ or_second _ refl w.if-sync_or_end-2.false w.value-is w.sync_or_end-else-sync_or_end-2.ensures
    ]
    )
    (or_first _ refl refl c.if-sync_or_end-3.true)

pub returns-else-sync_or_end-3 : goal.returns-else-sync_or_end-3
returns-else-sync_or_end-3 c =
    four _ _ _ _ (
    elim c.if-sync_or_end.branch [
      | then-sync_or_end w ↦ or_first _ w.value-is c.sync_or_end.ensures w.if-sync_or_end.true
      | else-sync_or_end w ↦ or_second _ c.sync_or_end.ensures w.if-sync_or_end.false w.value-is w.sync_or_end-else-sync_or_end.ensures
    ]
    )
    (
    elim c.if-sync_or_end-2.branch [
      | then-sync_or_end-2 w ↦ or_first _ w.value-is refl w.if-sync_or_end-2.true
      | else-sync_or_end-2 w ↦ or_second _ refl w.if-sync_or_end-2.false w.value-is w.sync_or_end-else-sync_or_end-2.ensures
    ]
    )
    (or_second _ refl c.if-sync_or_end-3.false refl c.sync_or_end-else-sync_or_end-3.ensures)
