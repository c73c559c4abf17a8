-- `block_sync::decide` meets its contract.
-- Assumes nothing.
use Rattle.block_sync.proofs.Decisions.{does_begin}
use Rattle.block_sync.proofs.decide.Goals as goal

pub returns-in-Some : goal.returns-in-Some
returns-in-Some c = does_begin _ _ _ _ _ c.keeps_lock.ensures c.if-keeps_lock.false c.in-Some.ensures c.polarity-inverted-in-Some.ensures
