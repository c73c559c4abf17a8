-- `block_sync::keeps_lock` meets its contract.
-- Assumes nothing.
use mathlib.Core.Path.{◌≡◌}
use mathlib.Core.Bool.{false}
use Rattle.block_sync.specs.Decision.{keeps}
use Rattle.block_sync.proofs.Tests.{keeps_no, keeps_step}
use Rattle.block_sync.proofs.keeps_lock.Goals as goal
use Rattle.block_sync.proofs.keeps_lock.Goals.{then-lock, else-lock}

pub returns-then-bits-ge1632 : goal.returns-then-bits-ge1632
returns-then-bits-ge1632 c = keeps_step _ _ _ c.if-bits-ge1632.true.0 c.if-bits-ge1632.true.1 c.in_step.ensures

pub returns-else-bits-ge1632 : goal.returns-else-bits-ge1632
returns-else-bits-ge1632 c =
    let z : false ≡ keeps c.args.lock c.args.bits.now = keeps_no _ _ c.if-bits-ge1632.either in
    elim c.if-lock.branch [ then-lock w ↦ cc | else-lock w ↦ cc ]
