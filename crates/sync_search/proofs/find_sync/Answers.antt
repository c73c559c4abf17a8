-- `sync_search::find_sync` meets its contract.
-- Assumes nothing.
use mathlib.Core.Path.{sym, ◌∙◌}
use native.Mathlib.Omega.{arith}
use Rattle.sync_search.specs.Sync.{first, nowhere}
use Rattle.sync_search.proofs.find_sync.Goals as goal

pub returns-then-bits-lt6536 : goal.returns-then-bits-lt6536
returns-then-bits-lt6536 c = nowhere (λ q h e. absurd (omega arith))

pub returns-then-sync_at : goal.returns-then-sync_at
returns-then-sync_at c =
    first _ c.loop-at.auto.at (omega arith) (sym c.sync_at.ensures ∙ c.if-sync_at.true)
    c.loop-at.invariant

pub returns : goal.returns
returns c = nowhere (λ q h e. c.loop-at.invariant q h (omega arith))
