-- `sync_search::byte_at` meets its contract.
-- Assumes nothing.
use mathlib.Core.Path.{refl}
use Rattle.sync_search.specs.Sync.{byte_at}
use Rattle.sync_search.proofs.byte_at.Goals as goal

pub returns : goal.returns
unfolding byte_at
returns c = refl
