-- `sync_search::count_at` meets its contract.
-- Assumes nothing.
use native.Mathlib.Omega.{arith}
use Rattle.sync_search.specs.Sync.{count_at}
use Rattle.sync_search.proofs.count_at.Goals as goal

pub returns : goal.returns
unfolding count_at
returns c = omega (arith, c.is_at.ensures, c.is_at-2.ensures, c.is_at-3.ensures, c.is_at-4.ensures, c.is_at-5.ensures)
