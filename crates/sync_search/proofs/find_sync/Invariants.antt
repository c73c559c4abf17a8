-- `sync_search::find_sync` meets its contract.
-- Assumes nothing.
use Rattle.sync_search.proofs.Syncs.{Passed}
use Rattle.sync_search.proofs.find_sync.Given as goal

abbrev pub invariant-loop-at : goal.invariant-loop-at
invariant-loop-at l = Passed l.bits l.from l.at
