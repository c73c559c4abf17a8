-- `node_search::total_of` meets its contract.
-- Assumes nothing.
use native.Mathlib.Omega.{arith}
use mathlib.Core.Path.{refl}
use lib.ListN.{get_or}
use Rattle.node_search.proofs.Tables.{summing_more, pair_lt, entries}
use Rattle.node_search.proofs.total_of.Goals as goal

pub loop-p-preserved : goal.loop-p-preserved
loop-p-preserved c = let e = entries c.args.table.now c.requires.0 c.requires.1 (get_or c.args.pairs.now c.loop-p.p-index 0) (pair_lt c.args.pairs.now c.loop-p.p-index c.requires.2 (omega arith)) in summing_more c.loop-p.invariant (omega arith) _ _ refl refl e.0 e.1
