-- `common::array_of` meets its contract.
-- Assumes nothing.
use native.Mathlib.Omega.{arith}
use lib.ListN.{length-replicate}
use Rattle.common.proofs.Each.{each_none, each_more, each_all}
use Rattle.common.proofs.array_of.Goals as goal

pub loop-i-init : goal.loop-i-init
loop-i-init g c = each_none (length-replicate g.row.N 0)

pub loop-i-preserved : goal.loop-i-preserved
loop-i-preserved g c = each_more _ (omega arith) c.f.ensures c.loop-i.invariant

pub returns : goal.returns
returns g c = each_all (omega arith) c.loop-i.invariant
