-- `inner_code::grouped::unpack_byte` meets its contract.
-- Assumes nothing.
use native.Mathlib.Omega.{arith}
use Rattle.inner_code.proofs.Groups.{cutting_more, cutting_all}
use Rattle.inner_code.proofs.grouped.unpack_byte.Goals as goal

pub loop-k-preserved : goal.loop-k-preserved
loop-k-preserved c = cutting_more c.loop-k.invariant _ (omega arith)

pub returns : goal.returns
returns c = cutting_all c.loop-k.invariant (omega arith)
