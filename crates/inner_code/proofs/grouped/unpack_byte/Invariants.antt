-- `inner_code::grouped::unpack_byte` meets its contract.
-- Assumes nothing.
use lib.ListN.{length}
use Rattle.inner_code.proofs.Groups.{Cutting}
use Rattle.inner_code.proofs.grouped.unpack_byte.Given as goal

abbrev pub invariant-loop-k : goal.invariant-loop-k
invariant-loop-k l = Cutting l.base l.b (length l.initial.output) l.output l.rest l.k
