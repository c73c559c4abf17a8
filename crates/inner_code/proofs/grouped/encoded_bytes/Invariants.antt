-- `inner_code::grouped::encoded_bytes` meets its contract.
-- Assumes nothing.
use lib.ListN.{length}
use Rattle.common.proofs.Written.{Written}
use Rattle.inner_code.specs.Groups.{firsts}
use Rattle.inner_code.proofs.grouped.encoded_bytes.Given as goal

abbrev pub invariant-loop-i : goal.invariant-loop-i
invariant-loop-i l = Written 0 l.initial.bytes (firsts l.size (length l.initial.bytes) l.block) l.bytes l.i
