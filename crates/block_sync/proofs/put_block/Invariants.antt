-- `block_sync::put_block` meets its contract.
-- Assumes nothing.
use Rattle.common.proofs.Written.{Written}
use Rattle.block_sync.specs.Decision.{block_of}
use Rattle.block_sync.proofs.put_block.Given as goal

abbrev pub invariant-loop-k : goal.invariant-loop-k
invariant-loop-k l = Written 0 l.initial.output (block_of l.inverted l.bits) l.output l.k
