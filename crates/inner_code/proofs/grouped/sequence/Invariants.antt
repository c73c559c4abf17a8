-- `inner_code::grouped::sequence` meets its contract.
-- Assumes nothing.
use lib.ListN.{length}
use Rattle.common.proofs.Written.{Written}
use Rattle.inner_code.specs.Groups.{numbered}
use Rattle.inner_code.proofs.grouped.sequence.Given as goal

abbrev pub invariant-loop-n : goal.invariant-loop-n
invariant-loop-n l = Written 0 l.initial.output (numbered l.c2 l.c1 l.uncoded l.coded (length l.uncoded)) l.output l.n
