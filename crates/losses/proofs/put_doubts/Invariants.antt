-- `losses::put_doubts` meets its contract.
-- Assumes nothing.
use Rattle.common.proofs.Written.{Written}
use Rattle.losses.specs.List.{doubts}
use Rattle.losses.proofs.put_doubts.Given as goal

abbrev pub invariant-loop-i : goal.invariant-loop-i
invariant-loop-i l = Written 0 l.initial.lines (doubts l.block l.count) l.lines l.i
