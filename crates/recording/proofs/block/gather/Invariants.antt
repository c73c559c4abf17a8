-- `recording::block::gather` meets its contract.
-- Assumes nothing.
use Rattle.common.proofs.Written.{Written}
use Rattle.interleaver.specs.Gathered.{gathered}
use Rattle.recording.proofs.block.gather.Given as goal

abbrev pub invariant-loop-n : goal.invariant-loop-n
invariant-loop-n l = Written 0 l.initial.block (gathered l.bytes l.p) l.block l.n
