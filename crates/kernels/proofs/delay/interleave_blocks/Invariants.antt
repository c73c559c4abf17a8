-- `kernels::delay::interleave_blocks` meets its contract.
-- Assumes nothing.
use Prim.Native.Nat.{◌*◌}
use Rattle.interleaver.specs.declared.branches.Side.TheVariants.{Sending}
use Rattle.kernels.proofs.Delays.{Passing}
use Rattle.kernels.proofs.delay.interleave_blocks.Given as goal

abbrev pub invariant-loop-k : goal.invariant-loop-k
invariant-loop-k l = Passing Sending l.blocks l.initial.output l.output l.interleaver.branches (204 * l.k)
