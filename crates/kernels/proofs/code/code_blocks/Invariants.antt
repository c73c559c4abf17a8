-- `kernels::code::code_blocks` meets its contract.
-- Assumes nothing.
use Prim.Native.Nat.{◌*◌}
use Rattle.kernels.proofs.Codes.{Coding}
use Rattle.kernels.proofs.code.code_blocks.Given as goal

abbrev pub invariant-loop-k : goal.invariant-loop-k
invariant-loop-k l = Coding l.rate l.blocks l.initial.output l.output l.coder (204 * l.k) l.count
