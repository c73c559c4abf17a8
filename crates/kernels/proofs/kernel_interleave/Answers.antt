-- `kernels::kernel_interleave` meets its contract.
-- Assumes nothing.
use borrow.Author.Tests.{lt-ltb, le-ltb}
use Rattle.kernels.proofs.kernel_interleave.Goals as goal

pub returns-then-output-blocks : goal.returns-then-output-blocks
returns-then-output-blocks c = simp (lt-ltb _ _ c.if-output-blocks.true)

pub returns : goal.returns
returns c =
    simp (le-ltb _ _ c.if-output-blocks.false) c.interleave_blocks.ensures
