-- `block_sync::three_at` meets its contract.
-- Assumes nothing.
use native.Mathlib.Omega.{arith}
use Rattle.block_sync.specs.Decision.{three_at}
use Rattle.block_sync.proofs.three_at.Goals as goal

pub returns : goal.returns
unfolding three_at
returns c = omega (arith, c.is_at.ensures, c.is_at-2.ensures, c.is_at-3.ensures)
