-- `error_locator::solution_at` meets its contract.
-- Assumes nothing.
use Rattle.error_locator.proofs.KeyEquations.{solution_above}
use Rattle.error_locator.proofs.solution_at.Goals as goal

pub returns-else-c-k-2 : goal.returns-else-c-k-2
returns-else-c-k-2 c = solution_above _ _ _ _ c.if-c-k.false c.if-c-k-2.false
