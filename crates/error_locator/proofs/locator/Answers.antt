-- `error_locator::locator` meets its contract.
-- Assumes nothing.
use Rattle.error_locator.proofs.KeyEquations.{located}
use borrow.Author.Rules.{rules}
use Rattle.error_locator.proofs.locator.Goals as goal

pub returns : goal.returns
returns c = located _ _ _ _ _ _ _ (search rules) c.solution.type_inv.1.0.1 c.fill.ensures c.eliminate-pivots.ensures c.solution.ensures
