-- `error_locator::pivot` meets its contract.
-- Assumes nothing.
use Rattle.error_locator.proofs.KeyEquations.{pivoted_add}
use borrow.Author.Rules.{rules}
use Rattle.error_locator.proofs.pivot.Goals as goal

pub returns-then-p-k : goal.returns-then-p-k
returns-then-p-k c = pivoted_add _ _ _ _ _ c.requires.0 c.if-p-k.true (c.in-Some.ensures.0) (search rules) c.in-Some.ensures.1 c.add_row.ensures
