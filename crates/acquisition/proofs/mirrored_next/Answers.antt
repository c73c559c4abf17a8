-- `acquisition::mirrored_next` meets its contract.
-- Assumes nothing.
use borrow.Author.Tests.{eq-eqb, ne_eqb}
use Rattle.acquisition.proofs.mirrored_next.Goals as goal

pub returns-then-used-eq1633 : goal.returns-then-used-eq1633
returns-then-used-eq1633 c = simp (eq-eqb _ _ c.if-used-eq1633.true)

pub returns : goal.returns
returns c = simp (ne_eqb _ _ c.if-used-eq1633.false)
