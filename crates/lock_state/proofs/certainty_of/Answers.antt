-- `lock_state::certainty_of` meets its contract.
-- Assumes nothing.
use mathlib.Core.Path.{sym}
use borrow.Author.Tests.{eq-eqb, ne_eqb}
use Rattle.lock_state.proofs.certainty_of.Goals as goal

pub returns-then-code-eq8 : goal.returns-then-code-eq8
returns-then-code-eq8 c = sym (simp (eq-eqb _ _ c.if-code-eq8.true))

pub returns : goal.returns
returns c = sym (simp (ne_eqb _ _ c.if-code-eq8.false))
