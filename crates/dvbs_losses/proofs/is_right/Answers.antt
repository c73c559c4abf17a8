-- `dvbs_losses::is_right` meets its contract.
-- Assumes nothing.
use mathlib.Core.Path.{sym, ap, ◌∙◌}
use mathlib.Core.Bool.{not}
use borrow.Author.Tests.{lt-ltb, le-ltb}
use Rattle.dvbs_losses.proofs.is_right.Goals as goal

pub returns-then-count-gt1 : goal.returns-then-count-gt1
returns-then-count-gt1 c = simp (lt-ltb _ _ (rw c.count.ensures at c.if-count-gt1.true))

pub returns : goal.returns
returns c = ap not c.is_option.ensures ∙ sym (simp (le-ltb _ _ (rw c.count.ensures at c.if-count-gt1.false)))
