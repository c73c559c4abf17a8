-- `dvbs_sender::dvbs_sender_fresh` meets its contract.
-- Assumes nothing.
use mathlib.Core.Path.{refl}
use borrow.Author.Tests.{ne_eqb}
use Rattle.dvbs_sender.proofs.dvbs_sender_fresh.Goals as goal

pub returns-then-state-ne-STATE_LENGTH : goal.returns-then-state-ne-STATE_LENGTH
returns-then-state-ne-STATE_LENGTH c = simp (ne_eqb _ _ c.if-state-ne-STATE_LENGTH.true) (c.number.ensures, refl)
