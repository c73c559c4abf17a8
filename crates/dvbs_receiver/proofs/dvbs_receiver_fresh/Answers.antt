-- `dvbs_receiver::dvbs_receiver_fresh` meets its contract.
-- Assumes nothing.
use mathlib.Core.Path.{refl, ap, sym, subst, ◌∙◌}
use Prim.Native.Nat.{◌<◌}
use native.Mathlib.Omega.{arith}
use borrow.Author.Tests.{eq-eqb, ne_eqb}
use Rattle.receiver_stream.specs.Feed.{fresh_receiver_stream}
use Rattle.receiver_stream.specs.declared.ReceiverStream.{ReceiverStream}
use Rattle.dvbs_receiver.specs.State.{state_bytes}
use Rattle.dvbs_receiver.proofs.dvbs_receiver_fresh.Goals as goal

pub returns-then-state-ne-STATE_LENGTH : goal.returns-then-state-ne-STATE_LENGTH
returns-then-state-ne-STATE_LENGTH c = simp (ne_eqb _ _ c.if-state-ne-STATE_LENGTH.true) (c.number.ensures, refl)

pub write_state-requires : goal.write_state-requires
unfolding fresh_receiver_stream
write_state-requires c =
    (subst (λ (i : ReceiverStream). i.held < 256) (sym c.new.ensures) (omega arith), c.if-state-ne-STATE_LENGTH.false)

pub returns : goal.returns
returns c = simp (eq-eqb _ _ c.if-state-ne-STATE_LENGTH.false) (refl, c.write_state.ensures ∙ ap state_bytes c.new.ensures)
