-- `acquisition_state::read_state` meets its contract.
-- Assumes nothing.
use mathlib.Core.Path.{ap, ◌∙◌}
use Rattle.acquisition_state.specs.State.{phase_of}
use Rattle.acquisition_state.specs.Reading.{state_of}
use Rattle.acquisition_state.proofs.read_state.Goals as goal

pub returns : goal.returns
unfolding state_of
returns c =
    let phase = c.phase_of-phase.ensures ∙ ap phase_of c.high_of.ensures in
    λ i. record {
      rate = c.plain_of.ensures i;
      mirrored = c.low_of.ensures i;
      phase = phase i;
      reading = c.read_reading-reading.ensures i;
      pending = c.pairs_at-pending.ensures i;
      held = c.number_at-held.ensures i;
      came = c.number_at-came.ensures i;
    }
