-- `losses::LossStream::capacity` meets its contract.
-- Assumes nothing.
use mathlib.Core.Path.{◌≡◌, sym, ◌∙◌}
use mathlib.Core.Bool.{true}
use Rattle.common.proofs.Choice.{both_true}
use Rattle.reception_counts.proofs.Ranges.{counts_range}
use Rattle.receiver.proofs.Calls.{state_range}
use Rattle.losses.specs.Feed.{loss_stream_in_range}
use Rattle.losses.proofs.LossStream.capacity.Goals as goal

pub returns-then-not-in_range : goal.returns-then-not-in_range
returns-then-not-in_range c = simp (sym c.in_range.ensures ∙ c.if-not-in_range.true)

pub overflow_sub-self : goal.overflow_sub-self
overflow_sub-self c =
    let good : loss_stream_in_range c.args.self ≡ true = sym c.in_range.ensures ∙ c.if-not-in_range.false in
    let s = c.args.self.receiver in (counts_range s.counts (state_range s (both_true _ _ (good)).0).counts).most

pub returns : goal.returns
returns c =
    let good : loss_stream_in_range c.args.self ≡ true = sym c.in_range.ensures ∙ c.if-not-in_range.false in
    c.saturating_sub.ensures ∙ sym (simp (good))
