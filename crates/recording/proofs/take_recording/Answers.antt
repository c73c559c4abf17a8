-- `recording::take_recording` meets its contract.
-- Assumes nothing.
use mathlib.Core.Path.{◌≡◌, sym, ◌∙◌}
use mathlib.Core.Bool.{true}
use Rattle.reception_counts.proofs.Ranges.{counts_range}
use Rattle.receiver.specs.Receive.{receiver_in_range}
use Rattle.receiver.proofs.Calls.{state_range}
use Rattle.recording.proofs.take_recording.Goals as goal

pub overflow_sub-receiver : goal.overflow_sub-receiver
overflow_sub-receiver c =
    let good : receiver_in_range c.args.receiver ≡ true = sym c.in_range.ensures ∙ c.if-not-in_range.false in
    (counts_range c.args.receiver.counts (state_range c.args.receiver good).counts).most
