-- `dvbs_lock::take_numbers` meets its contract.
-- Assumes nothing.
use mathlib.Core.Path.{◌≡◌}
use Prim.Native.Nat.{◌-◌}
use lib.ListN.{length}
use Rattle.lock_stream.specs.Source.{steps_ahead}
use Rattle.dvbs_lock.proofs.Going.{Looping}
use Rattle.dvbs_lock.proofs.take_numbers.Given as goal

abbrev pub invariant-loop-at : goal.invariant-loop-at
invariant-loop-at l =
    (Looping l.initial.output l.initial.errors l.initial.stream l.numbers l.output l.errors l.stream l.at) × (length l.packets ≡ length l.initial.packets) × (length l.text ≡ length l.initial.text)

abbrev pub decreases-loop-at : goal.decreases-loop-at
decreases-loop-at l =
    steps_ahead l.stream.source (length l.numbers - l.at)
