-- `dvbs_lock::finish_stream` meets its contract.
-- Assumes nothing.
use mathlib.Core.Path.{◌≡◌}
use lib.ListN.{length}
use Rattle.lock_stream.specs.Source.{ends_ahead}
use Rattle.dvbs_lock.proofs.Going.{Ended-so-far}
use Rattle.dvbs_lock.proofs.finish_stream.Given as goal

abbrev pub invariant-loop-over : goal.invariant-loop-over
invariant-loop-over l =
    (Ended-so-far l.initial.output l.initial.errors l.initial.stream l.output l.errors l.stream) × (length l.packets ≡ length l.initial.packets) × (length l.text ≡ length l.initial.text)

abbrev pub decreases-loop-over : goal.decreases-loop-over
decreases-loop-over l =
    ends_ahead l.stream.source
