-- `reed_solomon::division::delayed_sum` meets its contract: after k turns the first k delays are taken.
-- Assumes nothing.
use mathlib.Core.Path.{◌≡◌}
use lib.ListN.{length, take}
use Rattle.reed_solomon.specs.Steps.{delays, DelayedSums}
use Rattle.reed_solomon.proofs.division.delayed_sum.Given as goal

abbrev pub invariant-loop-delay : goal.invariant-loop-delay
invariant-loop-delay l = (length l.r ≡ 16) × DelayedSums (take l.delay-index delays) l.quotient l.at l.initial.r l.r
