-- `reed_solomon::division::is_zero` meets its contract: the bytes below j are zero, so that what is left decides.
-- Assumes nothing.
use mathlib.Core.Path.{◌≡◌}
use lib.ListN.{drop}
use Rattle.reed_solomon.specs.Steps.{all_zero}
use Rattle.reed_solomon.proofs.division.is_zero.Given as goal

abbrev pub invariant-loop-x : goal.invariant-loop-x
invariant-loop-x l = all_zero l.r ≡ all_zero (drop l.x-index l.r)
