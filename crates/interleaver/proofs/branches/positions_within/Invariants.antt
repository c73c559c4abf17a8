-- `interleaver::branches::positions_within` meets its contract.
-- Assumes nothing.
use mathlib.Core.Path.{◌≡◌}
use mathlib.Core.Bool.{true}
use Rattle.interleaver.specs.Branch.{positions_within}
use Rattle.interleaver.proofs.branches.positions_within.Given as goal

abbrev pub invariant-loop-j : goal.invariant-loop-j
invariant-loop-j l = positions_within l.side l.positions l.j ≡ true
