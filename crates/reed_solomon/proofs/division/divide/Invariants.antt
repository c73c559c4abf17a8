-- `reed_solomon::division::divide` meets its contract: after i coefficients what is left has their values.
-- Assumes nothing.
use Prim.Native.Nat.{◌+◌, ◌*◌}
use lib.ListN.{take}
use Rattle.reed_solomon.specs.Steps.{SameValues}
use Rattle.reed_solomon.proofs.division.divide.Given as goal

abbrev pub invariant-loop-turn : goal.invariant-loop-turn
invariant-loop-turn l = SameValues l.r (take (4 + 16 * l.turn) l.p)
