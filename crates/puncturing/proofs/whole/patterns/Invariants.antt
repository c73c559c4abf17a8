-- `puncturing::whole::patterns` meets its contract: proofs/Patterns.antt has what holds as the loop goes.
-- Assumes nothing.
use Prim.Native.Nat.{◌+◌, ◌-◌, ◌*◌}
use lib.ListN.{length}
use Rattle.puncturing.proofs.Patterns.{Repeating}
use Rattle.puncturing.proofs.whole.patterns.Given as goal

abbrev pub invariant-loop-turn : goal.invariant-loop-turn
invariant-loop-turn l = Repeating l.i l.q l.coded l.len l.from l.turns l.initial.output l.at l.output (l.from + l.turn * l.len) (l.at + l.turn * length l.i) (l.turns - l.turn)
