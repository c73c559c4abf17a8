-- `puncturing::whole::patterns` meets its contract: proofs/Patterns.antt has what holds as the loop goes.
-- Assumes nothing.
use mathlib.Core.Path.{refl}
use native.Mathlib.Omega.{arith}
use Rattle.puncturing.proofs.Patterns.{repeating_more, repeating_next, repeating_end}
use Rattle.puncturing.proofs.whole.patterns.Goals as goal

pub loop-turn-preserved : goal.loop-turn-preserved
loop-turn-preserved c =
    repeating_next c.loop-turn.turn (repeating_more c.loop-turn.invariant (omega arith) c.requires.2 c.requires.6 c.pattern.ensures)

pub returns : goal.returns
returns c = (refl, (repeating_end c.loop-turn.invariant (omega arith)).1)
