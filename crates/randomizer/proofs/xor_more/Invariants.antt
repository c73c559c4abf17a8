-- `randomizer::xor_more` meets its contract: the bytes before byte i are there.
-- Assumes nothing.
use Rattle.randomizer.specs.Masks.{Begun}
use Rattle.randomizer.proofs.xor_more.Given as goal

abbrev pub invariant-loop-i : goal.invariant-loop-i
invariant-loop-i g l = Begun l.place l.packet l.masks l.i l.written
