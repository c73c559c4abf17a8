-- `randomizer::xor_more` meets its contract: the bytes before byte i are there.
-- Assumes nothing.
use mathlib.Core.Path.{◌∙◌}
use native.Mathlib.Omega.{arith}
use Rattle.randomizer.proofs.Sixteens.{begun_more}
use Rattle.randomizer.proofs.xor_more.Goals as goal

pub loop-i-preserved : goal.loop-i-preserved
loop-i-preserved g c =
    let a = c.args in
    let l = c.loop-i in
    begun_more a.place a.packet.now a.masks c.requires.1 l.i l.written (l.auto.written ∙ c.requires.2) (omega arith) l.invariant
