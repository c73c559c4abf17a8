-- `reed_solomon::division::back_sum` meets its contract: above bit i the bits of all factors are in the sum.
-- Assumes nothing.
use native.Mathlib.Omega.{arith}
use Rattle.reed_solomon.proofs.GroupDivision.{rounds_none, rounds_more}
use Rattle.reed_solomon.proofs.division.back_sum.Goals as goal

pub loop-i-init : goal.loop-i-init
loop-i-init c = rounds_none _ _ _ c.requires.2

pub loop-i-preserved : goal.loop-i-preserved
loop-i-preserved c =
    let l = c.loop-i in
    rounds_more _ _ _ l.i _ l.r _ _ c.requires.2 (omega arith) (omega arith) l.invariant c.mul.ensures c.with_plane-r.ensures
