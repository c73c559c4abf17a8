-- `interleaver::branches::positions_within` meets its contract.
-- Assumes nothing.
use mathlib.Core.Path.{refl, sym}
use native.Mathlib.Omega.{arith}
use Rattle.interleaver.specs.Branch.{positions_within}
use Rattle.interleaver.proofs.Positions.{within_more, within_fails}
use Rattle.interleaver.proofs.branches.positions_within.Goals as goal

pub loop-j-init : goal.loop-j-init
unfolding positions_within
loop-j-init c = refl

pub returns-then-position-max : goal.returns-then-position-max
returns-then-position-max c =
    let a = c.args in
    let e = c.delay-size.ensures in
    sym (within_fails a.side a.positions c.loop-j.j 12 (omega arith) (omega arith))

pub loop-j-preserved : goal.loop-j-preserved
loop-j-preserved c =
    let a = c.args in
    let e = c.delay-size.ensures in
    within_more a.side a.positions c.loop-j.j c.loop-j.invariant (omega arith)
