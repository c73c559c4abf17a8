-- `reed_solomon::division::with_plane` meets its contract: after m turns the first m factors are in the sum.
-- Assumes nothing.
use mathlib.Core.Path.{◌≡◌}
use native.Mathlib.Omega.{arith}
use lib.ListN.{length}
use Rattle.reed_solomon.proofs.GroupDivision.{plane_none, plane_more}
use Rattle.reed_solomon.proofs.division.with_plane.Goals as goal

pub loop-m-init : goal.loop-m-init
loop-m-init c = plane_none _ _ _ _

pub loop-m-preserved : goal.loop-m-preserved
loop-m-preserved c =
    let size : length c.args.factors ≡ 16 = c.well_formed.1.1.1.0.1.0.1 in
    let l = c.loop-m in
    let a = c.args in
    plane_more a.v l.r a.i a.at l.m a.factors a.list.now (omega (arith, size)) l.invariant
