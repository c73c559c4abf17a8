-- `season_totals::Season::feed` meets its contract, and ends: each turn takes at least a byte.
-- Assumes nothing.
use Prim.Native.Nat.{◌<◌}
use native.Mathlib.Omega.{arith}
use Rattle.season_totals.proofs.Histories.{fed_none, fed_more, fed_all, came_small}
use borrow.Author.Rules.{rules}
use Rattle.season_totals.proofs.Season.feed.Goals as goal

pub loop-at-init : goal.loop-at-init
loop-at-init c = fed_none _ _

pub overflow_sub-season : goal.overflow_sub-season
overflow_sub-season c =
    let small : c.loop-at.season.held < 320 = let b = c.requires in came_small (c.loop-at.invariant.is b.bytes b.is) in
    let s = small in
    omega arith

pub take_part-season-requires : goal.take_part-season-requires
take_part-season-requires c =
    let small : c.loop-at.season.held < 320 = let b = c.requires in came_small (c.loop-at.invariant.is b.bytes b.is) in
    let l = c.loop-at in
    let b = c.requires in
    let s = small in
    (record { bytes = _; is = l.invariant.is b.bytes b.is }, search rules, search rules)

pub loop-at-smaller : goal.loop-at-smaller
loop-at-smaller c =
    let small : c.loop-at.season.held < 320 = let b = c.requires in came_small (c.loop-at.invariant.is b.bytes b.is) in
    let s = small in
    let h = c.loop-at-test.true in
    omega (arith, c.min.ensures)

pub loop-at-preserved : goal.loop-at-preserved
loop-at-preserved c =
    let l = c.loop-at in
    fed_more c.min.result l.invariant (search rules) c.take_part-season.ensures

pub returns : goal.returns
returns c = fed_all c.loop-at.invariant c.loop-at-test.false
