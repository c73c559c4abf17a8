-- `error_correction::find_roots` meets its contract: the roots among the first i degrees are listed, and x has the next sixteen places.
-- Assumes nothing.
use mathlib.Core.Path.{◌≡◌, subst}
use Prim.Native.Nat.{◌+◌, ◌-◌, ◌*◌}
use native.Mathlib.Omega.{arith}
use lib.ListN.{take, drop}
use Rattle.galois.specs.Lanes.{PowersFrom}
use Rattle.galois.proofs.LanePowers.{powers_next}
use Rattle.error_correction.specs.Correction.{values_of}
use Rattle.error_correction.proofs.RootSearch.{ends_of, lanes_next, searched_none, searched_fits, searched_more, searched_all, searched_stop, listed_nothing}
use Rattle.error_correction.proofs.RootCount.{ends_most}
use Rattle.error_correction.proofs.find_roots.Goals as goal
use Rattle.error_correction.proofs.find_roots.Goals.{then-zero_lanes-ne0, else-zero_lanes-ne0}

pub loop-turn-init : goal.loop-turn-init
loop-turn-init c = (c.first_powers-x.type_inv.1.0.1, c.first_powers-x.ensures, searched_none _ _)

pub returns-then-found-most : goal.returns-then-found-most
returns-then-found-most c =
    let d = c.degree-d in
    searched_stop _ _ _ _ _ _ c.loop-turn.invariant.2
    (omega (arith, c.if-found-most.true, c.requires.3, ends_most c.args.u.now c.args.q d.result (ends_of c.args.q d.result c.well_formed.1.1.0.1.0.1 d.ensures.0) c.requires.4))

pub list_zeros-r-requires : goal.list_zeros-r-requires
list_zeros-r-requires c =
    let d = c.degree-d in
    let l = c.loop-turn in
    let i = 16 * l.turn in
    let next : take (204 - i) c.with_erasures-v.result ≡ take 16 (drop i (values_of c.args.u.now c.args.q)) =
    lanes_next c.args.u.now c.args.q l.x c.evaluate.result c.with_erasures-v.result i d.result (omega arith) l.invariant.1 c.evaluate.ensures
    (ends_of c.args.q d.result c.well_formed.1.1.0.1.0.1 d.ensures.0) c.with_erasures-v.ensures c.with_erasures-v.type_inv.1.0.1 in
    (omega arith, searched_fits _ _ _ _ _ _ l.invariant.2 _ _ (omega arith) l.invariant.1 next c.requires.5)

pub loop-turn-preserved : goal.loop-turn-preserved
loop-turn-preserved c =
    let d = c.degree-d in
    let l = c.loop-turn in
    let i = 16 * l.turn in
    let next : take (204 - i) c.with_erasures-v.result ≡ take 16 (drop i (values_of c.args.u.now c.args.q)) =
    lanes_next c.args.u.now c.args.q l.x c.evaluate.result c.with_erasures-v.result i d.result (omega arith) l.invariant.1 c.evaluate.ensures
    (ends_of c.args.q d.result c.well_formed.1.1.0.1.0.1 d.ensures.0) c.with_erasures-v.ensures c.with_erasures-v.type_inv.1.0.1 in
    let e : 16 * l.turn + 16 ≡ 16 * (l.turn + 1) = omega arith in (
      c.next_powers-y.type_inv.1.0.1,
      subst (λ n. PowersFrom n c.next_powers-y.result) e (powers_next _ _ _ l.invariant.0 c.next_powers-y.ensures l.invariant.1),
      rw (← e)
          (elim c.if-zero_lanes-ne0.branch [
            | then-zero_lanes-ne0 w ↦ rw w.found-is (searched_more _ _ _ _ _ _ l.invariant.2 _ _ (omega arith) l.invariant.1 next _ _ _ w.list_zeros-r.ensures)
            | else-zero_lanes-ne0 w ↦ rw w.found-is (searched_more _ _ _ _ _ _ l.invariant.2 _ _ (omega arith) l.invariant.1 next _ _ _ (listed_nothing _ _ _ _ _ _ c.with_erasures-v.type_inv.1.0.1 (c.zero_lanes.ensures w.if-zero_lanes-ne0.false)))
          ]),
    )

pub returns : goal.returns
returns c = searched_all _ _ _ _ _ _ c.loop-turn.invariant.2 (omega arith)
