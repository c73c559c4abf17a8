-- `lock_receiver::settle` meets its contract.
-- Assumes nothing.
use mathlib.Core.Path.{◌≡◌, sym, ◌∙◌}
use mathlib.Core.Bool.{false}
use Prim.Native.Nat.{◌*◌, ◌≤◌}
use native.Mathlib.Omega.{arith}
use lib.ListN.{length}
use lib.Seq.{length-take-le}
use Rattle.losses.specs.Watch.{waiting_of, is_sure, and_one_more}
use Rattle.losses.specs.declared.Certainty.{Certainty}
use Rattle.losses.specs.declared.Certainty.TheVariants.{Sure, Unsure}
use Rattle.lock_receiver.proofs.Settling.{settles_none, settles_confirmed, settles_restart, settles_sure, settles_waits}
use borrow.Author.Rules.{rules}
use Rattle.lock_receiver.proofs.settle.Goals as goal

room_by : (k : Certainty) → is_sure k ≡ false → waiting_of (and_one_more k) ≤ 7 → waiting_of k ≤ 6
room_by Sure e h = omega arith
room_by (Unsure n) e h = omega arith

pub returns-then-number-ne0 : goal.returns-then-number-ne0
returns-then-number-ne0 c =
    let whole : length c.args.held ≡ 1316 = search rules in
    let a = c.args in settles_none a.certainty a.number a.due a.start a.packet.now a.held a.output.now c.requires.2 (whole) c.if-number-ne0.true

pub slice_bounds-held-end : goal.slice_bounds-held-end
slice_bounds-held-end c =
    let whole : length c.args.held ≡ 1316 = search rules in
    omega (arith, whole, c.waiting-count.ensures, c.requires.0)

pub slice_bounds-put-end : goal.slice_bounds-put-end
slice_bounds-put-end c =
    let whole : length c.args.held ≡ 1316 = search rules in
    sym (length-take-le _ c.args.held (omega (arith, whole, c.waiting-count.ensures, c.requires.0)))

pub put-requires : goal.put-requires
put-requires c =
    let whole : length c.args.held ≡ 1316 = search rules in
    let l = length-take-le (188 * c.waiting-count.result) c.args.held (omega (arith, whole, c.waiting-count.ensures, c.requires.0)) in
    omega (arith, l, c.waiting-count.ensures, c.requires.0, c.requires.3)

pub returns-then-due : goal.returns-then-due
returns-then-due c =
    let whole : length c.args.held ≡ 1316 = search rules in
    let a = c.args in
    settles_confirmed a.certainty a.number a.due a.start a.packet.now a.held a.output.now c.requires.2 (whole) c.if-number-ne0.false c.if-start.true c.if-due.true c.requires.0 _ c.waiting-count.ensures _ _ c.put.ensures c.put-then-due.ensures

pub returns-then-start : goal.returns-then-start
returns-then-start c =
    let whole : length c.args.held ≡ 1316 = search rules in
    let a = c.args in
    settles_restart a.certainty a.number a.due a.start a.packet.now a.held a.output.now c.requires.2 (whole) c.if-number-ne0.false c.if-start.true c.if-due.false _ c.put-then-start.ensures

pub returns-then-is_sure : goal.returns-then-is_sure
returns-then-is_sure c =
    let whole : length c.args.held ≡ 1316 = search rules in
    let a = c.args in
    settles_sure a.certainty a.number a.due a.start a.packet.now a.held a.output.now c.requires.2 (whole) c.if-number-ne0.false c.if-start.false (sym c.is_sure.ensures ∙ c.if-is_sure.true) _ c.put-then-is_sure.ensures

pub put-requires-2 : goal.put-requires-2
put-requires-2 c =
    let whole : length c.args.held ≡ 1316 = search rules in
    let room : waiting_of c.args.certainty ≤ 6 = room_by c.args.certainty (sym c.is_sure.ensures ∙ c.if-is_sure.false) (c.requires.1 c.if-number-ne0.false c.if-start.false) in
    omega (arith, room, c.waiting-count.ensures, whole, c.requires.2)

pub returns : goal.returns
returns c =
    let whole : length c.args.held ≡ 1316 = search rules in
    let room : waiting_of c.args.certainty ≤ 6 = room_by c.args.certainty (sym c.is_sure.ensures ∙ c.if-is_sure.false) (c.requires.1 c.if-number-ne0.false c.if-start.false) in
    let a = c.args in
    settles_waits a.certainty a.number a.due a.start a.packet.now a.held a.output.now c.requires.2 (whole) c.if-number-ne0.false c.if-start.false (sym c.is_sure.ensures ∙ c.if-is_sure.false) (room) _ c.waiting-count.ensures _ c.put-2.ensures
