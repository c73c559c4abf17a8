-- `dvbs_losses::run` meets its contract.
-- Assumes nothing.
use mathlib.Core.Path.{◌≡◌, refl, sym, subst}
use native.Mathlib.Omega.{arith}
use lib.ListN.{length}
use Rattle.losses.specs.declared.LossStream.{LossStream}
use Rattle.dvbs_losses.proofs.Turning.{Running, running_none, running_capacity, running_rest, running_full, running_more, running_stops, ends_finished}
use borrow.Author.Rules.{rules}
use Rattle.dvbs_losses.proofs.run.Goals as goal

pub loop-blocks-init : goal.loop-blocks-init
loop-blocks-init c =
    let e = c.errors-errors in
    subst (λ (i : LossStream). Running c.args.marks c.standard-input.result c.args.marks c.standard-output.result e.result i 0) (sym c.new-stream.ensures) (running_none c.requires c.standard-input.ensures c.standard-output.ensures e.ensures)

pub finish-requires : goal.finish-requires
finish-requires c =
    let f = c.fill-filled in
    let l : length f.new.buffer ≡ 204 = search rules in
    running_rest c.loop-blocks.invariant f.ensures l c.if-size-lt204.true

pub returns-then-size-lt204 : goal.returns-then-size-lt204
returns-then-size-lt204 c =
    let f = c.fill-filled in
    ends_finished c.loop-blocks.invariant f.result.input f.ensures.origin _ c.finish.ensures

pub turn-turned-requires : goal.turn-turned-requires
turn-turned-requires c = running_capacity c.loop-blocks.invariant c.loop-blocks-test.true

pub returns-then-failed : goal.returns-then-failed
returns-then-failed c =
    let f = c.fill-filled in
    let l : length f.new.buffer ≡ 204 = search rules in
    running_stops c.loop-blocks.invariant f.ensures refl l (omega (arith, c.if-size-lt204.false)) c.turn-turned.ensures c.if-failed.true _ refl refl refl refl refl

pub loop-blocks-preserved : goal.loop-blocks-preserved
loop-blocks-preserved c =
    let f = c.fill-filled in
    let l : length f.new.buffer ≡ 204 = search rules in
    running_more c.loop-blocks.invariant f.ensures refl l (omega (arith, c.if-size-lt204.false)) c.turn-turned.ensures c.loop-blocks-test.true c.if-failed.false

pub finish-requires-2 : goal.finish-requires-2
finish-requires-2 c = running_full c.loop-blocks.invariant c.loop-blocks-test.false

pub returns : goal.returns
returns c = ends_finished c.loop-blocks.invariant c.loop-blocks.input refl _ c.finish-2.ensures
