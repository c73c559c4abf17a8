-- `program_io::input::Input::fill` meets its contract.
-- Assumes nothing.
use Rattle.std.proofs.Common.{refl, arith}
use Rattle.program_io.proofs.Reading.{filling_none, filling_more, filling_over, filling_full}
use Rattle.program_io.proofs.input.Input.fill.Goals as goal

pub loop-done-init : goal.loop-done-init
loop-done-init c = (filling_none _ _, refl)

pub returns-then-n-eq0 : goal.returns-then-n-eq0
returns-then-n-eq0 c =
    let l = c.loop-done in
    let t = c.loop-done-test in
    let r = c.read_into-more in
    filling_over l.invariant.0 r.auto.buffer r.ensures (omega (arith, t)) c.if-n-eq0.true

pub loop-done-preserved : goal.loop-done-preserved
loop-done-preserved c =
    let l = c.loop-done in
    let r = c.read_into-more in
    let n = c.if-n-eq0.false in
    (filling_more l.invariant.0 r.auto.buffer r.ensures (omega (arith, n)), omega (arith, r.auto.buffer, l.invariant.1))

pub returns : goal.returns
returns c = let t = c.loop-done-test in filling_full c.loop-done.invariant.0 (omega (arith, t))
