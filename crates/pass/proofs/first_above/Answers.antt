-- `pass::first_above` meets its contract.
-- Assumes nothing.
use native.Mathlib.Omega.{arith}
use Rattle.pass.proofs.Marks.{above_here, above_later, above_none}
use Rattle.pass.proofs.first_above.Goals as goal

pub loop-i-init : goal.loop-i-init
loop-i-init c = omega arith

pub returns-then-mark-gt1 : goal.returns-then-mark-gt1
returns-then-mark-gt1 c =
    let l = c.loop-i in
    let h = above_here c.args.marks.now l.i (omega arith) c.if-mark-gt1.true in
    omega (arith, l.invariant, h)

pub loop-i-preserved : goal.loop-i-preserved
loop-i-preserved c =
    let l = c.loop-i in
    let h = above_later c.args.marks.now l.i (omega arith) c.if-mark-gt1.false in
    omega (arith, l.invariant, h)

pub returns : goal.returns
returns c =
    let l = c.loop-i in
    let h = above_none c.args.marks.now l.i (omega arith) in
    omega (arith, l.invariant, h)
