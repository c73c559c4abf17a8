-- `program_io::output::Output::write` meets its contract.
-- Assumes nothing.
use Rattle.std.proofs.Common.{arith}
use Rattle.program_io.proofs.Writing.{writing_none, writing_more, writing_all, written_failed, writing_failed}
use Rattle.program_io.proofs.output.Output.write.Goals as goal

pub returns-then-output : goal.returns-then-output
returns-then-output c = written_failed _ _ c.if-output.true

pub loop-done-init : goal.loop-done-init
loop-done-init c = writing_none _ _ c.if-output.false

pub returns-then-output-2 : goal.returns-then-output-2
returns-then-output-2 c =
    writing_failed c.loop-done.invariant c.write_from-put.ensures.file c.if-output-2.true

pub returns-then-n-eq0 : goal.returns-then-n-eq0
returns-then-n-eq0 c =
    let w = c.write_from-put.ensures in
    writing_failed (writing_more c.loop-done.invariant w c.if-output-2.false) c.lost.ensures.file c.lost.ensures.failed

pub loop-done-preserved : goal.loop-done-preserved
loop-done-preserved c = writing_more c.loop-done.invariant c.write_from-put.ensures c.if-output-2.false

pub returns : goal.returns
returns c = let t = c.loop-done-test in writing_all c.loop-done.invariant (omega (arith, t))
