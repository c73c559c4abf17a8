-- `program_io::output::Output::write_text` meets its contract.
-- Assumes nothing.
use Rattle.std.proofs.Common.{arith}
use Rattle.program_io.proofs.Writing.{writing_none, writing_more, writing_all, written_failed, writing_failed}
use Rattle.program_io.proofs.output.Output.write_text.Goals as goal

pub returns-then-self : goal.returns-then-self
returns-then-self c = written_failed _ _ c.if-self.true

pub returns-then-output : goal.returns-then-output
returns-then-output c =
    writing_failed (writing_none _ _ c.if-self.false) c.write_from-put.ensures.file c.if-output.true

pub returns-then-cut : goal.returns-then-cut
returns-then-cut c =
    let w = c.write_from-put.ensures in
    writing_failed (writing_more (writing_none _ c.args.text.now c.if-self.false) w c.if-output.false) c.lost.ensures.file c.lost.ensures.failed

pub returns : goal.returns
returns c =
    let w = c.write_from-put.ensures in
    writing_all (writing_more (writing_none _ c.args.text.now c.if-self.false) w c.if-output.false) (let h = c.if-cut.false in omega (arith, h))
