-- `program_io::output::Output::write_from` meets its contract.
-- Assumes nothing.
use Rattle.std.proofs.Common.{sym, ◌∙◌, true≢false, arith}
use Rattle.program_io.proofs.Writing.{written_within}
use Rattle.program_io.proofs.output.Output.write_from.Goals as goal

pub returns-then-self : goal.returns-then-self
returns-then-self c =
    let l = c.lost.ensures in
    record {
      file = l.file;
      within = omega (arith, c.requires);
      trace = λ u. absurd (true≢false (sym l.failed ∙ u));
      unclosed = λ u. absurd (true≢false (sym l.failed ∙ u));
    }

pub returns : goal.returns
returns c =
    let w = c.written_by.ensures in
    record {
      file = w.file;
      within = written_within c.requires w;
      trace = w.trace;
      unclosed = λ u. (c.if-self.false, w.closed ∙ c.if-self.false);
    }
