-- `program_io::output::Output::close` meets its contract.
-- Assumes nothing.
use Rattle.std.proofs.Common.{sym, refl, ◌∙◌, true≢false}
use Rattle.program_io.proofs.output.Output.close.Goals as goal

pub returns-then-self : goal.returns-then-self
returns-then-self c = let e = c.if-self.true in record { file = refl; trace = refl; closed = λ h. absurd (true≢false (sym e ∙ h)); started = λ h. h; failed = λ h. refl }

pub returns : goal.returns
returns c =
    let w = c.closed_by.ensures in
    let u = c.if-self.false in
    record { file = w.file; trace = w.trace; closed = w.closed; started = λ h. u; failed = λ h. absurd (true≢false (sym h ∙ u)) }
