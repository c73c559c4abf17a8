-- `program_io::calls::wrong` meets its contract.
-- Assumes nothing.
use Rattle.std.proofs.Common.{refl, ◌∙◌}
use Rattle.program_io.proofs.Giving.{fresh_written}
use Rattle.program_io.proofs.calls.wrong.Goals as goal

pub returns : goal.returns
returns c =
    let f = c.errors-errors.ensures in
    record { status = refl; file = c.write-output.ensures.file ∙ f.file; told = fresh_written f c.write-output.ensures }
