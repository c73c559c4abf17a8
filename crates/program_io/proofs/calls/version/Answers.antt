-- `program_io::calls::version` meets its contract.
-- Assumes nothing.
use Rattle.program_io.proofs.Giving.{given_texts}
use Rattle.program_io.proofs.calls.version.Goals as goal

pub returns : goal.returns
returns c =
    given_texts c.standard-output.ensures c.write-output.ensures c.write-output-2.ensures c.given.ensures
