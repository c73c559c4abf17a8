-- `program_io::calls::help` meets its contract.
-- Assumes nothing.
use Rattle.program_io.proofs.Giving.{given_text}
use Rattle.program_io.proofs.calls.help.Goals as goal

pub returns : goal.returns
returns c = given_text c.standard-output.ensures c.write-output.ensures c.given.ensures
