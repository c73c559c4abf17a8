-- `program_io::input::Input::read` meets its contract.
-- Assumes nothing.
use Rattle.program_io.proofs.Reading.{read_once_more}
use Rattle.program_io.proofs.input.Input.read.Goals as goal

pub returns : goal.returns
returns c = read_once_more c.read_into.ensures
