-- `program_io::calls::answer` meets its contract.
-- Assumes nothing.
use Rattle.program_io.specs.Calls.{help_given, version_given, refused}
use Rattle.program_io.proofs.calls.answer.Goals as goal

pub returns-in-Help : goal.returns-in-Help
returns-in-Help c = help_given c.in-Help.is c.help.ensures

pub returns-in-Version : goal.returns-in-Version
returns-in-Version c = version_given c.in-Version.is c.version.ensures

pub returns-in-Work : goal.returns-in-Work
returns-in-Work c = refused c.in-Work.is c.wrong.ensures
