-- `reader_program::stop` meets its contract.
-- Assumes nothing.
use mathlib.Core.Path.{refl}
use Rattle.reader_program.specs.Ends.{part}
use Rattle.reader_program.proofs.Going.{files_told}
use Rattle.reader_program.proofs.Ending.{stop_told}
use Rattle.reader_program.proofs.stop.Goals as goal

pub returns : goal.returns
returns c =
    let t = c.write_text-errors.ensures in
    record { files = files_told c.requires.0 t.file; status = part refl (stop_told c.requires.2 c.args.pass c.args.came c.requires.1 c.requires.3 t) }
