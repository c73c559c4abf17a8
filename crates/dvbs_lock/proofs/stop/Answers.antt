-- `dvbs_lock::stop` meets its contract.
-- Assumes nothing.
use mathlib.Core.Path.{refl}
use Rattle.dvbs_lock.specs.Ends.{part, too_long}
use Rattle.dvbs_lock.proofs.Endings.{files_on}
use Rattle.dvbs_lock.proofs.stop.Goals as goal

pub returns : goal.returns
returns c =
    record { files = files_on c.requires.0 refl refl c.write_text-errors.ensures.file; status = part refl (too_long c.requires.1) }
