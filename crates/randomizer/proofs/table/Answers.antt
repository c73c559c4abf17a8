-- `randomizer::table` meets its contract: the test tells that the table is that of the place.
-- Assumes nothing.
use Rattle.randomizer.proofs.Run.{table_is}
use Rattle.randomizer.proofs.table.Goals as goal

pub returns : goal.returns
returns c = table_is c.args.place c.args.masks c.requires
