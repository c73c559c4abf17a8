-- `randomizer::sent` meets its contract.
-- Assumes nothing.
use Rattle.randomizer.proofs.Sixteens.{begun_whole}
use borrow.Author.Rules.{rules}
use Rattle.randomizer.proofs.sent.Goals as goal

pub returns : goal.returns
returns g c = begun_whole g.row.PLACE c.args.packet.now c.args.masks (search rules) _ (search rules) c.xor_more-2.ensures
