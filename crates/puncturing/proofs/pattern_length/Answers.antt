-- `puncturing::pattern_length` meets its contract: the table has the lengths of the modes.
-- Assumes nothing.
use borrow.Author.Rules.{rules}
use Rattle.puncturing.proofs.Places.{length_is}
use Rattle.puncturing.proofs.pattern_length.Goals as goal

pub returns : goal.returns
returns c = length_is c.args.rate (search rules)
