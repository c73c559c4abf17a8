-- `acquisition::take_bits` meets its contract.
-- Assumes nothing.
use borrow.Author.Rules.{rules}
use mathlib.Core.Path.{subst}
use mathlib.Core.List.{List}
use Prim.Native.Nat.{ℕ}
use Rattle.std.specs.Prelude.{Ok}
use Rattle.block_sync.specs.Feed.{FeedsSync}
use Rattle.reader_stream.proofs.Runs.{back_whole}
use Rattle.acquisition.proofs.Bits.{feed_counts, takes_bits}
use Rattle.acquisition.proofs.take_bits.Goals as goal

pub take-second-requires : goal.take-second-requires
take-second-requires c = (feed_counts c.args.sync c.args.bits.now c.take-first.result (search rules) c.requires.0 c.take-first.ensures).held_few

pub slice_bounds-take-start : goal.slice_bounds-take-start
slice_bounds-take-start c = (feed_counts c.args.sync c.args.bits.now c.take-first.result (search rules) c.requires.0 c.take-first.ensures).taken_most

pub returns : goal.returns
returns c =
    takes_bits c.args.sync c.args.bits.now c.take-first.result c.take-second.result (search rules) c.requires.0 c.requires.1 c.take-first.ensures
    (subst (λ (l : List ℕ). FeedsSync c.take-first.result.sync l (Ok c.take-second.result)) (back_whole c.args.bits.now c.take-first.result.taken) c.take-second.ensures)
