-- `reader::symbol_count` meets its contract: the table has the numbers of the modes.
-- Assumes nothing.
use mathlib.Core.List.{List, [], ◌∷◌}
use Prim.Native.Nat.{ℕ}
use lib.ListN.{get_or}
use Rattle.common.proofs.Computed.{agree_at}
use Rattle.puncturing.specs.Mode.{mode_of, qpsk_count}
use Rattle.reader.specs.Read.{symbols_per_pattern}
use borrow.Author.Rules.{rules}
use Rattle.reader.proofs.symbol_count.Goals as goal

counts : List ℕ
counts = 1 ∷ 3 ∷ 2 ∷ 3 ∷ 4 ∷ []

pub returns : goal.returns
unfolding counts symbols_per_pattern mode_of
returns c = agree_at (λ r. get_or counts r 0) symbols_per_pattern qpsk_count tt c.args.rate (search rules)
