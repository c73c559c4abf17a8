-- `puncturing::block_count` meets its contract: the table has what the definition gives at each place.
-- Assumes nothing.
use mathlib.Core.Path.{ap, ◌∙◌}
use Prim.Native.Nat.{ℕ}
use lib.ListN.{get_or}
use Rattle.puncturing.proofs.BlockCounts.{table, block_symbols_lem}
use Rattle.puncturing.proofs.block_count.Goals as goal

pub returns : goal.returns
unfolding table
returns c =
    let a = c.args in
    let g = c.requires in
    ap (λ (k : ℕ). get_or table k 0) c.cell.ensures.0 ∙ block_symbols_lem a.rate a.place g.0 g.1
