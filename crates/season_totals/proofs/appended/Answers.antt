-- `season_totals::appended` meets its contract.
-- Assumes nothing.
use mathlib.Core.Path.{ap, ◌∙◌}
use Prim.Native.Nat.{◌+◌}
use lib.ListN.{length, take}
use Rattle.season_totals.proofs.Progress.{put_taken}
use borrow.Author.Rules.{rules}
use Rattle.season_totals.proofs.appended.Goals as goal

pub returns : goal.returns
returns c =
    let a = c.args in
    let n = length a.bytes.now in
    let e = c.put.ensures in
    ap (take (a.held + n)) e ∙ put_taken a.pending a.bytes.now a.held (search rules)
