-- `puncturing::held_count` meets its contract: the table has what the definition gives at each place.
-- Assumes nothing.
use mathlib.Core.Path.{ap, ◌∙◌}
use mathlib.Core.List.{List, [], ◌∷◌}
use Prim.Native.Nat.{ℕ, ◌+◌, ◌*◌}
use lib.ListN.{get_or}
use Rattle.puncturing.specs.Mode.{mode_of, mode_count, longest_pattern}
use Rattle.puncturing.specs.Step.{held_count, held_count_by}
use Rattle.puncturing.proofs.Places.{agreed_of_lem}
use Rattle.puncturing.proofs.held_count.Goals as goal

table : List ℕ
table = 0 ∷ 0 ∷ 0 ∷ 0 ∷ 0 ∷ 0 ∷ 0 ∷ 0 ∷ 0 ∷ 1 ∷ 1 ∷ 0 ∷ 0 ∷ 0 ∷ 0 ∷ 0 ∷ 1 ∷ 0 ∷ 0 ∷ 0 ∷ 0 ∷ 0 ∷ 0 ∷ 1 ∷ 0 ∷ 1 ∷ 0 ∷ 0 ∷ 0 ∷ 0 ∷ 1 ∷ 0 ∷ 1 ∷ 0 ∷ 1 ∷ 0 ∷ 0 ∷ 0 ∷ 0 ∷ 0 ∷ 0 ∷ 0 ∷ []

pub returns : goal.returns
unfolding table held_count_by mode_of
returns c =
    let a = c.args in
    let g = c.requires in
    ap (λ (k : ℕ). get_or table k 0) c.cell.ensures.0 ∙ agreed_of_lem mode_count (λ r p. get_or table (r * longest_pattern + p) 0) held_count tt a.rate a.place g.0 g.1
