-- `acquisition::reading_on` meets its contract.
-- Assumes nothing.
use Rattle.acquisition.specs.declared.Phase.TheVariants.{Reads}
use Rattle.common.specs.Lists.{padded}
use lib.ListN.{length}
use Prim.Native.Nat.{ℕ}
use mathlib.Core.List.{List, append-nil}
use mathlib.Core.Path.{ap, ◌∙◌}
use Rattle.acquisition.proofs.reading_on.Goals as goal

pub returns : goal.returns
returns c = let a = c.args in ap (λ (l : List ℕ). record { rate = a.rate; mirrored = a.mirrored; phase = Reads; reading = a.reading; pending = l; held = length a.pending.now; came = a.came }) (c.joined-kept.ensures ∙ ap (padded 1632) (append-nil a.pending.now))
