-- `acquisition::searching_on` meets its contract.
-- Assumes nothing.
use Rattle.acquisition.specs.declared.Phase.TheVariants.{Searches}
use Rattle.acquisition.specs.declared.Reading.{Reading}
use Rattle.common.specs.Lists.{padded}
use lib.ListN.{length}
use Prim.Native.Nat.{ℕ}
use mathlib.Core.List.{List, append-nil}
use mathlib.Core.Path.{ap, ap₂, ◌∙◌}
use Rattle.acquisition.proofs.searching_on.Goals as goal

pub returns : goal.returns
returns c = let a = c.args in ap₂ (λ (k : Reading) (l : List ℕ). record { rate = a.rate; mirrored = a.mirrored; phase = Searches; reading = k; pending = l; held = length a.pending.now; came = a.came }) c.idle-reading.ensures (c.joined-kept.ensures ∙ ap (padded 1632) (append-nil a.pending.now))
