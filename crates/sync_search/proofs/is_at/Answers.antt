-- `sync_search::is_at` meets its contract.
-- Assumes nothing.
use mathlib.Core.Path.{◌≡◌, refl, ◌∙◌, ap}
use mathlib.Core.Bool.{Bool, true, false}
use Prim.Native.Nat.{◌≤◌}
use native.Mathlib.Omega.{arith}
use lib.Dec.{eqb}
use mir.Val.{bool_byte}
use Rattle.common.specs.Choice.{indicator}
use Rattle.sync_search.specs.Sync.{is_at}
use Rattle.sync_search.proofs.is_at.Goals as goal

bit : (b : Bool) → (bool_byte b ≡ indicator b) × (bool_byte b ≤ 1)
bit true = (refl, omega arith)
bit false = (refl, omega arith)

pub returns : goal.returns
unfolding is_at
returns c = let a = c.args in ((bit _).0 ∙ ap (λ x. indicator (eqb x a.value)) c.byte_at.ensures, (bit (eqb c.byte_at.result a.value)).1)
