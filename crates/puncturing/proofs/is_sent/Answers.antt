-- `puncturing::is_sent` meets its contract.
-- Assumes nothing.
use mathlib.Core.Path.{◌≡◌, refl, ap, sym, ◌∙◌}
use mathlib.Core.Bool.{Bool, true, false}
use mathlib.Core.List.{List, [], ◌∷◌}
use Prim.Native.Nat.{ℕ}
use borrow.Author.Tests.{le-ltb}
use lib.ListN.{get_or}
use Rattle.puncturing.specs.Mode.{Mode, mode_of, mode_count}
use Rattle.puncturing.proofs.Places.{outside, end, ◌&◌, Below, below}
use Rattle.puncturing.proofs.is_sent.Goals as goal

table : List Bool
table = true ∷ true ∷ true ∷ true ∷ false ∷ true ∷ []

abbrev Told : ℕ → Type 0
Told r = get_or table r false ≡ (mode_of r).sent

-- the column of the table
told : Below Told mode_count
unfolding table mode_of
told = refl & refl & refl & refl & refl & refl & end

pub returns-then-rate-lt-MODES : goal.returns-then-rate-lt-MODES
unfolding table
returns-then-rate-lt-MODES c = below Told mode_count told c.args.rate c.if-rate-lt-MODES.true

pub returns-else-rate-lt-MODES : goal.returns-else-rate-lt-MODES
returns-else-rate-lt-MODES c =
    le-ltb _ _ c.if-rate-lt-MODES.false ∙ sym (ap (λ (m : Mode). m.sent) (outside c.args.rate c.if-rate-lt-MODES.false))
