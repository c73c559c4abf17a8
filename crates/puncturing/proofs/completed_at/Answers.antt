-- `puncturing::completed_at` meets its contract: at each place the table's number tells which symbol the bit completes.
-- Assumes nothing.
use mathlib.Core.Path.{◌≡◌, refl, ap, sym, ◌∙◌}
use mathlib.Core.List.{List, [], ◌∷◌}
use Prim.Native.Nat.{ℕ, ◌+◌, ◌*◌}
use lib.ListN.{get_or}
use Rattle.puncturing.specs.Mode.{mode_of, mode_count, longest_pattern}
use Rattle.puncturing.specs.Step.{punctured, punctured_by}
use Rattle.puncturing.specs.Run.{by_kind}
use Rattle.puncturing.specs.declared.tables.Completion.{Completion}
use Rattle.puncturing.specs.declared.tables.Completion.TheVariants.{Nothing, XY, HeldX, HeldY, YX}
use Rattle.puncturing.proofs.Places.{end, ◌&◌, EverywhereOf, everywhere_of}
use Rattle.puncturing.proofs.completed_at.Goals as goal

table : List Completion
table = XY ∷ Nothing ∷ Nothing ∷ Nothing ∷ Nothing ∷ Nothing ∷ Nothing ∷ XY ∷ Nothing ∷ HeldX ∷ HeldY ∷ Nothing ∷ Nothing ∷ Nothing ∷ XY ∷ Nothing ∷ HeldX ∷ Nothing ∷ Nothing ∷ Nothing ∷ Nothing ∷ XY ∷ Nothing ∷ HeldX ∷ Nothing ∷ HeldX ∷ Nothing ∷ Nothing ∷ XY ∷ Nothing ∷ HeldY ∷ Nothing ∷ HeldX ∷ Nothing ∷ HeldX ∷ YX ∷ Nothing ∷ Nothing ∷ Nothing ∷ Nothing ∷ Nothing ∷ Nothing ∷ []

abbrev Told : ℕ → ℕ → Type 0
Told r p = (x y held : ℕ) → punctured r p x y held ≡ by_kind (get_or table (r * longest_pattern + p) Nothing) x y held

told : EverywhereOf mode_count Told
unfolding table punctured_by mode_of
told =
    ((λ x y h. refl) & end)
    & ((λ x y h. refl) & (λ x y h. refl) & (λ x y h. refl) & (λ x y h. refl) & (λ x y h. refl) & (λ x y h. refl) & (λ x y h. refl) & end)
    & ((λ x y h. refl) & (λ x y h. refl) & (λ x y h. refl) & (λ x y h. refl) & (λ x y h. refl) & end)
    & ((λ x y h. refl) & (λ x y h. refl) & (λ x y h. refl) & end)
    & ((λ x y h. refl) & (λ x y h. refl) & (λ x y h. refl) & (λ x y h. refl) & end)
    & ((λ x y h. refl) & end)
    & end

pub returns : goal.returns
unfolding table
returns c = λ x y held.
    let a = c.args in
    let g = c.requires in
    everywhere_of mode_count Told told a.rate a.place g.0 g.1 x y held ∙ ap (λ (k : ℕ). by_kind (get_or table k Nothing) x y held) (sym c.cell.ensures.0)
