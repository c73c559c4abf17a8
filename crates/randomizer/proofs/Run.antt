-- The masks made a byte at a time are those of the sequence made bit by bit.
-- Assumes nothing.
use mathlib.Core.Path.{◌≡◌, refl, sym, ap, ap₂, ◌∙◌}
use mathlib.Core.Bool.{true}
use mathlib.Core.List.{List, [], ◌∷◌}
use Prim.Native.Nat.{ℕ, zero, suc, ◌+◌, ◌*◌, ◌%◌}
use native.Mathlib.Decide.{ℕ_discrete}
use borrow.Author.Tests.{eq-eqb, ne_eqb}
use lib.Dec.{eqb}
use lib.ListN.{take, drop}
use Rattle.common.specs.Choice.{pick}
use Rattle.common.proofs.Choice.{false_true}
use Rattle.randomizer.specs.Prbs.{loaded, sequence, period, enabled, masks}
use Rattle.randomizer.specs.Masks.{run, unsynced, same, masks_at, are_masks, Table}

sequence_run : (count a b c d e f g h i j k l m n o : ℕ)
    → sequence count (a ∷ b ∷ c ∷ d ∷ e ∷ f ∷ g ∷ h ∷ i ∷ j ∷ k ∷ l ∷ m ∷ n ∷ o ∷ []) ≡ run count a b c d e f g h i j k l m n o
unfolding sequence
sequence_run zero a b c d e f g h i j k l m n o = refl
sequence_run (suc count) a b c d e f g h i j k l m n o = rw (sequence_run count)

enabled_unsynced : (n : ℕ) (l : List ℕ) → enabled n l ≡ unsynced n l
unfolding enabled
enabled_unsynced n [] = refl
enabled_unsynced n (b ∷ bs) = ap (λ (l : List ℕ). pick (eqb (n % 188) 0) 0 b ∷ l) (enabled_unsynced (n + 1) bs)

masks_run : masks ≡ 0xFF ∷ unsynced 1 (run 1503 1 0 0 1 0 1 0 1 0 0 0 0 0 0 0)
unfolding masks period loaded
masks_run = ap (λ (l : List ℕ). 0xFF ∷ l) (enabled_unsynced 1 (sequence 1503 loaded) ∙ ap (unsynced 1) (sequence_run 1503 1 0 0 1 0 1 0 1 0 0 0 0 0 0 0))

same_is : (xs ys : List ℕ) → same xs ys ≡ true → xs ≡ ys
same_is [] [] h = refl
same_is [] (y ∷ ys) h = false_true h
same_is (x ∷ xs) [] h = false_true h
same_is (x ∷ xs) (y ∷ ys) h = go (ℕ_discrete x y) (same_is xs ys)
  where
    go : Dec (x ≡ y) → (same xs ys ≡ true → xs ≡ ys) → x ∷ xs ≡ y ∷ ys
    go (yes e) r = ap₂ ◌∷◌ e (r (rw (eq-eqb x y e) at h))
    go (no e) r = false_true (rw (ne_eqb x y e) at h)

-- a table that the test takes is that of the place
pub table_is : (place : ℕ) (table : List ℕ) → are_masks place table ≡ true → Table place table
table_is place table h = record { is = same_is table (masks_at place) h ∙ ap (λ (l : List ℕ). take 188 (drop (188 * place) l)) (sym masks_run) }
