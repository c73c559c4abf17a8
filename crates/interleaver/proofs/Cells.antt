-- Where the branches lie among the cells.
-- Assumes nothing.
use mathlib.Core.Path.{◌≡◌, refl, ap, ap₂, subst, sym, ◌∙◌}
use mathlib.Core.List.{List, ◌++◌}
use Prim.Native.Nat.{ℕ, zero, suc, ◌+◌, ◌≤◌, ◌<◌}
use native.Mathlib.Nat.{not-suc-le-zero}
use native.Mathlib.Decide.{ℕ_discrete}
use native.Mathlib.Omega.{arith}
use lib.ListN.{length, take, drop, length-append, length-drop}
use lib.Seq.{drop-append-le, take-append-le, drop_at, take_all, length-take-le}
use Rattle.interleaver.specs.Branch.{delay_of, size_of, base_of, cells_of}
use Rattle.interleaver.specs.Block.{joined}
use Rattle.interleaver.specs.declared.branches.Side.{Side}
use Rattle.interleaver.specs.declared.branches.Side.TheVariants.{Sending, Receiving}
use Rattle.interleaver.specs.declared.branches.Branches.{Branches}

-- all of the cells are some branch's
pub base_end : (side : Side) → base_of side 12 ≡ 1122
unfolding base_of
base_end Sending = refl
base_end Receiving = refl

pub delay_small : (side : Side) (j : ℕ) → j < 12 → delay_of side j ≤ 11
delay_small Sending j h = omega arith
delay_small Receiving j h = omega arith

after_base : (side : Side) (k j : ℕ) → k < j → base_of side k + size_of side k ≤ base_of side j
unfolding base_of
after_base side k zero h = absurd (not-suc-le-zero h)
after_base side k (suc j) h = by (ℕ_discrete k j) (after_base side k j)
  where
    by : Dec (k ≡ j) → (k < j → base_of side k + size_of side k ≤ base_of side j) → base_of side k + size_of side k ≤ base_of side j + size_of side j
    by (yes e) r = subst (λ (m : ℕ). base_of side k + size_of side k ≤ base_of side m + size_of side m) e (omega arith)
    by (no e) r = let q : base_of side k + size_of side k ≤ base_of side j = r (omega arith) in omega arith

-- each branch's cells are among them
pub cells_fit : (side : Side) (j : ℕ) → j < 12 → base_of side j + size_of side j ≤ 1122
cells_fit side j h = let e = base_end side in let l = after_base side j 12 h in omega arith

pub length_cells : (side : Side) (s : Branches) (j : ℕ) → length s.cells ≡ 1122 → j < 12 → length (cells_of side s j) ≡ size_of side j
length_cells side s j n h =
    length-take-le (size_of side j) (drop (base_of side j) s.cells)
    (let l = cells_fit side j h in rw (length-drop (base_of side j) s.cells, n) (omega arith))

-- lists as long as the branches, one after the other
module _ (side : Side) (f : ℕ → List ℕ) where
  pub length_joined : (n : ℕ) → ((j : ℕ) → j < n → length (f j) ≡ size_of side j) → length (joined n f) ≡ base_of side n
  unfolding joined base_of
  length_joined zero h = refl
  length_joined (suc n) h = length-append (joined n f) (f n) ∙ ap₂ ◌+◌ (length_joined n (λ j k. h j (omega arith))) (h n (omega arith))

  -- each of them is where its branch is
  pub joined_part : (n : ℕ) → ((j : ℕ) → j < n → length (f j) ≡ size_of side j) → (j : ℕ) → j < n
      → take (size_of side j) (drop (base_of side j) (joined n f)) ≡ f j
  unfolding joined
  joined_part zero h j k = absurd (not-suc-le-zero k)
  joined_part (suc n) h j k = by (ℕ_discrete j n) (joined_part n (λ i l. h i (omega arith)) j)
    where
      size : length (joined n f) ≡ base_of side n
      size = length_joined n (λ i l. h i (omega arith))

      by : Dec (j ≡ n) → (j < n → take (size_of side j) (drop (base_of side j) (joined n f)) ≡ f j)
          → take (size_of side j) (drop (base_of side j) (joined n f ++ f n)) ≡ f j
      by (yes e) r =
          subst (λ (i : ℕ). take (size_of side i) (drop (base_of side i) (joined n f ++ f n)) ≡ f i) (sym e)
          (ap (take (size_of side n)) (drop_at (joined n f) (f n) (base_of side n) size) ∙ take_all (size_of side n) (f n) (let m = h n (omega arith) in omega arith))
      by (no e) r =
          let l : base_of side j + size_of side j ≤ base_of side n = after_base side j n (omega arith) in
          ap (take (size_of side j)) (drop-append-le (base_of side j) (joined n f) (f n) (omega (arith, size)))
          ∙ take-append-le (size_of side j) (drop (base_of side j) (joined n f)) (f n) (rw (length-drop (base_of side j) (joined n f), size) (omega arith))
          ∙ r (omega arith)
