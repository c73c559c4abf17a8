-- One block through the twelve branches.
-- Assumes nothing.
use mathlib.Core.Path.{◌≡◌, refl, ap, ap₂, sym, ◌∙◌}
use mathlib.Core.Bool.{true}
use mathlib.Core.List.{List, ◌++◌}
use Prim.Native.Nat.{ℕ, zero, suc, ◌+◌, ◌-◌, ◌*◌, ◌%◌, ◌/◌, ◌≤◌, ◌<◌, max}
use native.Mathlib.Omega.{arith}
use lib.ListN.{length, get_or, take, drop, length-append, length-drop, take-append-drop}
use lib.Seq.{ext_get_or}
use Rattle.common.specs.Lists.{Entries, list_of}
use Rattle.common.proofs.Entries.{entries_take, entries_drop, entries_append, entries_list_of}
use Rattle.common.proofs.Lists.{length_list_of, get_d_list_of}
use Rattle.interleaver.specs.Branch.{delay_of, size_of, base_of, branches_in_range, cells_of, turned, queue}
use Rattle.interleaver.specs.Column.{column}
use Rattle.interleaver.specs.Block.{leaving, staying, position_of, stored_of, joined, block_out, branches_after}
use Rattle.interleaver.specs.declared.branches.Side.{Side}
use Rattle.interleaver.specs.declared.branches.Branches.{Branches}
use Rattle.interleaver.proofs.Columns.{length_column, get_d_column}
use Rattle.interleaver.proofs.Rings.{length_turned, length_leaving, returned, position_after_small}
use Rattle.interleaver.proofs.Positions.{within_bound, within_all}
use Rattle.interleaver.proofs.Cells.{base_end, length_cells, length_joined, joined_part}

-- what a caller keeps of a state: its arrays are whole, and its positions are in range
pub record Good (side : Side) (s : Branches) : Type 0 where
  pub cells : length s.cells ≡ 1122
  pub positions : length s.positions ≡ 12
  pub range : branches_in_range side s ≡ true

-- a branch has no cells or at least seventeen
pub enough : (d : ℕ) → (17 * d ≡ 0 → ⊥) → 17 ≤ 17 * d
enough zero h = absurd (h refl)
enough (suc d) h = omega arith

-- ---- the block that leaves

pub length_out : (side : Side) (s : Branches) (block : List ℕ) → length (block_out side s block) ≡ 204
unfolding block_out
length_out side s block = length_list_of 204 (λ n. get_or (leaving side s block (n % 12)) (n / 12) 0)

out_at : (side : Side) (s : Branches) (block : List ℕ) (n : ℕ) → n < 204
    → get_or (block_out side s block) n 0 ≡ get_or (leaving side s block (n % 12)) (n / 12) 0
unfolding block_out
out_at side s block n h = get_d_list_of 204 (λ i. get_or (leaving side s block (i % 12)) (i / 12) 0) 0 n h

pub length_leaves : (side : Side) (s : Branches) (block : List ℕ) (j : ℕ) → length (leaving side s block j) ≡ 17
unfolding leaving queue
length_leaves side s block j = length_leaving (get_or s.positions j 0) (cells_of side s j) (column j block) (length_column j block)

-- what leaves branch j is in the places of branch j
pub leaves_at : (side : Side) (s : Branches) (block : List ℕ) (j k : ℕ) → j < 12 → k < 17
    → get_or (leaving side s block j) k 0 ≡ get_or (block_out side s block) (12 * k + j) 0
leaves_at side s block j k h l =
    let q : (12 * k + j) % 12 ≡ j = omega arith in
    let d : (12 * k + j) / 12 ≡ k = omega arith in
    sym (out_at side s block (12 * k + j) (omega arith) ∙ ap₂ (λ (i m : ℕ). get_or (leaving side s block i) m 0) q d)

-- ---- the state after it

module _ (side : Side) (s : Branches) (g : Good side s) (block : List ℕ) (j : ℕ) (h : j < 12) where
  pub position_bound : get_or s.positions j 0 < max 1 (size_of side j)
  position_bound = within_bound side s.positions 12 g.range j h

  pub length_queue : length (queue side s j) ≡ size_of side j
  unfolding queue
  length_queue =
      let n : length (cells_of side s j) ≡ size_of side j = length_cells side s j g.cells h in
      let b = position_bound in
      short (get_or s.positions j 0) (cells_of side s j) (size_of side j) n b
    where
      short : (p : ℕ) (l : List ℕ) (size : ℕ) → length l ≡ size → p < max 1 size → length (turned p l) ≡ size
      short p l size n b = length_turned p l (omega arith) ∙ n

  length_staying : length (staying side s block j) ≡ size_of side j
  unfolding staying
  length_staying =
      let n = length_column j block in
      let m = length_queue in
      rw (length-drop 17 (queue side s j ++ column j block), length-append (queue side s j) (column j block)) (omega arith)

  position_small : position_of side s j < max 1 (size_of side j)
  unfolding position_of
  position_small = position_after_small (size_of side j) (get_or s.positions j 0) position_bound (enough (delay_of side j))

  pub length_stored : length (stored_of side s block j) ≡ size_of side j
  unfolding stored_of
  length_stored =
      let n = length_staying in
      length_turned (size_of side j - position_of side s j) (staying side s block j) (omega arith) ∙ n

  -- turned back, what is stored is what stays
  stored_queue : turned (position_of side s j) (stored_of side s block j) ≡ staying side s block j
  unfolding stored_of
  stored_queue =
      let n : length (staying side s block j) ≡ size_of side j = length_staying in
      let b = position_small in
      ap (λ (m : ℕ). turned (position_of side s j) (turned (m - position_of side s j) (staying side s block j))) (sym n)
      ∙ returned (position_of side s j) (staying side s block j) (omega arith)

-- ---- the state stays good

pub good_after : (side : Side) (s : Branches) (block : List ℕ) → Good side s → Good side (branches_after side s block)
unfolding branches_after
good_after side s block g = record {
  cells = length_joined side (stored_of side s block) 12 (λ j h. length_stored side s g block j h) ∙ base_end side;
  positions = length_list_of 12 (position_of side s);
  range =
      within_all side (list_of 12 (position_of side s)) 12
      (λ j h. rw (get_d_list_of 12 (position_of side s) 0 j h) (position_small side s g block j h));
}

-- ---- the law of the queues: what was in a branch and what enters it is what leaves it and what is in it then

column_out : (side : Side) (s : Branches) (block : List ℕ) (j : ℕ) → j < 12 → column j (block_out side s block) ≡ leaving side s block j
column_out side s block j h =
    ext_get_or 0 (column j (block_out side s block)) (leaving side s block j) (length_column j _ ∙ sym (length_leaves side s block j))
    (λ k l. each k (let n = length_column j (block_out side s block) in omega arith))
  where
    each : (k : ℕ) → k < 17 → get_or (column j (block_out side s block)) k 0 ≡ get_or (leaving side s block j) k 0
    each k l = get_d_column j (block_out side s block) k l ∙ sym (leaves_at side s block j k h l)

queue_after : (side : Side) (s : Branches) (block : List ℕ) → Good side s → (j : ℕ) → j < 12
    → queue side (branches_after side s block) j ≡ staying side s block j
unfolding queue branches_after
queue_after side s block g j h =
    ap₂ turned (get_d_list_of 12 (position_of side s) 0 j h)
    (joined_part side (stored_of side s block) 12 (λ i l. length_stored side s g block i l) j h)
    ∙ stored_queue side s g block j h

pub queue_law : (side : Side) (s : Branches) (block : List ℕ) → Good side s → (j : ℕ) → j < 12
    → queue side s j ++ column j block ≡ column j (block_out side s block) ++ queue side (branches_after side s block) j
unfolding leaving staying
queue_law side s block g j h =
    sym (take-append-drop 17 (queue side s j ++ column j block))
    ∙ ap₂ (λ (a b : List ℕ). a ++ b) (sym (column_out side s block j h)) (sym (queue_after side s block g j h))

-- ---- numbers that are all such ones, as bytes: in the cells, and in what goes in and out

module _ (P : ℕ → Type 0) (z : P 0) where
  entries_turned : (p : ℕ) (l : List ℕ) → Entries P l → Entries P (turned p l)
  entries_turned p l e = entries_append P z (drop p l) (take p l) (entries_drop P p l e) (entries_take P z p l e)

  pub entries_queue : (side : Side) (s : Branches) → Entries P s.cells → (j : ℕ) → Entries P (queue side s j)
  unfolding queue
  entries_queue side s e j =
      entries_turned (get_or s.positions j 0) (cells_of side s j)
      (entries_take P z (size_of side j) (drop (base_of side j) s.cells) (entries_drop P (base_of side j) s.cells e))

  module _ (side : Side) (s : Branches) (block : List ℕ) (e : Entries P s.cells) (f : Entries P block) where
    entries_through : (j : ℕ) → Entries P (queue side s j ++ column j block)
    unfolding column
    entries_through j =
        entries_append P z (queue side s j) (column j block) (entries_queue side s e j)
        (entries_list_of P z 17 (λ k. get_or block (12 * k + j) 0) (λ k. f (12 * k + j)))

    pub entries_out : Entries P (block_out side s block)
    unfolding block_out leaving
    entries_out =
        entries_list_of P z 204 (λ n. get_or (leaving side s block (n % 12)) (n / 12) 0)
        (λ n. entries_take P z 17 (queue side s (n % 12) ++ column (n % 12) block) (entries_through (n % 12)) (n / 12))

    pub entries_after : Entries P (branches_after side s block).cells
    unfolding branches_after joined stored_of staying
    entries_after = go 12
      where
        go : (n : ℕ) → Entries P (joined n (stored_of side s block))
        go zero = λ i. z
        go (suc n) =
            entries_append P z (joined n (stored_of side s block)) (stored_of side s block n) (go n)
            (entries_turned (size_of side n - position_of side s n) (staying side s block n)
            (entries_drop P 17 (queue side s n ++ column n block) (entries_through n)))
