-- The loop over the branches.
-- Assumes nothing.
use mathlib.Core.Path.{◌≡◌, refl, ap, ap₂, sym, ◌∙◌}
use mathlib.Core.List.{List, ◌∷◌, ◌++◌, append_assoc, append-nil}
use Prim.Native.Nat.{ℕ, suc, ◌+◌, ◌-◌, ◌*◌, ◌≤◌, ◌<◌}
use native.Mathlib.Nat.{zero-add, add-zero}
use native.Mathlib.Numerals.{add-one}
use native.Mathlib.Omega.{arith}
use lib.ListN.{length, get_or, take, drop, set, length-append, length-drop}
use lib.Seq.{drop-cons, set_at, drop_at, take_at, drop-drop, get_or-append-add, get_or-drop, drop-length, append_snoc}
use Rattle.common.specs.Lists.{list_of}
use Rattle.common.proofs.Lists.{length_list_of}
use Rattle.interleaver.specs.Branch.{size_of, base_of, cells_of, turned, queue}
use Rattle.interleaver.specs.Column.{column, scattered}
use Rattle.interleaver.specs.Block.{leaving, staying, position_after, position_of, stored_of, joined, block_out, branches_after}
use Rattle.interleaver.specs.declared.branches.Side.{Side}
use Rattle.interleaver.specs.declared.branches.Branches.{Branches}
use Rattle.interleaver.proofs.Cells.{base_end, cells_fit, length_cells, length_joined}
use Rattle.interleaver.proofs.Filling.{Filled, filled_none, filled_placed, filled_all}
use Rattle.interleaver.proofs.Blocks.{Good, length_stored, length_leaves, leaves_at, length_out}

-- the branches below j are passed; d was the output
pub record Passing (side : Side) (s : Branches) (block d : List ℕ) (output cells positions : List ℕ) (base j : ℕ) : Type 0 where
  pub start : base ≡ base_of side j
  pub stored : cells ≡ joined j (stored_of side s block) ++ drop (base_of side j) s.cells
  pub next : positions ≡ list_of j (position_of side s) ++ drop j s.positions
  pub filled : Filled (block_out side s block) d output (17 * j)

pub passing_none : (side : Side) (s : Branches) (block d : List ℕ) → Passing side s block d d s.cells s.positions 0 0
unfolding base_of joined list_of
passing_none side s block d = record { start = refl; stored = refl; next = refl; filled = filled_none (block_out side s block) d }

module _ {side : Side} {s : Branches} {block d output cells positions : List ℕ} {base j : ℕ}
    (g : Passing side s block d output cells positions base j) (whole : Good side s) (h : j < 12) where
  length_front : length (joined j (stored_of side s block)) ≡ base
  length_front = length_joined side (stored_of side s block) j (λ i l. length_stored side s whole block i (omega arith)) ∙ sym g.start

  behind : drop base cells ≡ drop base s.cells
  behind =
      ap (drop base) g.stored
      ∙ drop_at (joined j (stored_of side s block)) (drop (base_of side j) s.cells) base length_front
      ∙ ap (λ (k : ℕ). drop k s.cells) (sym g.start)

  -- there are as many cells as there were
  pub passing_length : length cells ≡ 1122
  passing_length =
      let n = length_front in
      let l = cells_fit side j h in
      let e = whole.cells in
      let b = g.start in
      ap length g.stored
      ∙ length-append (joined j (stored_of side s block)) (drop (base_of side j) s.cells)
      ∙ simp length-drop (omega arith)

  -- the cells of branch j are as they were
  pub passing_cells : take (size_of side j) (drop base cells) ≡ cells_of side s j
  passing_cells = ap (take (size_of side j)) (behind ∙ ap (λ (k : ℕ). drop k s.cells) g.start)

  -- and so is its position
  pub passing_position : get_or positions j 0 ≡ get_or s.positions j 0
  passing_position =
      let n : length (list_of j (position_of side s)) + 0 ≡ j = (let e = length_list_of j (position_of side s) in omega arith) in
      ap (λ (l : List ℕ). get_or l j 0) g.next
      ∙ ap (λ (k : ℕ). get_or (list_of j (position_of side s) ++ drop j s.positions) k 0) (sym n)
      ∙ get_or-append-add (list_of j (position_of side s)) (drop j s.positions) 0 0
      ∙ get_or-drop j s.positions 0 0
      ∙ ap (λ (k : ℕ). get_or s.positions k 0) (add-zero j)

  -- what branch j gives
  pub passing_more : {p next size end : ℕ} {part part' cells' output' : List ℕ} → 204 ≤ length d
      → size ≡ size_of side j → end ≡ base + size → part ≡ cells_of side s j → p ≡ get_or s.positions j 0
      → next ≡ position_after (length part) p
      → part' ≡ turned (length part - next) (drop 17 (turned p part ++ column j block))
      → cells' ≡ take base cells ++ (part' ++ drop size (drop base cells))
      → output' ≡ scattered j (take 17 (turned p part ++ column j block)) output
      → Passing side s block d output' cells' (set positions j next) end (j + 1)
  unfolding base_of joined list_of position_of stored_of staying leaving queue
  passing_more {p} {next} {size} {end} {part} {part'} {cells'} {output'} long e1 e2 e3 e4 e5 e6 e7 e8 = record {
    start = rw (add-one j) (e2 ∙ ap₂ ◌+◌ g.start e1);
    stored =
        rw (add-one j)
        (e7
        ∙ ap₂ (λ (a b : List ℕ). a ++ b) front (ap₂ (λ (a b : List ℕ). a ++ b) kept rest)
        ∙ sym (append_assoc (joined j (stored_of side s block)) (stored_of side s block j) (drop (base_of side j + size_of side j) s.cells)));
    next =
        rw (add-one j)
        (ap (λ (l : List ℕ). set l j next) (g.next ∙ ap (λ (l : List ℕ). list_of j (position_of side s) ++ l) (drop-cons s.positions j 0 (rw whole.positions h)))
        ∙ set_at (list_of j (position_of side s)) (get_or s.positions j 0) (drop (suc j) s.positions) next j (length_list_of j (position_of side s))
        ∙ ap (λ (v : ℕ). list_of j (position_of side s) ++ v ∷ drop (suc j) s.positions) moved
        ∙ sym (append_snoc (list_of j (position_of side s)) (position_of side s j) (drop (suc j) s.positions)));
    filled = filling;
  }
    where
      n : length part ≡ size_of side j
      n = ap length e3 ∙ length_cells side s j whole.cells h

      moved : next ≡ position_of side s j
      moved = e5 ∙ ap₂ position_after n e4

      passed : turned p part ++ column j block ≡ queue side s j ++ column j block
      passed = ap₂ (λ (k : ℕ) (l : List ℕ). turned k l ++ column j block) e4 e3

      kept : part' ≡ stored_of side s block j
      kept = e6 ∙ ap₂ (λ (k : ℕ) (l : List ℕ). turned k (drop 17 l)) (ap₂ ◌-◌ n moved) passed

      front : take base cells ≡ joined j (stored_of side s block)
      front = ap (take base) g.stored ∙ take_at (joined j (stored_of side s block)) (drop (base_of side j) s.cells) base length_front

      rest : drop size (drop base cells) ≡ drop (base_of side j + size_of side j) s.cells
      rest = ap₂ drop e1 behind ∙ drop-drop (size_of side j) base s.cells ∙ ap (λ (k : ℕ). drop (k + size_of side j) s.cells) g.start

      filling : Filled (block_out side s block) d output' (17 * (j + 1))
      filling =
          let m : length (leaving side s block j) ≡ 17 = length_leaves side s block j in
          let k : 17 * j + (0 + length (leaving side s block j)) ≡ 17 * (j + 1) = omega arith in
          let z : 17 * j + 0 ≡ 17 * j = omega arith in
          let r : output' ≡ scattered (12 * 0 + j) (leaving side s block j) output
          = e8 ∙ ap₂ (λ (i : ℕ) (l : List ℕ). scattered i (take 17 l) output) (sym (zero-add j)) passed
          in
          rw (r, sym k)
          (filled_placed j 0 (leaving side s block j) output (rw z g.filled) h (omega arith) long
          (λ i l. leaves_at side s block j i h (omega arith) ∙ ap (λ (q : ℕ). get_or (block_out side s block) (12 * q + j) 0) (sym (zero-add i))))

pub passing_all : {side : Side} {s : Branches} {block d output cells positions : List ℕ} {base j : ℕ}
    → Passing side s block d output cells positions base j → Good side s → j ≡ 12 → 204 ≤ length d
    → (cells ≡ (branches_after side s block).cells) × (positions ≡ (branches_after side s block).positions) × (output ≡ block_out side s block ++ drop 204 d)
unfolding branches_after
passing_all {side} {s} {block} {d} {output} {cells} {positions} {base} {j} g whole e long =
    let f : Passing side s block d output cells positions base 12 = rw e at g in (
      f.stored ∙ ends (joined 12 (stored_of side s block)) s.cells (base_of side 12) (base_end side ∙ sym whole.cells),
      f.next ∙ ends (list_of 12 (position_of side s)) s.positions 12 (sym whole.positions),
      filled_all f.filled (length_out side s block) long,
    )
  where
    ends : (a l : List ℕ) (k : ℕ) → k ≡ length l → a ++ drop k l ≡ a
    ends a l k q = ap (λ (m : ℕ). a ++ drop m l) q ∙ ap (λ (r : List ℕ). a ++ r) (drop-length l) ∙ append-nil a
