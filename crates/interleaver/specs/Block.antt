-- A block of 204 bytes goes into the branches, and one comes out.
-- Clauses: EN 300 421, 4.4.2; document 01, "Delay branches".
-- Assumes nothing.
use Rattle.std.specs.Prelude.{◌≡◌, List, [], ◌++◌, ℕ, zero, suc, ◌+◌, ◌-◌, ◌%◌, ◌/◌, ltb, eqb, length, get_or, take, drop, replicate}
use Rattle.common.specs.Choice.{pick}
use Rattle.common.specs.Lists.{list_of}
use Rattle.interleaver.specs.Branch.{size_of, turned, queue}
use Rattle.interleaver.specs.Column.{column, scattered}
use Rattle.interleaver.specs.declared.branches.Side.{Side}
use Rattle.interleaver.specs.declared.branches.Branches.{Branches}

-- all cells are 0 at first
unfoldable pub fresh : Branches
fresh = record { cells = replicate 1122 0; positions = replicate 12 0 }

-- the 17 bytes that leave branch j, and those that are in it then
unfoldable pub leaving : Side → Branches → List ℕ → ℕ → List ℕ
unfolding queue column
leaving side s block j = take 17 (queue side s j ++ column j block)

unfoldable pub staying : Side → Branches → List ℕ → ℕ → List ℕ
unfolding queue column
staying side s block j = drop 17 (queue side s j ++ column j block)

-- the position of a branch of so many cells, k bytes on: the cells are used in turn
abbrev pub position_advanced : ℕ → ℕ → ℕ → ℕ
position_advanced size p k = pick (ltb (p + k) size) (p + k) (p + k - size)

unfoldable pub position_after : ℕ → ℕ → ℕ
position_after size p = pick (eqb size 0) p (position_advanced size p 17)

-- What putting the bytes of branch j into its cells, from a position on, gives where `due` is the position after it: that position, in the cells the bytes
-- that stay, from there on, and in the output the 17 that leave.
abbrev pub Exchanged : ℕ → List ℕ → List ℕ → ℕ → List ℕ → ℕ → ℕ → List ℕ → List ℕ → Type 0
Exchanged j block cells position output due next after exit =
    (next ≡ due)
    × (after ≡ turned (length cells - next) (drop 17 (turned position cells ++ column j block)))
    × (exit ≡ scattered j (take 17 (turned position cells ++ column j block)) output)

-- the block that leaves: byte n is the next one of branch n mod 12
unfoldable pub block_out : Side → Branches → List ℕ → List ℕ
unfolding leaving list_of
block_out side s block = list_of 204 (λ n. get_or (leaving side s block (n % 12)) (n / 12) 0)

-- the state after it: the bytes that stay in a branch lie in its cells from its new position on
unfoldable pub position_of : Side → Branches → ℕ → ℕ
unfolding position_after
position_of side s j = position_after (size_of side j) (get_or s.positions j 0)

unfoldable pub stored_of : Side → Branches → List ℕ → ℕ → List ℕ
unfolding staying position_of
stored_of side s block j = turned (size_of side j - position_of side s j) (staying side s block j)

-- the lists f 0, f 1, .. f (n - 1), one after the other
unfoldable pub joined : ℕ → (ℕ → List ℕ) → List ℕ
joined zero f = []
joined (suc n) f = joined n f ++ f n

unfoldable pub branches_after : Side → Branches → List ℕ → Branches
unfolding stored_of position_of list_of joined
branches_after side s block = record {
  cells = joined 12 (stored_of side s block);
  positions = list_of 12 (position_of side s);
}
