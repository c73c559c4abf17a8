-- The branches of the convolutional interleaver: EN 300 421, 4.4.2, with depth I = 12 and M = 17. Document 01 calls them delay branches.
-- Assumes nothing.
use Rattle.std.specs.Prelude.{Bool, true, false, List, ◌++◌, ℕ, zero, suc, ◌+◌, ◌-◌, ◌*◌, max, ltb, get_or, take, drop}
use Rattle.common.specs.Choice.{pick}
use Rattle.interleaver.specs.declared.branches.Side.{Side}
use Rattle.interleaver.specs.declared.branches.Side.TheVariants.{Sending, Receiving}
use Rattle.interleaver.specs.declared.branches.Branches.{Branches}

-- the branches that have these cells and positions
abbrev pub laid : List ℕ → List ℕ → Branches
laid cells positions = record { cells = cells; positions = positions }

-- By how many blocks branch j delays its bytes. The de-interleaver has the branch indexes reversed.
abbrev pub delay_of : Side → ℕ → ℕ
delay_of Sending j = j
delay_of Receiving j = 11 - j

-- the cells of branch j
abbrev pub size_of : Side → ℕ → ℕ
size_of side j = 17 * delay_of side j

-- where they start: the branches lie one after the other
unfoldable pub base_of : Side → ℕ → ℕ
base_of side zero = 0
base_of side (suc j) = base_of side j + size_of side j

-- the positions of the branches below j are within their branches; 0 in the branch without cells
unfoldable pub positions_within : Side → List ℕ → ℕ → Bool
positions_within side positions zero = true
positions_within side positions (suc j) = pick (positions_within side positions j) (ltb (get_or positions j 0) (max 1 (size_of side j))) false

-- what document 01 asks of the delay positions of a state
abbrev pub branches_in_range : Side → Branches → Bool
branches_in_range side s = positions_within side s.positions 12

-- A branch is a first-in, first-out register. Its cells are used in turn: the oldest byte is at the branch's position.
abbrev pub cells_of : Side → Branches → ℕ → List ℕ
cells_of side s j = take (size_of side j) (drop (base_of side j) s.cells)

-- the cells from position p on, and then those before it
abbrev pub turned : ℕ → List ℕ → List ℕ
turned p cells = drop p cells ++ take p cells

-- what is in branch j, the oldest byte first
unfoldable pub queue : Side → Branches → ℕ → List ℕ
queue side s j = turned (get_or s.positions j 0) (cells_of side s j)
