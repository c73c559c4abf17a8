-- Interleaving of a whole stream of blocks of 204 bytes: EN 300 421, 4.4.2.
-- Assumes nothing.
use Rattle.std.specs.Prelude.{List, [], ◌∷◌, ◌++◌, ℕ, ◌-◌, ◌%◌, ltb, length, get_or, take, replicate}
use Rattle.common.specs.Choice.{pick}
use Rattle.common.specs.Lists.{list_of}
use Rattle.interleaver.specs.Branch.{delay_of}
use Rattle.interleaver.specs.Block.{block_out, branches_after}
use Rattle.interleaver.specs.declared.branches.Side.{Side}
use Rattle.interleaver.specs.declared.branches.Side.TheVariants.{Sending, Receiving}
use Rattle.interleaver.specs.declared.branches.Branches.{Branches}

-- byte n of the block d blocks before block b, and 0 where there is none
unfoldable pub earlier : List (List ℕ) → ℕ → ℕ → ℕ → ℕ
earlier blocks d b n = pick (ltb b d) 0 (get_or (get_or blocks (b - d) []) n 0)

-- Byte n of a block goes through branch n mod 12, and leaves in place n of a later block.
-- So this is byte n of block b of those that leave.
unfoldable pub delayed_byte : Side → List (List ℕ) → ℕ → ℕ → ℕ
unfolding earlier
delayed_byte side blocks b n = earlier blocks (delay_of side (n % 12)) b n

-- the blocks that leave, as many as enter
unfoldable pub delayed : Side → List (List ℕ) → List (List ℕ)
unfolding delayed_byte list_of
delayed side blocks = list_of (length blocks) (λ b. list_of 204 (delayed_byte side blocks b))

abbrev pub interleaved : List (List ℕ) → List (List ℕ)
interleaved = delayed Sending

abbrev pub deinterleaved : List (List ℕ) → List (List ℕ)
deinterleaved = delayed Receiving

-- what both sides make of a stream: eleven blocks of zeros, and then the blocks in order, all but the last eleven
unfoldable pub eleven_late : List (List ℕ) → List (List ℕ)
eleven_late blocks = take (length blocks) (replicate 11 (replicate 204 0) ++ blocks)

-- call after call
unfoldable pub run : Side → Branches → List (List ℕ) → List (List ℕ)
unfolding block_out branches_after
run side s [] = []
run side s (block ∷ blocks) = block_out side s block ∷ run side (branches_after side s block) blocks

-- the state after them
unfoldable pub run_after : Side → Branches → List (List ℕ) → Branches
unfolding branches_after
run_after side s [] = s
run_after side s (block ∷ blocks) = run_after side (branches_after side s block) blocks
