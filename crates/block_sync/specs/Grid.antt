-- Bits whose sync bytes are all in their places, as a sender's are: what comes of them.
-- Clauses: EN 300 421, 4.4.1 and 4.4.3 (source document 002).
-- Assumes nothing.
use Rattle.std.specs.Prelude.{◌≡◌, Bool, true, false, List, [], ◌∷◌, ◌++◌, map, ℕ, ◌+◌, ◌-◌, ◌*◌, ◌%◌, ◌<◌, ◌≤◌, eqb, length, None, Ok, IsSome}
use Rattle.common.specs.Choice.{pick}
use Rattle.common.specs.Lists.{chunks_of}
use Rattle.sync_search.specs.Sync.{byte_at, sync_at}
use Rattle.block_sync.specs.Decision.{block_of}
use Rattle.block_sync.specs.Feed.{FinishesSync}
use Rattle.block_sync.specs.History.{step_given}
use Rattle.block_sync.specs.declared.GivenBlock.{GivenBlock}
use Rattle.block_sync.specs.declared.BlockSync.{BlockSync}
use Rattle.block_sync.specs.declared.SyncStep.{SyncStep}

-- the sync byte of block n of a sender: B8 in the first of each group of eight, and else 47
abbrev pub sync_byte : ℕ → ℕ
sync_byte n = pick (eqb (n % 8) 0) 0xB8 0x47

abbrev pub turned_byte : Bool → ℕ → ℕ
turned_byte inverted v = pick inverted (255 - v) v

-- The bits of n blocks and of a part of one more, straight or all inverted. Each of them, as far as there is a whole byte of it, begins with the sync byte of
-- a sender's block, from block `first` on; all else may be anything.
pub record SyncGrid (inverted : Bool) (first n : ℕ) (l : List ℕ) : Type 0 where
  pub size : 1632 * n ≤ length l
  pub part : length l < 1632 * n + 1632
  pub syncs : (b : ℕ) → 1632 * b + 8 ≤ length l → byte_at l (1632 * b) ≡ turned_byte inverted (sync_byte (first + b))

-- the bytes of the blocks
unfoldable pub grid_blocks : Bool → List ℕ → List (List ℕ)
grid_blocks inverted l = map (block_of inverted) (chunks_of 1632 l)

-- blocks that follow one another
abbrev pub followers : List (List ℕ) → List GivenBlock
followers bs = map (λ b. record { begins = false; bytes = b }) bs

-- the first of them begins anew
abbrev pub begun : List (List ℕ) → List GivenBlock
begun [] = []
begun (b ∷ bs) = record { begins = true; bytes = b } ∷ followers bs

-- At the end of the bits: call after call until none gives a block.
pub data Drained : BlockSync → List GivenBlock → ℕ → BlockSync → Type 0 where
  done : {s : BlockSync} (r : SyncStep) → FinishesSync s (Ok r) → r.block ≡ None → Drained s [] r.skipped r.sync
  more : {s t : BlockSync} {given : List GivenBlock} {skipped : ℕ} (r : SyncStep) → FinishesSync s (Ok r) → IsSome r.block → Drained r.sync given skipped t
      → Drained s (step_given r ++ given) (r.skipped + skipped) t

-- ---- what the theorems say

-- All blocks that are whole are given, the first as one that begins anew; no bit is skipped, and those of a part of a block are left.
pub record GridGiven (i : Bool) (l : List ℕ) (given : List GivenBlock) (skipped : ℕ) (t : BlockSync) : Type 0 where
  pub blocks : given ≡ begun (grid_blocks i l)
  pub skips : skipped ≡ 0
  pub left : t.held ≡ length l % 1632

-- no place before the blocks passes for a sync
abbrev pub Unsynced : List ℕ → List ℕ → Type 0
Unsynced p l = (q : ℕ) → q < length p → sync_at (p ++ l) q ≡ false

-- The same after other bits, which are skipped.
pub record AnywhereGiven (i : Bool) (p l : List ℕ) (given : List GivenBlock) (skipped : ℕ) (t : BlockSync) : Type 0 where
  pub blocks : given ≡ begun (grid_blocks i l)
  pub skips : skipped ≡ length p
  pub left : t.held ≡ length l % 1632

-- Blocks, other bits, blocks: the bits between are skipped, and the first block behind them begins anew too.
pub record SlipGiven (i j : Bool) (c p l : List ℕ) (given : List GivenBlock) (skipped : ℕ) (t : BlockSync) : Type 0 where
  pub blocks : given ≡ begun (grid_blocks i c) ++ begun (grid_blocks j l)
  pub skips : skipped ≡ length p
  pub left : t.held ≡ length l % 1632
