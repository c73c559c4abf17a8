-- The bits of a sender's blocks from one of them on, straight or all inverted, and what the aligner gives of them.
-- Clauses: EN 300 421, 4.4.1 to 4.4.3 (source document 002).
-- Assumes nothing.
use Rattle.std.specs.Prelude.{◌≡◌, Bool, true, ℕ, ◌+◌, ◌-◌, ◌*◌, ◌/◌, ◌%◌, ◌≤◌, ◌<◌, length, take, drop}
use mathlib.Core.List.{List, flatten}
use Rattle.convolutional_code.specs.Bits.{bits_of}
use Rattle.sent_blocks.specs.Blocks.{interleaved_blocks}
use Rattle.block_sync.specs.Decision.{turned_bits}
use Rattle.block_sync.specs.Grid.{begun}
use Rattle.block_sync.specs.declared.GivenBlock.{GivenBlock}
use Rattle.block_sync.specs.declared.BlockSync.{BlockSync}

-- the bits of the blocks from block b on, as they come
abbrev pub bits_from : Bool → ℕ → List (List ℕ) → List ℕ
bits_from inverted b packets = turned_bits inverted (bits_of (flatten (drop b (interleaved_blocks packets))))

-- These blocks are given, in order, the first as one that begins anew and the others as following; no bit is skipped, none is left.
pub record GivesSent (packets : List (List ℕ)) (b : ℕ) (given : List GivenBlock) (skipped : ℕ) (t : BlockSync) : Type 0 where
  pub blocks : given ≡ begun (drop b (interleaved_blocks packets))
  pub skips : skipped ≡ 0
  pub none_left : t.held ≡ 0

-- The same after other bits, all of which are skipped.
pub record GivesSentAfter (packets : List (List ℕ)) (b : ℕ) (before : List ℕ) (given : List GivenBlock) (skipped : ℕ) (t : BlockSync) : Type 0 where
  pub blocks : given ≡ begun (drop b (interleaved_blocks packets))
  pub skips : skipped ≡ length before
  pub none_left : t.held ≡ 0

-- What was given of them so far, where so many bits came: the first of these blocks, in order, the first as one that begins anew. No bit was skipped but of those
-- before them. All bits that came are in these blocks, skipped, or held, and fewer are held than the aligner has room for. A lock that was found lasts.
pub record GivesSentSoFar (packets : List (List ℕ)) (b : ℕ) (before : List ℕ) (came : ℕ) (given : List GivenBlock) (skipped : ℕ) (s : BlockSync) : Type 0 where
  pub blocks : given ≡ begun (take (length given) (drop b (interleaved_blocks packets)))
  pub skips : skipped ≤ length before
  pub counted : skipped + 1632 * length given + s.held ≡ came
  pub few_held : s.held < 8168
  pub lasts : 0 < length given → s.lock.locked ≡ true

-- With the end behind so many bits: all blocks that came whole, and no other, in order, the first as one that begins anew. The bits before them are skipped, and
-- those of a block that did not come whole are left.
pub record GivesSentWhole (packets : List (List ℕ)) (b : ℕ) (before : List ℕ) (came : ℕ) (given : List GivenBlock) (skipped : ℕ) (t : BlockSync) : Type 0 where
  pub blocks : given ≡ begun (take ((came - length before) / 1632) (drop b (interleaved_blocks packets)))
  pub skips : skipped ≡ length before
  pub left : t.held ≡ (came - length before) % 1632
