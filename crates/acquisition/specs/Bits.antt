-- Blocks from decoded bits: what a step of the source makes of a piece, and what the end does.
-- Clauses: EN 300 421, 4.4.2 and 4.4.3, note 1 (source document 002).
-- Assumes nothing.
use Rattle.std.specs.Prelude.{◌≡◌, List, ℕ, ◌+◌, ◌<◌, ◌≤◌, length, Option, Some, None, Ok, option_map, IfSome, IsNone}
use Rattle.block_sync.specs.Feed.{fresh_block_sync, FeedsSync, FinishesSync}
use Rattle.block_sync.specs.declared.SyncStep.{SyncStep}
use Rattle.acquisition.specs.Reading.{turn_told, used_by, event_of, RateKnown}
use Rattle.acquisition.specs.End.{last_event}
use Rattle.acquisition.specs.declared.FoundBlock.{FoundBlock}
use Rattle.acquisition.specs.declared.Event.{Event}
use Rattle.acquisition.specs.declared.Event.TheVariants.{Waits, Block, Lost}
use Rattle.acquisition.specs.declared.bit_source.BitSource.{BitSource}
use Rattle.acquisition.specs.declared.bit_source.BitStep.{BitStep}
use Rattle.acquisition.specs.declared.bit_source.BitEnd.{BitEnd}

-- each number is in its range
pub record BitsReady (s : BitSource) : Type 0 where
  pub sync_sized : length s.sync.bits ≡ 8168
  pub sync_small : s.sync.held < 8168
  pub bits_counted : s.used + s.sync.held ≤ s.came
  pub counts : s.came < 1152921504606846976

-- the block that a decision gave, if it gave one, where so many bits were used before it
abbrev pub bits_found : ℕ → SyncStep → Option FoundBlock
bits_found used d =
    option_map
    (λ b. record {
      begins = b.begins;
      rate = 0;
      turn = turn_told 0 d.sync.lock.inverted;
      start = used + d.skipped;
      end = used + d.skipped + 1632;
      bytes = b.bytes;
    })
    d.block

-- what a decision leaves
abbrev pub bits_after : BitSource → SyncStep → ℕ → BitSource
bits_after s d came = record { sync = d.sync; used = s.used + used_by d; came = came }

pub record StepsBits (s : BitSource) (piece : List ℕ) (r : BitStep) : Type 0 where
  pub decided : SyncStep
  pub feeds : FeedsSync s.sync piece (Ok decided)
  pub result : r ≡ record { source = bits_after s decided (s.came + decided.taken); taken = decided.taken; event = event_of (bits_found s.used decided) decided.skipped }

-- what every step leaves
pub record BitCounts (s : BitSource) (piece : List ℕ) (r : BitStep) : Type 0 where
  pub taken_most : r.taken ≤ length piece
  pub came_is : r.source.came ≡ s.came + r.taken
  pub rate_known : RateKnown r.event
  pub goes : 0 < length piece → 0 < r.taken

-- ---- the end

-- Where no block follows in more bits than one has, all of them are skipped.
abbrev pub bits_end : BitSource → SyncStep → Event → BitEnd
bits_end s d Waits = record { source = s; event = Waits; over = Some s.sync.held }
bits_end s d (Block b) = record { source = bits_after s d s.came; event = Block b; over = None }
bits_end s d Lost = record { source = record { sync = fresh_block_sync; used = s.used + s.sync.held; came = s.came }; event = Lost; over = None }

pub record EndsBits (s : BitSource) (r : BitEnd) : Type 0 where
  pub decided : SyncStep
  pub finishes : FinishesSync s.sync (Ok decided)
  pub result : r ≡ bits_end s decided (last_event (bits_found s.used decided) s.sync.held)

-- what every step of the end leaves
pub record BitEndCounts (s : BitSource) (r : BitEnd) : Type 0 where
  pub came_is : r.source.came ≡ s.came
  pub rate_known : RateKnown r.event
  pub left_few : IfSome r.over (λ left. left < 1632)
  pub goes : IsNone r.over → r.source.sync.held < s.sync.held
