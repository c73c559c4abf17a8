-- What is decided of decoded bits: whether a block stands at their front, how many are skipped before one, and whether its bits are inverted.
-- Clauses: EN 300 421, 4.4.1 to 4.4.3 (source document 002): the sync byte of every eighth packet is inverted, the sync bytes keep their period of 204
-- bytes in the interleaved stream, and tell a half turn of the carrier, which inverts every bit.
-- Assumes nothing.
use Rattle.std.specs.Prelude.{◌≡◌, Bool, true, false, List, map, ℕ, ◌+◌, ◌-◌, ◌%◌, eqb, ltb, length, take, drop, Option, Some, None, is_some, option_map}
use Rattle.common.specs.Choice.{pick}
use Rattle.bit_packing.specs.Packing.{packed_bytes}
use Rattle.sync_search.specs.Sync.{byte_at, is_at, FirstSync}
use Rattle.block_sync.specs.declared.Lock.{Lock}
use Rattle.block_sync.specs.declared.Decision.{Decision}
use Rattle.block_sync.specs.declared.GivenBlock.{GivenBlock}

-- 47 or B8 at a place, straight or inverted
unfoldable pub is_sync : List ℕ → ℕ → Bool
is_sync l at = pick (eqb (byte_at l at) 0x47) true (eqb (byte_at l at) 0xB8)

unfoldable pub sync_or_end : List ℕ → ℕ → Bool
unfolding is_sync
sync_or_end l at = pick (ltb (length l) (at + 8)) true (is_sync l at)

-- one of the next four blocks begins with a sync byte, as far as there are bits: else the lock is lost
unfoldable pub in_a_step : List ℕ → Bool
unfolding sync_or_end
in_a_step l = pick (sync_or_end l 0) true (pick (sync_or_end l 1632) true (pick (sync_or_end l 3264) true (sync_or_end l 4896)))

-- how many of the first bytes of three blocks are a value
unfoldable pub three_at : List ℕ → ℕ → ℕ → ℕ
unfolding is_at
three_at l value at = is_at l value at + is_at l value (at + 1632) + is_at l value (at + 3264)

-- inverted where two of three sync bytes are B8; as before where the three are not all sync bytes, or not all there
unfoldable pub polarity_at : List ℕ → ℕ → Bool → Bool
unfolding three_at
polarity_at l at before =
    pick (ltb (length l) (at + 3272)) before (pick (eqb (three_at l 0x47 at + three_at l 0xB8 at) 3) (ltb 1 (three_at l 0xB8 at)) before)

-- the block at the front follows the one before it
unfoldable pub keeps : Lock → List ℕ → Bool
unfolding in_a_step
keeps k l = pick k.locked (pick (ltb (length l) 1632) false (in_a_step l)) false

abbrev pub locked_as : Bool → Lock
locked_as inverted = record { locked = true; inverted = inverted }

abbrev pub unlocked : Lock
unlocked = record { locked = false; inverted = false }

-- The block at the front follows; or the first place with five sync bytes a block apart is searched for, and the block there begins anew; or there is no
-- such place, and all places that were searched are skipped.
pub data Decides (k : Lock) (l : List ℕ) (d : Decision) : Type 0 where
  follows : keeps k l ≡ true → d ≡ record { skipped = 0; begins = Some false; lock = locked_as (polarity_at l 0 k.inverted) } → Decides k l d
  begins : (at : ℕ) → keeps k l ≡ false → FirstSync l 0 (Some at) → d ≡ record { skipped = at; begins = Some true; lock = locked_as (polarity_at l at false) }
      → Decides k l d
  searches : keeps k l ≡ false → FirstSync l 0 None → d ≡ record { skipped = length l - 6535; begins = None; lock = unlocked } → Decides k l d

-- ---- what it gives

-- a bit, inverted or not
abbrev pub turned_bit : Bool → ℕ → ℕ
turned_bit inverted b = pick inverted (1 - b % 2) (b % 2)

unfoldable pub turned_bits : Bool → List ℕ → List ℕ
turned_bits inverted l = map (turned_bit inverted) l

-- the bytes of a block's bits
unfoldable pub block_of : Bool → List ℕ → List ℕ
unfolding turned_bits
block_of inverted l = packed_bytes (turned_bits inverted l)

abbrev pub used_bits : Decision → ℕ
used_bits d = d.skipped + pick (is_some d.begins) 1632 0

-- the block behind the bits that are skipped, if one is given
abbrev pub block_given : Decision → List ℕ → Option GivenBlock
block_given d l = option_map (λ b. record { begins = b; bytes = block_of d.lock.inverted (take 1632 (drop d.skipped l)) }) d.begins
