-- A sender's stream, cut at any symbol and turned on its way: where the reading of it begins, and which of its bits stand before the first block that is whole.
-- Clauses: EN 300 421, 4.4.1 to 4.4.3 (source document 002).
-- Assumes nothing.
use Rattle.std.specs.Prelude.{◌≡◌, Bool, ℕ, ◌+◌, ◌*◌, ◌/◌, ◌<◌, ltb, length, take, drop}
use mathlib.Core.List.{List, ◌++◌, map, flatten}
use Rattle.common.specs.Lists.{All}
use Rattle.convolutional_code.specs.Bits.{bits_of}
use Rattle.puncturing.specs.Step.{pattern_length}
use Rattle.inner_code.specs.Encode.{coder_at}
use Rattle.inner_code.specs.Step.{symbols_of}
use Rattle.reader.specs.Read.{symbols_per_pattern}
use Rattle.symbol_turns.specs.Turn.{turned, by_pair}
use Rattle.free_start.specs.Lead.{bits_of_lead}
use Rattle.node_search.specs.Sent.{AllPrefer, start_offset}
use Rattle.sent_blocks.specs.Blocks.{interleaved_blocks, sent_bytes}
use Rattle.block_sync.specs.Decision.{turned_bits}

-- The symbols of packets, as a fresh coder makes them of the sender's bytes: so many passed before the cut, and those that came, turned, are decided rightly.
pub record SentStream (rate turn passed : ℕ) (packets : List (List ℕ)) (received : List ℕ) : Type 0 where
  pub before : List ℕ
  pub came : List ℕ
  pub later : List ℕ
  pub stream : before ++ came ++ later ≡ symbols_of (coder_at rate 0) (bits_of (sent_bytes packets))
  pub cut : length before ≡ passed
  pub small : All (λ p. p < 81) received
  pub preferred : AllPrefer by_pair received (map (turned turn) came)

-- At 5/6, number 3, no inner decoder tells the mirror: a reading takes the symbols for mirrored where they are.
abbrev pub RightMirror : ℕ → ℕ → Bool → Type 0
RightMirror rate turn mirrored = rate ≡ 3 → mirrored ≡ ltb 3 turn

-- the sender's bit at which a reading begins: the first of the first whole pattern behind the cut
unfoldable pub first_bit : ℕ → ℕ → ℕ
first_bit rate passed = pattern_length rate * ((passed + start_offset rate passed) / symbols_per_pattern rate)

-- What a reading has before block b: the bits that it decided of the lead, and those of the sender's blocks before b from its first bit on, straight or inverted.
abbrev pub bits_before : ℕ → ℕ → Bool → ℕ → List (List ℕ) → List ℕ → List ℕ
bits_before rate passed inverted b packets bits =
    take (bits_of_lead rate) bits ++ turned_bits inverted (drop (first_bit rate passed) (bits_of (flatten (take b (interleaved_blocks packets)))))
