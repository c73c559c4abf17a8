-- One byte more is too many: bursts on one stream, as a table of rows, and what it is for a row to hold.
-- Clause: document 02, P9.
-- Assumes nothing.
use Rattle.std.specs.Prelude.{◌≡◌, List, [], ◌∷◌, ℕ, ◌+◌, eqb, length, get_or, replicate}
use Rattle.common.specs.Choice.{pick}
use Rattle.common.specs.Lists.{All, Length, list_of}
use Rattle.receiver.specs.Receive.{fresh_receiver}
use Rattle.receiver.specs.Run.{Call, DecodedCalls, lent_blocks, Plain, OutputFits}
use Rattle.receiver.specs.Begun.{lefts}
use Rattle.sent_blocks.specs.Blocks.{coded_blocks, sent_bytes}
use Rattle.link.specs.Places.{inside}
use Rattle.link.specs.Burst.{received_bytes, wrong_in}

-- forty packets of 47 hex and 187 zeros
abbrev pub packets : List (List ℕ)
packets = replicate 40 (0x47 ∷ replicate 187 0)

-- a byte that is not the one given
abbrev pub byte_other : ℕ → ℕ
byte_other x = pick (eqb x 0) 1 0

-- `many` bytes from byte `start` on are wrong, and no others
unfoldable pub harmed : ℕ → ℕ → List ℕ → List ℕ
unfolding list_of
harmed start many sent = list_of (length sent) (λ i. pick (inside start many i) (byte_other (get_or sent i 0)) (get_or sent i 0))

-- a row: a burst makes so many bytes of a block wrong; or the block is then not corrected to what was sent
pub data BurstCase : Type 0 where
  puts : (start many block wrong : ℕ) → BurstCase
  not_corrected : (start many block : ℕ) → BurstCase

abbrev pub Holds : BurstCase → Type 0
Holds (puts start many block wrong) = wrong_in (sent_bytes packets) (harmed start many (sent_bytes packets)) block ≡ wrong
Holds (not_corrected start many block) =
    (cs : List Call) → All (Length 204) (lent_blocks cs) → received_bytes cs ≡ harmed start many (sent_bytes packets) → All Plain cs → All OutputFits cs
    → DecodedCalls fresh_receiver cs → get_or (lefts cs) (block + 11) [] ≡ get_or (coded_blocks packets) block [] → ⊥

abbrev pub cases : List BurstCase
cases =
    -- 96 bytes from the first byte of block 20 on: eight wrong bytes in it
    puts 4080 96 20 8
    -- 97 bytes: nine, and it is not corrected to what was sent
    ∷ puts 4080 97 20 9
    ∷ not_corrected 4080 97 20
    ∷ []
