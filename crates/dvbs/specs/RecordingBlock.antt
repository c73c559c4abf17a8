-- What the exported decoding of one recorded block gives: the answer's number, the output, and what was changed in two lent bytes.
-- Clause: document 02, P5.
-- Assumes nothing.
use Rattle.std.specs.Prelude.{◌≡◌, List, [], ℕ, ◌≤◌, ◌<◌, length}
use Rattle.answer.specs.Number.{answered}
use Rattle.reed_solomon.specs.Decode.{Decoded}
use Rattle.recording.specs.Block.{block_refusal, GivesBlock}
use Rattle.dvbs.specs.Decode.{count_after}

-- Where fewer than two bytes are lent for the counts, the call is refused as one with no room at all. Else it is that of
-- `decoded_block`, and where the answer is 0 the numbers of changed bytes and bits go into the first two bytes.
pub data RecordingBlockExported (bytes : List ℕ) (blocks p : ℕ) (output exit count after : List ℕ) (number : ℕ) : Type 0 where
  no_count : length count < 2 → number ≡ block_refusal bytes blocks p [] → exit ≡ output → after ≡ count
      → RecordingBlockExported bytes blocks p output exit count after number
  called : 2 ≤ length count → (r : Decoded) → GivesBlock bytes blocks p output r exit → number ≡ answered r
      → after ≡ count_after r count → RecordingBlockExported bytes blocks p output exit count after number
