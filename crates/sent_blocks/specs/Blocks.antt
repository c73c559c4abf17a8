-- The blocks of a whole list of transport packets, as they go to the inner code.
-- Clauses: EN 300 421, 4.4.1; EN 300 421, 4.4.2.
-- Assumes nothing.
use mathlib.Core.List.{List, map, flatten}
use Rattle.std.specs.Prelude.{ℕ}
use Rattle.reed_solomon.specs.Encode.{encoded}
use Rattle.randomizer.specs.Stream.{randomized_stream}
use Rattle.interleaver.specs.Stream.{interleaved}

-- transport multiplex adaptation and randomization for energy dispersal, in groups of eight packets from the first one on (4.4.1); each randomized
-- packet is coded by RS(204,188) (4.4.2)
abbrev pub coded_blocks : List (List ℕ) → List (List ℕ)
coded_blocks packets = map encoded (randomized_stream packets)

-- the blocks go through the convolutional interleaver, whose branches hold zeros at first (4.4.2)
abbrev pub interleaved_blocks : List (List ℕ) → List (List ℕ)
interleaved_blocks packets = interleaved (coded_blocks packets)

-- their bytes, one block after the other
abbrev pub sent_bytes : List (List ℕ) → List ℕ
sent_bytes packets = flatten (interleaved_blocks packets)
