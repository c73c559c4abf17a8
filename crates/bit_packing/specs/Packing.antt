-- Bits packed into bytes, the first on top: of a whole list, and of a list that comes in pieces.
-- Clauses: document 01, "Inner code".
-- Assumes nothing.
use Rattle.std.specs.Prelude.{◌≡◌, List, [], ◌∷◌, ◌++◌, map, ℕ, ◌+◌, ◌-◌, ◌*◌, ◌/◌, ◌<◌, length, get_or, drop}
use Rattle.common.specs.Lists.{chunks_of, rest_of}
use Rattle.convolutional_code.specs.Bits.{bits_of}

-- eight bits as a byte, the first of them on top
abbrev pub byte_of : List ℕ → ℕ
byte_of bits =
    128 * get_or bits 0 0 + 64 * get_or bits 1 0 + 32 * get_or bits 2 0 + 16 * get_or bits 3 0 + 8 * get_or bits 4 0 + 4 * get_or bits 5 0 + 2 * get_or bits 6 0 + get_or bits 7 0

-- the bytes of a list of bits; bits at its end that fill no byte are in none
unfoldable pub packed_bytes : List ℕ → List ℕ
packed_bytes bits = map byte_of (chunks_of 8 bits)

-- ---- in pieces

-- the bits that are carried as a byte: the last n of its eight, the top one first
unfoldable pub carried_bits : ℕ → ℕ → List ℕ
unfolding bits_of
carried_bits carry n = drop (8 - n) (bits_of (carry ∷ []))

-- What packing the bits that were carried and then those of a piece gives: the bytes of them all, at the front of the output and with all behind them
-- as it was, and the bits after the last whole byte are carried.
pub record Packs (carried piece output : List ℕ) (carry held count : ℕ) (exit : List ℕ) : Type 0 where
  pub counted : count ≡ length (carried ++ piece) / 8
  pub written : exit ≡ packed_bytes (carried ++ piece) ++ drop count output
  pub few : held < 8
  pub carries : carried_bits carry held ≡ rest_of 8 (carried ++ piece)
