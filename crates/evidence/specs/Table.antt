-- The cases that document 01, "Both sides of each line", marks (p), and two for the 16QAM of document 02, P10: one table of rows, and what it is for a
-- row to hold.
-- Assumes nothing.
use Rattle.std.specs.Prelude.{◌≡◌, List, [], ◌∷◌, ◌++◌, ℕ, ◌+◌, ◌%◌, eqb, take, replicate}
use Rattle.common.specs.Choice.{pick}
use Rattle.common.specs.Lists.{list_of}
use Rattle.galois.specs.Field256.{mul}
use Rattle.reed_solomon.specs.Code.{Codeword}
use Rattle.reed_solomon.specs.Encode.{check_bytes}
use Rattle.randomizer.specs.Prbs as prbs
use Rattle.randomizer.specs.Packet.{randomized}
use Rattle.interleaver.specs.Block.{fresh, block_out}
use Rattle.interleaver.specs.declared.branches.Side.TheVariants.{Sending}
use Rattle.convolutional_code.specs.Bits.{bits_of}
use Rattle.puncturing.specs.Mode.{mode_of}
use Rattle.inner_code.specs.Stream.{symbols, stream_symbols}
use Rattle.inner_code.specs.Encode.{fresh_coder, block_coder}

-- a row: what a definition gives is what is wanted, or a block is no codeword
pub data Case : Type 0 where
  gives : (given wanted : List ℕ) → Case
  no_codeword : (block : List ℕ) → Case

abbrev pub Holds : Case → Type 0
Holds (gives given wanted) = given ≡ wanted
Holds (no_codeword block) = Codeword block → ⊥

-- 47 hex and 187 zeros
abbrev pub empty_packet : List ℕ
empty_packet = 0x47 ∷ replicate 187 0

-- 187 zeros and 01: as a polynomial, 1
abbrev pub unit : List ℕ
unit = replicate 187 0 ++ 0x01 ∷ []

-- the coefficients of g below x^16, from x^15 down
abbrev pub coefficients : List ℕ
coefficients = 0x3B ∷ 0x0D ∷ 0x68 ∷ 0xBD ∷ 0x44 ∷ 0xD1 ∷ 0x1E ∷ 0x08 ∷ 0xA3 ∷ 0x41 ∷ 0x29 ∷ 0xE5 ∷ 0x62 ∷ 0x32 ∷ 0x24 ∷ 0x3B ∷ []

-- the block of that message with its final byte made 00
abbrev pub damaged : List ℕ
damaged = unit ++ take 15 coefficients ++ 0x00 ∷ []

-- byte 80 hex into fresh memory, at a rate
abbrev pub streamed : ℕ → List ℕ
streamed rate = symbols (mode_of rate) (bits_of (0x80 ∷ []))

-- the bytes 1, 2, .. 204: none of them is 0
abbrev pub counting_bytes : List ℕ
counting_bytes = list_of 204 (λ n. n + 1)

abbrev pub cases : List Case
cases =
    -- the generator begins 03 F6 08 34
    gives (take 4 prbs.period) (0x03 ∷ 0xF6 ∷ 0x08 ∷ 0x34 ∷ [])
    -- 47 and 187 zeros at place 0 begin B8 03 F6 08 34; at place 1 the first byte stays 47
    ∷ gives (take 5 (randomized 0 empty_packet)) (0xB8 ∷ 0x03 ∷ 0xF6 ∷ 0x08 ∷ 0x34 ∷ [])
    ∷ gives (take 1 (randomized 1 empty_packet)) (0x47 ∷ [])
    -- 80 times 02 is 1D in the field
    ∷ gives (mul 0x80 0x02 ∷ []) (0x1D ∷ [])
    -- 188 zeros get 16 zeros; 187 zeros and 01 get the sixteen coefficients
    ∷ gives (check_bytes (replicate 188 0)) (replicate 16 0)
    ∷ gives (check_bytes unit) coefficients
    -- that last block with its final byte made 00 is no codeword
    ∷ no_codeword damaged
    -- byte 80 into fresh memory, at the five rates, the last by the coding that symbols are read by; rate 2 then holds I = 0, at place 2 of its pattern
    ∷ gives (streamed 0) (3 ∷ 2 ∷ 3 ∷ 3 ∷ 0 ∷ 1 ∷ 3 ∷ 0 ∷ [])
    ∷ gives (streamed 1) (3 ∷ 1 ∷ 3 ∷ 0 ∷ 3 ∷ 2 ∷ [])
    ∷ gives (streamed 2) (3 ∷ 1 ∷ 3 ∷ 0 ∷ 3 ∷ [])
    ∷ gives ((block_coder (fresh_coder 2) (0x80 ∷ [])).held ∷ (block_coder (fresh_coder 2) (0x80 ∷ [])).place ∷ []) (0 ∷ 2 ∷ [])
    ∷ gives (streamed 3) (3 ∷ 1 ∷ 2 ∷ 1 ∷ 2 ∷ [])
    ∷ gives (streamed 4) (3 ∷ 1 ∷ 2 ∷ 3 ∷ 0 ∷ [])
    -- 16QAM 3/4, from tables 3 and 4 of EN 301 210 by hand. Bytes 80 C6 39 into fresh memory: Y and X of byte 80, as at rate 1/2, beside the pairs
    -- 11 00 01 10 of C6 and 00 11 10 01 of 39.
    ∷ gives (stream_symbols (mode_of 5) (0x80 ∷ 0xC6 ∷ 0x39 ∷ [])) (15 ∷ 1 ∷ 7 ∷ 11 ∷ 0 ∷ 14 ∷ 11 ∷ 4 ∷ [])
    -- 01 and five zeros: the last bit of 01 runs on in the memory into the next three bytes
    ∷ gives (stream_symbols (mode_of 5) (0x01 ∷ replicate 5 0)) (replicate 7 0 ++ 3 ∷ 1 ∷ 3 ∷ 3 ∷ 0 ∷ 2 ∷ 3 ∷ 0 ∷ 0 ∷ [])
    -- the first block from fresh branches keeps 17 bytes, places 0, 12 .. 192, and zeros elsewhere
    ∷ gives (block_out Sending fresh counting_bytes) (list_of 204 (λ n. pick (eqb (n % 12) 0) (n + 1) 0))
    ∷ []
