-- Modes of the inner code: which bits of the bytes are coded, and which coded bits and which others make up each symbol.
-- Assumes nothing.
use Rattle.std.specs.Prelude.{Bool, true, false, List, [], ◌∷◌, ◌++◌, ℕ, ◌+◌, ◌*◌, ◌/◌, ltb, leb, eqb, length, get_or}
use Rattle.common.specs.Choice.{pick}

-- X or Y of one bit of a pattern, whose first bit is bit 1
pub data CodedBit : Type 0 where
  X : ℕ → CodedBit
  Y : ℕ → CodedBit

-- the bit of the pattern that a coded bit belongs to
abbrev pub bit_of : CodedBit → ℕ
bit_of (X j) = j
bit_of (Y j) = j

-- a bit of a group of bytes A, B, D, by its index: 7 is the top bit of a byte
pub data InputBit : Type 0 where
  A : ℕ → InputBit
  B : ℕ → InputBit
  D : ℕ → InputBit

-- a column of EN 301 210, table 3: the bit that is coded, E1, and those beside it that are not, NE1, NE2 and so on
pub record Column : Type 0 where
  pub e : InputBit
  pub ne : List InputBit

-- A mode, as tables 3 and 4 of EN 301 210 define it. Table 3: the bytes of a group, and its columns, the first one first. Table 4: how many bits of
-- the encoded branch a pattern has, and its symbols in the order in which they are sent. Of each symbol there are the coded bits C, the one that
-- counts most first, and, where a mode has bits that are not coded, those too, U, by their numbers in the column. The first column of our own table
-- is whether the mode is sent.
pub record Mode : Type 0 where
  pub sent : Bool
  pub group : ℕ
  pub columns : List Column
  pub bits : ℕ
  pub symbols : List (List CodedBit)
  pub uncoded : List (List ℕ)

-- a QPSK symbol: I and Q. Its number is 2 I + Q.
abbrev pub iq : CodedBit → CodedBit → List CodedBit
iq i q = i ∷ q ∷ []

-- a QPSK mode: a group is one byte, and every bit is coded, top bit first
abbrev pub alone : InputBit → Column
alone b = record { e = b; ne = [] }

abbrev pub qpsk : Bool → ℕ → List (List CodedBit) → Mode
qpsk sent bits symbols = record {
  sent = sent;
  group = 1;
  columns = alone (A 7) ∷ alone (A 6) ∷ alone (A 5) ∷ alone (A 4) ∷ alone (A 3) ∷ alone (A 2) ∷ alone (A 1) ∷ alone (A 0) ∷ [];
  bits = bits;
  symbols = symbols;
  uncoded = [];
}

-- a column with E1, NE2 and NE1
abbrev pub beside : InputBit → InputBit → InputBit → Column
beside e ne2 ne1 = record { e = e; ne = ne1 ∷ ne2 ∷ [] }

-- EN 301 210, tables 3 and 4, 16QAM 3/4: U2 is NE2, U1 is NE1, C2 is Y1 and C1 is X1; the number is 8 U2 + 4 U1 + 2 C2 + C1
abbrev pub sixteen_qam : Mode
sixteen_qam = record {
  sent = true;
  group = 3;
  columns =
      beside (A 7) (B 7) (B 6) ∷ beside (A 6) (B 5) (B 4) ∷ beside (A 5) (B 3) (B 2) ∷ beside (A 4) (B 1) (B 0)
      ∷ beside (A 3) (D 7) (D 6) ∷ beside (A 2) (D 5) (D 4) ∷ beside (A 1) (D 3) (D 2) ∷ beside (A 0) (D 1) (D 0) ∷ [];
  bits = 1;
  symbols = (Y 1 ∷ X 1 ∷ []) ∷ [];
  uncoded = (2 ∷ 1 ∷ []) ∷ [];
}

-- EN 300 421, 4.4.3, table 2, as document 01, "Inner code", writes it: rates 1/2, 2/3, 3/4, 5/6 and 7/8; then EN 301 210, 16QAM 3/4. Document 02,
-- P12: 7/8 is no longer sent. Recorded symbols are read at all five rates.
unfoldable pub modes : List Mode
modes =
    qpsk true 1 (iq (X 1) (Y 1) ∷ [])
    ∷ qpsk true 4 (iq (X 1) (Y 1) ∷ iq (Y 2) (X 3) ∷ iq (Y 3) (Y 4) ∷ [])
    ∷ qpsk true 3 (iq (X 1) (Y 1) ∷ iq (Y 2) (X 3) ∷ [])
    ∷ qpsk true 5 (iq (X 1) (Y 1) ∷ iq (Y 2) (X 3) ∷ iq (Y 4) (X 5) ∷ [])
    ∷ qpsk false 7 (iq (X 1) (Y 1) ∷ iq (Y 2) (Y 3) ∷ iq (Y 4) (X 5) ∷ iq (Y 6) (X 7) ∷ [])
    ∷ sixteen_qam
    ∷ []

-- how many modes there are, and how many of them, the first ones, are QPSK; no pattern has more bits than the longest
abbrev pub mode_count : ℕ
mode_count = 6

abbrev pub qpsk_count : ℕ
qpsk_count = 5

abbrev pub longest_pattern : ℕ
longest_pattern = 7

-- the mode of a number; of a number that is no mode, one without symbols, which is not sent
abbrev pub no_mode : Mode
no_mode = record { sent = false; group = 0; columns = []; bits = 0; symbols = []; uncoded = [] }

unfoldable pub mode_of : ℕ → Mode
unfolding modes
mode_of rate = get_or modes rate no_mode

-- how many bits of a block of 204 bytes are coded
unfoldable pub block_bits_by : Mode → ℕ
block_bits_by m = 204 / m.group * length m.columns

abbrev pub block_bits : ℕ → ℕ
block_bits rate = block_bits_by (mode_of rate)

-- the first and the last bit of the pattern that a symbol is made of
abbrev pub earliest : List CodedBit → ℕ
earliest [] = 0
earliest (a ∷ []) = bit_of a
earliest (a ∷ b ∷ r) = pick (ltb (bit_of a) (earliest (b ∷ r))) (bit_of a) (earliest (b ∷ r))

abbrev pub latest : List CodedBit → ℕ
latest [] = 0
latest (a ∷ r) = pick (ltb (bit_of a) (latest r)) (latest r) (bit_of a)

-- those of a list of symbols that pass a test
abbrev pub those : (List CodedBit → Bool) → List (List CodedBit) → List (List CodedBit)
those f [] = []
those f (s ∷ ss) = pick (f s) (s ∷ []) [] ++ those f ss

-- the symbols of a mode that bit i of the pattern completes
abbrev pub completed : Mode → ℕ → List (List CodedBit)
completed m i = those (λ s. eqb (latest s) i) m.symbols

-- the symbols of a mode that have begun when i bits of the pattern have been coded, and are not complete: their I is held
abbrev pub begun : Mode → ℕ → List (List CodedBit)
begun m i = those (λ s. pick (leb (earliest s) i) (ltb i (latest s)) false) m.symbols

-- the number whose binary digits these are, the first one counting most
abbrev pub digits : ℕ → List ℕ → ℕ
digits n [] = n
digits n (b ∷ r) = digits (2 * n + b) r

abbrev pub binary : List ℕ → ℕ
binary [] = 0
binary (b ∷ r) = digits b r
