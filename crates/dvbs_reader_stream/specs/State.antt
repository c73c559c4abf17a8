-- The state of a reader as 1,638 bytes. The layout is a table of fields, and the bytes of a reader are its fields one after the other.
-- Clauses: document 02, P1 and P8.
-- Assumes nothing.
use Rattle.std.specs.Prelude.{Bool, false, List, [], ◌∷◌, ℕ, ◌%◌, ◌/◌, ltb, get_or}
use Rattle.common.specs.Choice.{pick}
use Rattle.common.specs.Lists.{padded}
use Rattle.state_bytes.specs.Table as table
use Rattle.state_bytes.specs.Table.{Field, field, fields_of}
use Rattle.reader_state.specs.Runs.{runs_in_range, cleared_runs}
use Rattle.reader_stream.specs.declared.ReaderStream.{ReaderStream}

-- ---- the table

-- The decisions on the symbols that are held, one number for each: 9 times that on I and that on Q. A decision is the level of a number, 0 to 7, or 8 where
-- nothing is known of it; that of a bit which is sure is 4 for 0, and 3 for 1. Zeros behind them.
abbrev pub pairs : Field ReaderStream
pairs = field 0 1632 (λ s. s.runs.held)

-- how many there are, the low byte first: below the symbols of a longest run, 1632, 1224, 1088, 978 or 932 by the rate
abbrev pub count : Field ReaderStream
count = field 1632 2 (λ s. s.runs.count % 256 ∷ s.runs.count / 256 ∷ [])

-- the rate: 0 to 4
abbrev pub rate : Field ReaderStream
rate = field 1634 1 (λ s. s.runs.rate ∷ [])

-- the coder's memory before the first of them, its last six bits: 0 to 63
abbrev pub memory : Field ReaderStream
memory = field 1635 1 (λ s. s.runs.memory ∷ [])

-- the bits that fill no byte yet, the newest counting 1, and zeros above them
abbrev pub carry : Field ReaderStream
carry = field 1636 1 (λ s. s.carry ∷ [])

-- how many they are: 0 to 7
abbrev pub held : Field ReaderStream
held = field 1637 1 (λ s. s.held ∷ [])

abbrev pub layout : List (Field ReaderStream)
layout = pairs ∷ count ∷ rate ∷ memory ∷ carry ∷ held ∷ []

abbrev pub state_length : ℕ
state_length = 1638

-- ---- which bytes stand for a reader

-- so many bits, as a number, are below it
unfoldable pub power_of : ℕ → ℕ
power_of bits = get_or (1 ∷ 2 ∷ 4 ∷ 8 ∷ 16 ∷ 32 ∷ 64 ∷ 128 ∷ []) bits 0

-- the runs (reader_state/specs/Runs.antt), and the bits that are held, with zeros above them: no bit is spare
abbrev pub in_range : ReaderStream → Bool
in_range s = pick (runs_in_range s.runs) (pick (ltb s.held 8) (ltb s.carry (power_of s.held)) false) false

abbrev pub state_bytes : ReaderStream → List ℕ
state_bytes s = fields_of layout s

abbrev pub StandsFor : List ℕ → ReaderStream → Type 0
StandsFor bytes s = table.StandsFor layout in_range bytes s

-- ---- readers with zeros where nothing is held

-- the same reader: the stream reader says nothing of cells and bits that hold nothing
abbrev pub cleared : ReaderStream → ReaderStream
cleared s = record {
  runs = cleared_runs s.runs;
  carry = s.carry % power_of s.held;
  held = s.held;
}

-- one to which nothing has come
unfoldable pub fresh_reader : ℕ → ReaderStream
fresh_reader rate = record { runs = record { rate = rate; memory = 0; held = padded 1632 []; count = 0 }; carry = 0; held = 0 }
