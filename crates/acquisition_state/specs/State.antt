-- An acquisition as 11,466 bytes, those of a lock's state from byte 2,322 on, behind the receiver's. The layout is a table of fields, one after the other.
-- Clauses: EN 300 421, 4.4.2 and 4.4.3, note 1 (source document 002).
-- Assumes nothing.
use Rattle.std.specs.Prelude.{◌≡◌, Bool, true, false, not, List, [], ◌∷◌, ℕ, ◌+◌, ◌-◌, ◌*◌, ◌/◌, ◌%◌, ◌≤◌, ◌<◌, eqb, ltb, length, drop}
use Rattle.common.specs.Choice.{pick, indicator}
use Rattle.common.specs.Lists.{largest}
use Rattle.state_bytes.specs.Table.{Field, field, fields_of}
use Rattle.reception_counts.specs.Bytes.{to_bytes}
use Rattle.reader_state.specs.Runs.{runs_in_range, cleared_runs}
use Rattle.block_sync.specs.declared.BlockSync.{BlockSync}
use Rattle.acquisition.specs.declared.Reading.{Reading}
use Rattle.acquisition.specs.declared.Phase.{Phase}
use Rattle.acquisition.specs.declared.Phase.TheVariants.{Searches, Reads}
use Rattle.acquisition.specs.declared.Acquisition.{Acquisition}

-- ---- a number and two flags in a byte

-- the number's lowest three bits, the flags, and the number's other bits
abbrev pub flags_byte : ℕ → Bool → Bool → ℕ
flags_byte n a b = n % 8 + 8 * indicator a + 16 * indicator b + 32 * (n / 8)

abbrev pub plain_of : ℕ → ℕ
plain_of byte = byte % 8 + 8 * (byte / 32)

abbrev pub low_of : ℕ → Bool
low_of byte = eqb (byte / 8 % 2) 1

abbrev pub high_of : ℕ → Bool
high_of byte = eqb (byte / 16 % 2) 1

abbrev pub is_reading : Phase → Bool
is_reading Searches = false
is_reading Reads = true

abbrev pub phase_of : Bool → Phase
phase_of false = Searches
phase_of true = Reads

-- a number in two bytes, the low one first
abbrev pub two : ℕ → List ℕ
two n = n % 256 ∷ n / 256 ∷ []

-- ---- the table

-- the decisions on the symbols that are not read yet, one number for each, and zeros behind them
abbrev pub pending : Field Acquisition
pending = field 2322 1632 (λ a. a.pending)

-- those on the symbols that the runs of the reading hold, and zeros behind them
abbrev pub pairs : Field Acquisition
pairs = field 3954 1632 (λ a. a.reading.runs.held)

-- the bits in which blocks are looked for, each 0 or 1, and zeros behind them
abbrev pub bits : Field Acquisition
bits = field 5586 8168 (λ a. a.reading.sync.bits)

-- how many symbols are not read yet: 0 to 1632, and while it searches to 1631
abbrev pub held : Field Acquisition
held = field 13754 2 (λ a. two a.held)

-- how many the runs hold: below 1632, 1224, 1088, 978 or 932 by the rate
abbrev pub count : Field Acquisition
count = field 13756 2 (λ a. two a.reading.runs.count)

-- how many bits there are: 0 to 8167
abbrev pub gathered : Field Acquisition
gathered = field 13758 2 (λ a. two a.reading.sync.held)

-- how many symbols came in all: below 2 to the power 60
abbrev pub came : Field Acquisition
came = field 13760 8 (λ a. to_bytes 8 a.came)

-- how many came before the first that the reading reads: no more than came in all
abbrev pub first : Field Acquisition
first = field 13768 8 (λ a. to_bytes 8 a.reading.first)

-- how many bits the decisions on blocks used up: no more than the symbols gave
abbrev pub used : Field Acquisition
used = field 13776 8 (λ a. to_bytes 8 a.reading.used)

-- the rate that is searched, 0 to 5; 8 more where a reading at 5/6 takes the symbols for mirrored, and 16 more where it reads
abbrev pub searched : Field Acquisition
searched = field 13784 1 (λ a. flags_byte a.rate a.mirrored (is_reading a.phase) ∷ [])

-- the turn that the symbols came with, 0 to 7; 8 more where blocks are being given, and 16 more where their bits come inverted
abbrev pub turned : Field Acquisition
turned = field 13785 1 (λ a. flags_byte a.reading.turn a.reading.sync.lock.locked a.reading.sync.lock.inverted ∷ [])

-- the rate that is read: 0 to 4
abbrev pub rate : Field Acquisition
rate = field 13786 1 (λ a. a.reading.runs.rate ∷ [])

-- the coder's memory before the first symbol that the runs hold: 0 to 63
abbrev pub memory : Field Acquisition
memory = field 13787 1 (λ a. a.reading.runs.memory ∷ [])

abbrev pub layout : List (Field Acquisition)
layout = pending ∷ pairs ∷ bits ∷ held ∷ count ∷ gathered ∷ came ∷ first ∷ used ∷ searched ∷ turned ∷ rate ∷ memory ∷ []

abbrev pub field_bytes : Acquisition → List ℕ
field_bytes a = fields_of layout a

-- ---- ranges

-- what is not read yet, with zeros behind it: no more than came
abbrev pub pending_in_range : List ℕ → ℕ → ℕ → Bool
pending_in_range pending held came =
    pick (ltb held 1633) (pick (ltb came held) false (pick (eqb (largest (drop held pending)) 0) (ltb (largest pending) 81) false)) false

-- bits, with zeros behind them
abbrev pub bits_in_range : BlockSync → Bool
bits_in_range s = pick (ltb s.held 8168) (pick (eqb (largest (drop s.held s.bits)) 0) (ltb (largest s.bits) 2) false) false

-- The reading of the symbols that came: those that are pending and those that its runs hold are among them, and its bits are those of all others.
abbrev pub counts_in_range : Acquisition → Bool
counts_in_range a =
    pick (ltb a.came a.reading.first) false
    (pick (ltb a.reading.used 4611686018427387904) (not (ltb (2 * (a.came - a.reading.first) + 16) (a.reading.used + a.reading.sync.held + 2 * (a.held + a.reading.runs.count)))) false)

abbrev pub reading_in_range : Acquisition → Bool
reading_in_range a =
    pick (runs_in_range a.reading.runs) (pick (ltb a.reading.turn 8) (pick (bits_in_range a.reading.sync) (counts_in_range a) false) false) false

-- no reading: every byte of it is zero
abbrev pub runs_idle : Reading → Bool
runs_idle k =
    pick (eqb k.turn 0) (pick (eqb k.runs.rate 0) (pick (eqb k.runs.memory 0) (pick (eqb k.runs.count 0) (eqb (largest k.runs.held) 0) false) false) false) false

abbrev pub sync_idle : Reading → Bool
sync_idle k =
    pick k.sync.lock.locked false
    (pick k.sync.lock.inverted false
    (pick (eqb k.sync.held 0) (pick (eqb k.first 0) (pick (eqb k.used 0) (eqb (largest k.sync.bits) 0) false) false) false))

abbrev pub phase_in_range : Acquisition → Phase → Bool
phase_in_range a Searches = pick (ltb a.held 1632) (pick (runs_idle a.reading) (sync_idle a.reading) false) false
phase_in_range a Reads = reading_in_range a

-- the ranges that the acquisition asks for, and that no cell and no bit holds what nobody asks for
abbrev pub in_range : Acquisition → Bool
in_range a =
    pick (ltb a.rate 6) (pick (ltb a.came 1152921504606846976) (pick (pending_in_range a.pending a.held a.came) (phase_in_range a a.phase) false) false) false

-- ---- the same acquisition, with zeros where its runs hold nothing

abbrev pub cleared_reading : Reading → Reading
cleared_reading k = record { turn = k.turn; runs = cleared_runs k.runs; sync = k.sync; first = k.first; used = k.used }

abbrev pub cleared : Acquisition → Acquisition
cleared a = record { rate = a.rate; mirrored = a.mirrored; phase = a.phase; reading = cleared_reading a.reading; pending = a.pending; held = a.held; came = a.came }

-- what can be written: each number fits its bytes, and each array is as long as it is
pub record Writable (a : Acquisition) : Type 0 where
  pub searched_fits : a.rate < 64
  pub turn_fits : a.reading.turn < 64
  pub held_fits : a.held < 65536
  pub gathered_fits : a.reading.sync.held < 65536
  pub count_fits : a.reading.runs.count ≤ 1632
  pub pending_size : length a.pending ≡ 1632
  pub pairs_size : length a.reading.runs.held ≡ 1632
  pub bits_size : length a.reading.sync.bits ≡ 8168
