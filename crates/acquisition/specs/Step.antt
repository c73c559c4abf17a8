-- One step of acquisition: what it makes of the symbols that are pending and of a piece. docs/ACQUISITION.md has the same in words.
-- Clauses: EN 300 421, 4.4.2 and 4.4.3, note 1 (source document 002).
-- Assumes nothing.
use Rattle.std.specs.Prelude.{◌≡◌, Bool, true, false, not, List, [], ◌++◌, ℕ, ◌+◌, ◌-◌, ◌*◌, ◌<◌, ◌≤◌, eqb, ltb, length, take, drop}
use Rattle.common.specs.Choice.{pick}
use Rattle.common.specs.Lists.{All, padded}
use Rattle.node_search.specs.Hypotheses.{searched}
use Rattle.node_search.specs.Search.{Searches as Search·searches}
use Rattle.node_search.specs.declared.Hypothesis.{Hypothesis}
use Rattle.node_search.specs.declared.Search.{Search}
use Rattle.node_search.specs.declared.Search.TheVariants.{Found, Nothing, Several}
use Rattle.acquisition.specs.Reading.{idle_reading, Begins, ReadsSymbols, ReadingReady, RateKnown}
use Rattle.acquisition.specs.declared.Reading.{Reading}
use Rattle.acquisition.specs.declared.Phase.{Phase}
use Rattle.acquisition.specs.declared.Phase.TheVariants.{Searches, Reads}
use Rattle.acquisition.specs.declared.Acquisition.{Acquisition}
use Rattle.acquisition.specs.declared.ReadStep.{ReadStep}
use Rattle.acquisition.specs.declared.Step.{Step}
use Rattle.acquisition.specs.declared.Event.{Event}
use Rattle.acquisition.specs.declared.Event.TheVariants.{Waits, Block, Lost}

-- the symbols that are not read yet
abbrev pub pending_of : Acquisition → List ℕ
pending_of s = take s.held s.pending

-- searching, with these symbols pending
abbrev pub searching_on : ℕ → Bool → List ℕ → ℕ → Acquisition
searching_on rate mirrored pending came =
    record { rate = rate; mirrored = mirrored; phase = Searches; reading = idle_reading; pending = padded 1632 pending; held = length pending; came = came }

-- reading, with these symbols pending
abbrev pub reading_on : ℕ → Bool → Reading → List ℕ → ℕ → Acquisition
reading_on rate mirrored k pending came =
    record { rate = rate; mirrored = mirrored; phase = Reads; reading = k; pending = padded 1632 pending; held = length pending; came = came }

unfoldable pub fresh_acquisition : ℕ → Acquisition
fresh_acquisition rate = searching_on rate false [] 0

-- a step that found no block
abbrev pub waiting : Acquisition → ℕ → Step
waiting s taken = record { acquisition = s; taken = taken; event = Waits }

-- ---- ranges

-- A reading of the symbols that came: those that are pending and those that its runs hold are among them, and its bits are those of all others.
pub record ReadingOf (s : Acquisition) : Type 0 where
  pub ready : ReadingReady s.reading
  pub first_came : s.reading.first ≤ s.came
  pub bits_counted : s.reading.used + s.reading.sync.held + 2 * (s.held + s.reading.runs.count) ≤ 2 * (s.came - s.reading.first) + 16

-- While it searches, the window is not full, and there is no reading.
pub record SearchReady (s : Acquisition) : Type 0 where
  pub searched_known : s.rate < 6
  pub window_size : length s.pending ≡ 1632
  pub window_few : s.held < 1632
  pub window_small : All (λ p. p < 81) (pending_of s)
  pub window_came : s.held ≤ s.came

pub record ReadReady (s : Acquisition) : Type 0 where
  pub read_known : s.rate < 6
  pub pending_size : length s.pending ≡ 1632
  pub pending_few : s.held ≤ 1632
  pub pending_small : All (λ p. p < 81) (pending_of s)
  pub pending_came : s.held ≤ s.came
  pub reading_of : ReadingOf s

abbrev pub PhaseReady : Acquisition → Phase → Type 0
PhaseReady s Searches = SearchReady s
PhaseReady s Reads = ReadReady s

pub record AcquisitionReady (s : Acquisition) : Type 0 where
  pub counts : s.came < 1152921504606846976
  pub phase_ready : PhaseReady s s.phase

-- ---- the search

-- A reading begins at the offset that was found. Where nothing or several were found, the window is skipped.
pub data AfterSearch (rate : ℕ) (mirrored : Bool) (came : ℕ) (window : List ℕ) : Search → Acquisition → Type 0 where
  found : (h : Hypothesis) (k : Reading) → Begins h mirrored (came - 1632 + h.offset) k
      → AfterSearch rate mirrored came window (Found h) (reading_on rate mirrored k (drop h.offset window) came)
  nothing : AfterSearch rate mirrored came window Nothing (searching_on rate mirrored [] came)
  several : AfterSearch rate mirrored came window Several (searching_on rate mirrored [] came)

abbrev pub window_of : Acquisition → List ℕ → List ℕ
window_of s piece = pending_of s ++ take (1632 - s.held) piece

-- The window has come.
pub record SearchesWindow (s : Acquisition) (piece : List ℕ) (r : Step) : Type 0 where
  pub search : Search
  pub searches : Search·searches (window_of s piece) (searched s.rate) search
  pub next : Acquisition
  pub after : AfterSearch s.rate s.mirrored (s.came + (1632 - s.held)) (window_of s piece) search next
  pub result : r ≡ waiting next (1632 - s.held)

-- The symbols are gathered; where they fill the window, it is searched.
pub data SearchesOn (s : Acquisition) (piece : List ℕ) (r : Step) : Type 0 where
  gathers : s.held + length piece < 1632
      → r ≡ waiting (searching_on s.rate s.mirrored (pending_of s ++ piece) (s.came + length piece)) (length piece)
      → SearchesOn s piece r
  fills : 1632 ≤ s.held + length piece → SearchesWindow s piece r → SearchesOn s piece r

-- ---- a reading

-- A decision that gives no block ends the reading where the one before it gave none either.
abbrev pub ends_reading : Bool → ℕ → Bool
ends_reading locked used = pick locked false (ltb 0 used)

-- A reading of two decisions gave no block: one without a block uses up 1,633 bits. The next reading at 5/6 then takes the symbols for mirrored, or no longer.
abbrev pub mirrored_next : Bool → ℕ → Bool
mirrored_next mirrored used = pick (eqb used 1633) (not mirrored) mirrored

-- A reading that is over leaves the symbols that it did not read to the search.
abbrev pub lost_reading : Acquisition → Reading → List ℕ → ℕ → Bool → Acquisition
lost_reading s k pending came true = searching_on s.rate (mirrored_next s.mirrored s.reading.used) pending came
lost_reading s k pending came false = reading_on s.rate s.mirrored k pending came

abbrev pub after_reading : Acquisition → ReadStep → List ℕ → ℕ → Event → Acquisition
after_reading s t pending came Waits = reading_on s.rate s.mirrored t.reading pending came
after_reading s t pending came (Block b) = reading_on s.rate s.mirrored t.reading pending came
after_reading s t pending came Lost = lost_reading s t.reading pending came (ends_reading s.reading.sync.lock.locked s.reading.used)

pub record ReadsPending (s : Acquisition) (r : Step) : Type 0 where
  pub read : ReadStep
  pub reads : ReadsSymbols s.reading (pending_of s) read
  pub result : r ≡ record { acquisition = after_reading s read (drop read.taken (pending_of s)) s.came read.event; taken = 0; event = read.event }

pub record ReadsPiece (s : Acquisition) (piece : List ℕ) (r : Step) : Type 0 where
  pub read : ReadStep
  pub reads : ReadsSymbols s.reading (take 1632 piece) read
  pub result : r ≡ record { acquisition = after_reading s read [] (s.came + read.taken) read.event; taken = read.taken; event = read.event }

-- ---- a step

pub data StepsAcquisition (s : Acquisition) (piece : List ℕ) (r : Step) : Type 0 where
  hunts : s.phase ≡ Searches → SearchesOn s piece r → StepsAcquisition s piece r
  drains : s.phase ≡ Reads → 0 < s.held → ReadsPending s r → StepsAcquisition s piece r
  reads : s.phase ≡ Reads → s.held ≡ 0 → ReadsPiece s piece r → StepsAcquisition s piece r

-- what every step leaves, where the piece has symbols: some are taken, or fewer are pending
pub record StepCounts (s : Acquisition) (piece : List ℕ) (r : Step) : Type 0 where
  pub taken_most : r.taken ≤ length piece
  pub came_is : r.acquisition.came ≡ s.came + r.taken
  pub rate_known : RateKnown r.event
  pub goes : 0 < length piece → r.taken ≡ 0 → r.acquisition.held < s.held
