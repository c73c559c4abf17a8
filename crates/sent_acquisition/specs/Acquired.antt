-- A history of steps of acquisition, and the readings that it is made of: each began in a window in which the search found a hypothesis.
-- Clauses: EN 300 421, 4.4.2 and 4.4.3, note 1 (source document 002).
-- Assumes nothing.
use Rattle.std.specs.Prelude.{◌≡◌, Bool, List, [], ◌++◌, ℕ, ◌+◌, ◌≤◌, length, take, drop}
use Rattle.node_search.specs.Hypotheses.{searched}
use Rattle.node_search.specs.Search.{Searches}
use Rattle.node_search.specs.declared.Hypothesis.{Hypothesis}
use Rattle.node_search.specs.declared.Search.TheVariants.{Found}
use Rattle.block_sync.specs.declared.GivenBlock.{GivenBlock}
use Rattle.acquisition.specs.Reading.{ReadsSymbols}
use Rattle.acquisition.specs.Step.{searching_on, reading_on, fresh_acquisition, ends_reading, AcquisitionReady, StepsAcquisition}
use Rattle.acquisition.specs.declared.Event.TheVariants.{Lost}
use Rattle.acquisition.specs.declared.Reading.{Reading}
use Rattle.acquisition.specs.declared.Acquisition.{Acquisition}
use Rattle.acquisition.specs.declared.Step.{Step}
use Rattle.sent_acquisition.specs.Readings.{block_in, ReadingFeedings}

-- A history of steps from a fresh value on, each with the value that the one before it left, by their promises: the symbols that were taken and the blocks that
-- were found, one after the other.
pub data AcquisitionSteps (asked : ℕ) : List ℕ → List GivenBlock → Acquisition → Type 0 where
  fresh : AcquisitionSteps asked [] [] (fresh_acquisition asked)
  step : {symbols : List ℕ} {given : List GivenBlock} {s : Acquisition} (piece : List ℕ) (r : Step) → AcquisitionSteps asked symbols given s → AcquisitionReady s → StepsAcquisition s piece r
      → AcquisitionSteps asked (symbols ++ take r.taken piece) (given ++ block_in r.event) r.acquisition

-- A reading of some of the symbols that came: in 1,632 of them the search found a hypothesis, and from its offset on the reading took them one after the other.
pub record ReadingOfThese (asked : ℕ) (symbols : List ℕ) (given : List GivenBlock) (mirrored : Bool) (k : Reading) (unread : List ℕ) : Type 0 where
  pub before : List ℕ
  pub received : List ℕ
  pub split : before ++ received ≡ symbols
  pub enough : 1632 ≤ length received
  pub hypothesis : Hypothesis
  pub found : Searches (take 1632 received) (searched asked) (Found hypothesis)
  pub read : List ℕ
  pub fed : ReadingFeedings hypothesis mirrored (length before + hypothesis.offset) read given k
  pub behind : read ++ unread ≡ drop hypothesis.offset received

-- A reading whose last call decided that no block follows, and whether that ended it.
pub data Unfollowed (h : Hypothesis) (mirrored : Bool) (first : ℕ) : List ℕ → List GivenBlock → Reading → Bool → Type 0 where
  unfollowed : {symbols : List ℕ} {given : List GivenBlock} {k : Reading} (piece : List ℕ) (r : _) → ReadingFeedings h mirrored first symbols given k → ReadsSymbols k piece r → r.event ≡ Lost
      → Unfollowed h mirrored first (symbols ++ take r.taken piece) (given ++ block_in r.event) r.reading (ends_reading k.sync.lock.locked k.used)

-- The blocks of such readings, one reading after the other, and how many symbols there are up to the last one that a reading took. Each window begins behind what
-- the reading before it took, so no symbol is in two readings.
pub data BlocksOfReadings (asked : ℕ) (symbols : List ℕ) : List GivenBlock → ℕ → Type 0 where
  none : BlocksOfReadings asked symbols [] 0
  more : {given these : List GivenBlock} {last : ℕ} (mirrored : Bool) (k : Reading) (unread : List ℕ) → BlocksOfReadings asked symbols given last
      → (r : ReadingOfThese asked symbols these mirrored k unread) → last ≤ length r.before
      → BlocksOfReadings asked symbols (given ++ these) (length r.before + r.hypothesis.offset + length r.read)

pub record BlocksRead (asked : ℕ) (symbols : List ℕ) (given : List GivenBlock) : Type 0 where
  pub last : ℕ
  pub within : last ≤ length symbols
  pub blocks : BlocksOfReadings asked symbols given last

-- What the steps come to. While it searches, the last symbols are pending; while it reads, those behind the ones that the reading took. The blocks are those of
-- readings that are over, and of the one that goes on.
pub data AcquisitionCame (asked : ℕ) (symbols : List ℕ) : List GivenBlock → Acquisition → Type 0 where
  searching : {given : List GivenBlock} {last : ℕ} (mirrored : Bool) (passed pending : List ℕ) → passed ++ pending ≡ symbols → BlocksOfReadings asked symbols given last → last ≤ length passed
      → AcquisitionCame asked symbols given (searching_on asked mirrored pending (length symbols))
  reading : {given these : List GivenBlock} {last : ℕ} (mirrored : Bool) (k : Reading) (pending : List ℕ) → BlocksOfReadings asked symbols given last
      → (r : ReadingOfThese asked symbols these mirrored k pending) → last ≤ length r.before
      → AcquisitionCame asked symbols (given ++ these) (reading_on asked mirrored k pending (length symbols))
