-- A reading's history: call after call from its beginning on, and what all the symbols come to, whatever pieces they came in.
-- Clauses: EN 300 421, 4.4.2 and 4.4.3, note 1 (source document 002).
-- Assumes nothing.
use Rattle.std.specs.Prelude.{◌≡◌, Bool, List, [], ◌∷◌, ◌++◌, map, ℕ, ◌+◌, ◌*◌, length, take, replicate}
use Rattle.reader_stream.specs.Runs.{RunsReady, DecidedPairs, held_of, ClosesRuns}
use Rattle.symbol_turns.specs.Turn.{undoing, turned_pair}
use Rattle.free_start.specs.Lead.{lead_symbols}
use Rattle.node_search.specs.declared.Hypothesis.{Hypothesis}
use Rattle.block_sync.specs.History.{SyncFeedings}
use Rattle.block_sync.specs.declared.GivenBlock.{GivenBlock}
use Rattle.block_sync.specs.declared.BlockSync.{BlockSync}
use Rattle.acquisition.specs.Reading.{Begins, ReadsSymbols}
use Rattle.acquisition.specs.declared.Reading.{Reading}
use Rattle.acquisition.specs.declared.Event.{Event}
use Rattle.acquisition.specs.declared.Event.TheVariants.{Waits, Block, Lost}

-- the block that was found, where the event is one
abbrev pub block_in : Event → List GivenBlock
block_in Waits = []
block_in (Block b) = record { begins = b.begins; bytes = b.bytes } ∷ []
block_in Lost = []

-- A history of calls from the beginning of a reading on, each with the reading that the one before it left: the symbols that were taken and the blocks that
-- were found, one after the other.
pub data ReadingFeedings (h : Hypothesis) (mirrored : Bool) (first : ℕ) : List ℕ → List GivenBlock → Reading → Type 0 where
  begun : {k : Reading} → Begins h mirrored first k → ReadingFeedings h mirrored first [] [] k
  reading : {symbols : List ℕ} {given : List GivenBlock} {k : Reading} (piece : List ℕ) (r : _) → ReadingFeedings h mirrored first symbols given k → ReadsSymbols k piece r
      → ReadingFeedings h mirrored first (symbols ++ take r.taken piece) (given ++ block_in r.event) r.reading

-- What symbols come to at a rate, where a turn is turned back: behind the lead's lost symbols the bits that overlapping runs decide of all of them. The aligner
-- took these bits, in some pieces, and the blocks are those that it gave. All bits but those that it holds are in blocks, or were skipped.
pub record ReadingCame (rate turn first : ℕ) (symbols : List ℕ) (given : List GivenBlock) (k : Reading) : Type 0 where
  pub ready : RunsReady k.runs
  pub rate_is : k.runs.rate ≡ rate
  pub turn_is : k.turn ≡ turn
  pub first_is : k.first ≡ first
  pub bits : List ℕ
  pub decided : DecidedPairs rate 0 (replicate (lead_symbols rate) 80 ++ map (turned_pair (undoing turn)) symbols) bits k.runs.memory (held_of k.runs)
  pub skipped : ℕ
  pub aligned : SyncFeedings bits given skipped k.sync
  pub used_is : k.used ≡ skipped + 1632 * length given

-- What the end of the symbols adds: the bits of the whole patterns that the runs hold, so many symbols behind which are in no pattern. The aligner took these bits
-- too.
pub record ReadingClosed {rate turn first : ℕ} {symbols : List ℕ} {given : List GivenBlock} {k : Reading} (c : ReadingCame rate turn first symbols given k) (more : List GivenBlock) (s : BlockSync) : Type 0 where
  pub output : List ℕ
  pub exit : List ℕ
  pub count : ℕ
  pub rest : ℕ
  pub closes : ClosesRuns k.runs output count rest exit
  pub skipped : ℕ
  pub aligned : SyncFeedings (c.bits ++ take count exit) (given ++ more) skipped s
