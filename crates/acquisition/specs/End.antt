-- What acquisition does after the last symbol: what is pending is read, then what the runs hold, and then the bits that are left are decided, call after call.
-- Clauses: EN 300 421, 4.4.2 and 4.4.3, note 1 (source document 002).
-- Assumes nothing.
use Rattle.std.specs.Prelude.{◌≡◌, List, [], ℕ, ◌+◌, ◌*◌, ◌<◌, ltb, take, Option, Some, None, Ok, IfSome, IsNone}
use Rattle.common.specs.Choice.{pick}
use Rattle.reader_stream.specs.Runs.{RunsReady, RunsHold, ClosesRuns}
use Rattle.reader_stream.specs.declared.symbol_runs.SymbolRuns.{SymbolRuns}
use Rattle.block_sync.specs.Feed.{FinishesSync}
use Rattle.block_sync.specs.declared.SyncStep.{SyncStep}
use Rattle.acquisition.specs.Reading.{used_by, block_found, RateKnown, SettlesBits}
use Rattle.acquisition.specs.Step.{searching_on, after_reading, ReadsPending}
use Rattle.acquisition.specs.declared.Reading.{Reading}
use Rattle.acquisition.specs.declared.ReadStep.{ReadStep}
use Rattle.acquisition.specs.declared.Phase.{Phase}
use Rattle.acquisition.specs.declared.Phase.TheVariants.{Searches, Reads}
use Rattle.acquisition.specs.declared.Acquisition.{Acquisition}
use Rattle.acquisition.specs.declared.Step.{Step}
use Rattle.acquisition.specs.declared.EndStep.{EndStep}
use Rattle.acquisition.specs.declared.FoundBlock.{FoundBlock}
use Rattle.acquisition.specs.declared.Event.{Event}
use Rattle.acquisition.specs.declared.Event.TheVariants.{Waits, Block, Lost}

-- The bits of the whole patterns that the runs hold are taken, and the runs hold nothing then.
pub record ClosesReading (k : Reading) (r : ReadStep) : Type 0 where
  pub output : List ℕ
  pub exit : List ℕ
  pub count : ℕ
  pub rest : ℕ
  pub closes : ClosesRuns k.runs output count rest exit
  pub opened : SymbolRuns
  pub ready : RunsReady opened
  pub empty : RunsHold opened k.runs.rate 0 []
  pub settles : SettlesBits k opened 0 (take count exit) r

-- What a decision on the last bits means: a block was found; or the end has come, with fewer bits than a block has; or none follows.
abbrev pub last_event : Option FoundBlock → ℕ → Event
last_event (Some b) held = Block b
last_event None held = pick (ltb held 1632) Waits Lost

pub record ClosesBlocks (k : Reading) (r : ReadStep) : Type 0 where
  pub decided : SyncStep
  pub finishes : FinishesSync k.sync (Ok decided)
  pub reading : r.reading ≡ record { turn = k.turn; runs = k.runs; sync = decided.sync; first = k.first; used = k.used + used_by decided }
  pub taken_is : r.taken ≡ 0
  pub event_is : r.event ≡ last_event (block_found k.runs.rate k.turn k.first k.used decided) k.sync.held

-- it is over, with so many bits behind the last block
abbrev pub over_with : Acquisition → ℕ → EndStep
over_with s left = record { acquisition = s; event = Waits; over = Some left }

-- it goes on
abbrev pub proceeds : Acquisition → ReadStep → EndStep
proceeds s t = record { acquisition = after_reading s t [] s.came t.event; event = t.event; over = None }

-- The end of the bits: it is over where fewer are left than a block has. Where no block follows in more, the reading is.
abbrev pub end_of_blocks : Acquisition → ReadStep → Event → EndStep
end_of_blocks s t Waits = over_with (searching_on s.rate s.mirrored [] s.came) s.reading.sync.held
end_of_blocks s t (Block b) = proceeds s t
end_of_blocks s t Lost = record { acquisition = searching_on s.rate s.mirrored [] s.came; event = Lost; over = None }

pub record EndsBlocks (s : Acquisition) (r : EndStep) : Type 0 where
  pub step : ReadStep
  pub closes : ClosesBlocks s.reading step
  pub result : r ≡ end_of_blocks s step step.event

pub record EndsPending (s : Acquisition) (r : EndStep) : Type 0 where
  pub step : Step
  pub reads : ReadsPending s step
  pub result : r ≡ record { acquisition = step.acquisition; event = step.event; over = None }

pub record EndsRuns (s : Acquisition) (r : EndStep) : Type 0 where
  pub step : ReadStep
  pub closes : ClosesReading s.reading step
  pub result : r ≡ proceeds s step

pub data EndsAcquisition (s : Acquisition) (r : EndStep) : Type 0 where
  no_reading : s.phase ≡ Searches → r ≡ over_with s 0 → EndsAcquisition s r
  pending_end : s.phase ≡ Reads → 0 < s.held → EndsPending s r → EndsAcquisition s r
  runs_end : s.phase ≡ Reads → s.held ≡ 0 → 0 < s.reading.runs.count → EndsRuns s r → EndsAcquisition s r
  blocks_end : s.phase ≡ Reads → s.held ≡ 0 → s.reading.runs.count ≡ 0 → EndsBlocks s r → EndsAcquisition s r

-- what is left to do gets less until it is over
abbrev pub phase_measure : Acquisition → Phase → ℕ
phase_measure s Searches = 0
phase_measure s Reads = 1 + s.reading.sync.held + 4 * s.reading.runs.count + 5 * s.held

abbrev pub end_measure : Acquisition → ℕ
end_measure s = phase_measure s s.phase

-- what every step of the end leaves
pub record EndCounts (s : Acquisition) (r : EndStep) : Type 0 where
  pub came_is : r.acquisition.came ≡ s.came
  pub rate_known : RateKnown r.event
  pub left_few : IfSome r.over (λ left. left < 1632)
  pub goes : IsNone r.over → end_measure r.acquisition < end_measure s
