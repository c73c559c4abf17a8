-- A reading by a hypothesis: what its beginning is, and what it makes of symbols. docs/ACQUISITION.md has the same in words.
-- Clauses: EN 300 421, 4.4.2 and 4.4.3, note 1 (source document 002).
-- Assumes nothing.
use Rattle.std.specs.Prelude.{◌≡◌, Bool, List, map, ℕ, ◌+◌, ◌-◌, ◌*◌, ◌/◌, ◌%◌, ◌<◌, eqb, ltb, length, take, drop, replicate, Option, Some, None, Ok, is_some, option_map}
use Rattle.common.specs.Choice.{pick}
use Rattle.puncturing.specs.Step.{pattern_length}
use Rattle.reader.specs.Read.{symbols_per_pattern}
use Rattle.reader_stream.specs.Runs.{RunsReady, RunsHold, FeedsSymbols}
use Rattle.reader_stream.specs.declared.symbol_runs.SymbolRuns.{SymbolRuns}
use Rattle.symbol_turns.specs.Turn.{undoing, turned_pair}
use Rattle.free_start.specs.Lead.{lead_symbols, bits_of_lead}
use Rattle.node_search.specs.declared.Hypothesis.{Hypothesis}
use Rattle.block_sync.specs.Feed.{fresh_block_sync, FeedsSync}
use Rattle.block_sync.specs.declared.BlockSync.{BlockSync}
use Rattle.block_sync.specs.declared.SyncStep.{SyncStep}
use Rattle.acquisition.specs.declared.Reading.{Reading}
use Rattle.acquisition.specs.declared.ReadStep.{ReadStep}
use Rattle.acquisition.specs.declared.FoundBlock.{FoundBlock}
use Rattle.acquisition.specs.declared.Event.{Event}
use Rattle.acquisition.specs.declared.Event.TheVariants.{Waits, Block, Lost}

-- ---- numbers that are told

-- how many symbols came before the pattern that has a bit of a reading; the bits of the lead count as the first one behind it
unfoldable pub symbol_at : ℕ → ℕ → ℕ → ℕ
symbol_at rate first bit = first + symbols_per_pattern rate * ((bit - bits_of_lead rate) / pattern_length rate)

-- the turn that a reading turns back: at 5/6 the one that was found, or the mirrored one, which no inner decoder can tell from it
abbrev pub turn_read : Hypothesis → Bool → ℕ
turn_read h mirrored = pick (eqb h.rate 3) (pick mirrored ((h.turn + 4) % 8) h.turn) h.turn

-- the turn that is told: where the bits are inverted, two quarters further
abbrev pub turn_told : ℕ → Bool → ℕ
turn_told turn inverted = pick inverted (turn / 4 * 4 + (turn + 2) % 4) turn

-- ---- the beginning

-- no reading
unfoldable pub idle_reading : Reading
idle_reading = record { turn = 0; runs = record { rate = 0; memory = 0; held = replicate 1632 0; count = 0 }; sync = fresh_block_sync; first = 0; used = 0 }

-- the lead's lost symbols are held, and no other symbol and no bit has come
pub record Begins (h : Hypothesis) (mirrored : Bool) (first : ℕ) (k : Reading) : Type 0 where
  pub turn_is : k.turn ≡ turn_read h mirrored
  pub ready : RunsReady k.runs
  pub lead : RunsHold k.runs h.rate 0 (replicate (lead_symbols h.rate) 80)
  pub sync_is : k.sync ≡ fresh_block_sync
  pub first_is : k.first ≡ first
  pub none_used : k.used ≡ 0

-- ---- bits

abbrev pub used_by : SyncStep → ℕ
used_by d = d.skipped + pick (is_some d.block) 1632 0

-- All bits are taken, by two calls of the aligner. Where there are enough bits, the first call decides, and what it gives is given; the second gives nothing.
pub record TakesBits (s : BlockSync) (bits : List ℕ) (r : SyncStep) : Type 0 where
  pub first : SyncStep
  pub second : SyncStep
  pub decides : FeedsSync s bits (Ok first)
  pub gathers : FeedsSync first.sync (drop first.taken bits) (Ok second)
  pub whole : first.taken + second.taken ≡ length bits
  pub none_given : second.block ≡ None
  pub none_skipped : second.skipped ≡ 0
  pub small : second.sync.held < 8168
  pub counted : used_by first + second.sync.held ≡ s.held + length bits
  pub result : r ≡ record { taken = length bits; skipped = first.skipped; block = first.block; sync = second.sync }

-- the block that a decision gave, if it gave one, where so many bits were used before it
abbrev pub block_found : ℕ → ℕ → ℕ → ℕ → SyncStep → Option FoundBlock
block_found rate turn first used d =
    option_map
    (λ b. record {
      begins = b.begins;
      rate = rate;
      turn = turn_told turn d.sync.lock.inverted;
      start = symbol_at rate first (used + d.skipped);
      end = symbol_at rate first (used + d.skipped + 1632);
      bytes = b.bytes;
    })
    d.block

-- What a decision means, which skipped so many bits: a block was found, none follows, or there was no decision.
abbrev pub event_of : Option FoundBlock → ℕ → Event
event_of (Some b) skipped = Block b
event_of None skipped = pick (ltb 0 skipped) Lost Waits

-- the rate of a block that was found is one of five
abbrev pub RateKnown : Event → Type 0
RateKnown Waits = Unit {0}
RateKnown (Block b) = b.rate < 5
RateKnown Lost = Unit {0}

-- ---- symbols

-- each number is in its range
pub record ReadingReady (k : Reading) : Type 0 where
  pub runs_ready : RunsReady k.runs
  pub turn_small : k.turn < 8
  pub sync_sized : length k.sync.bits ≡ 8168
  pub sync_small : k.sync.held < 8168
  pub counts : k.first + k.used < 4611686018427387904

-- The bits that some symbols gave are taken, and what that comes to happened.
pub record SettlesBits (k : Reading) (runs : SymbolRuns) (taken : ℕ) (bits : List ℕ) (r : ReadStep) : Type 0 where
  pub decided : SyncStep
  pub takes : TakesBits k.sync bits decided
  pub reading : r.reading ≡ record { turn = k.turn; runs = runs; sync = decided.sync; first = k.first; used = k.used + used_by decided }
  pub taken_is : r.taken ≡ taken
  pub event_is : r.event ≡ event_of (block_found k.runs.rate k.turn k.first k.used decided) decided.skipped

-- Symbols are turned back and fed to the runs, as many as complete one, or all; the bits that this decides are taken.
pub record ReadsSymbols (k : Reading) (symbols : List ℕ) (r : ReadStep) : Type 0 where
  pub next : SymbolRuns
  pub taken : ℕ
  pub count : ℕ
  pub output : List ℕ
  pub exit : List ℕ
  pub feeds : FeedsSymbols k.runs (map (turned_pair (undoing k.turn)) symbols) output next taken count exit
  pub ready : RunsReady next
  pub settles : SettlesBits k next taken (take count exit) r
