-- What a step of an acquisition leaves, by the symbols that come and at the end: bits, and zeros where nothing is held, but for its runs; and a step that leaves an
-- acquisition leaves the same one with its runs cleared too.
-- Assumes nothing.
use Rattle.std.specs.Prelude.{None, Ok}
use mathlib.Core.Path.{◌≡◌, refl, sym, ap, subst, ◌∙◌}
use mathlib.Core.Bool.{Bool, true, false}
use mathlib.Core.List.{List, [], ◌∷◌, ◌++◌}
use Prim.Native.Nat.{ℕ, zero, suc, ◌+◌, ◌-◌, ◌<◌}
use Prim.{tt}
use lib.ListN.{length, take, drop, replicate}
use lib.Seq.{drop_at, take_at}
use Rattle.common.specs.Lists.{All, largest, padded}
use Rattle.common.proofs.Largest.{largest_zeros}
use Rattle.common.proofs.Lists.{All-append}
use Rattle.convolutional_code.specs.Bits.{Bits, none, more}
use Rattle.block_sync.specs.Feed.{fresh_block_sync, held_bits, holding, FeedsSync, FinishesSync}
use Rattle.block_sync.specs.Feed as sync
use Rattle.block_sync.specs.Decision.{used_bits}
use Rattle.block_sync.specs.declared.BlockSync.{BlockSync}
use Rattle.block_sync.specs.declared.Lock.{Lock}
use Rattle.block_sync.specs.declared.SyncStep.{SyncStep}
use Rattle.reader_stream.specs.Runs.{RunsReady, FeedsSymbols, gathered, read}
use Rattle.reader_stream.specs.declared.symbol_runs.SymbolRuns.{SymbolRuns}
use Rattle.reader_stream.proofs.Feeding.{fed_bits, closed_bits_lem}
use Rattle.reader_state.specs.Runs.{cleared_runs}
use Rattle.reader_state.proofs.Cleared.{cleared_ready, cleared_holds}
use Rattle.node_search.specs.declared.Search.{Search}
use Rattle.acquisition.specs.Reading.{Begins, TakesBits, SettlesBits, ReadsSymbols, used_by}
use Rattle.acquisition.specs.Step.{pending_of, searching_on, reading_on, waiting, AfterSearch, found, nothing, several, gathers, fills, ends_reading, lost_reading, after_reading, ReadsPending, StepsAcquisition, hunts, drains, reads, AcquisitionReady}
use Rattle.acquisition.specs.End.{ClosesReading, ClosesBlocks, over_with, proceeds, end_of_blocks, EndsAcquisition, no_reading, pending_end, runs_end, blocks_end}
use Rattle.acquisition.specs.declared.Reading.{Reading}
use Rattle.acquisition.specs.declared.Phase.TheVariants.{Searches, Reads}
use Rattle.acquisition.specs.declared.Acquisition.{Acquisition}
use Rattle.acquisition.specs.declared.ReadStep.{ReadStep}
use Rattle.acquisition.specs.declared.Step.{Step}
use Rattle.acquisition.specs.declared.EndStep.{EndStep}
use Rattle.acquisition.specs.declared.Event.{Event}
use Rattle.acquisition.specs.declared.Event.TheVariants.{Waits, Block, Lost}
use Rattle.acquisition.proofs.Ready.{phase_of_lem}
use Rattle.acquisition_state.specs.State.{cleared_reading, cleared}
use Rattle.acquisition_state.proofs.Ranges.{SyncClear, Left, Clear, PhaseLeft, idle_cleared}

-- ---- bits

bits_all : {l : List ℕ} → Bits l → All (λ b. b < 2) l
bits_all none = tt
bits_all (more h w) = (h, bits_all w)

all_take : (n : ℕ) (l : List ℕ) → All (λ b. b < 2) l → All (λ b. b < 2) (take n l)
all_take zero l h = tt
all_take (suc n) [] h = tt
all_take (suc n) (x ∷ l) h = (h.0, all_take n l h.1)

all_drop : (n : ℕ) (l : List ℕ) → All (λ b. b < 2) l → All (λ b. b < 2) (drop n l)
all_drop zero l h = h
all_drop (suc n) [] h = tt
all_drop (suc n) (x ∷ l) h = all_drop n l h.1

-- an array with zeros behind a list
behind_zero : (size : ℕ) (l : List ℕ) → largest (drop (length l) (padded size l)) ≡ 0
behind_zero size l = ap largest (drop_at l (replicate (size - length l) 0) (length l) refl) ∙ largest_zeros (size - length l)

holding_clear : (k : Lock) (l : List ℕ) → All (λ b. b < 2) l → SyncClear (holding k l)
holding_clear k l h = record { zeros = behind_zero 8168 l; small = subst (All (λ b. b < 2)) (sym (take_at l (replicate (8168 - length l) 0) (length l) refl)) h }

fresh_clear : SyncClear fresh_block_sync
unfolding fresh_block_sync
fresh_clear = record { zeros = largest_zeros 8168; small = tt }

feeds_clear : {s : BlockSync} {piece : List ℕ} {r : SyncStep} → SyncClear s → All (λ b. b < 2) piece → FeedsSync s piece (Ok r) → SyncClear r.sync
feeds_clear {s} {piece} c p (sync.FeedsSync.gathered h e) =
    subst (λ (x : SyncStep). SyncClear x.sync) (sym e) (holding_clear s.lock (held_bits s ++ piece) (All-append (λ b. b < 2) (held_bits s) piece c.small p))
feeds_clear {s} {piece} c p (sync.FeedsSync.turned h k t) =
    let l = held_bits s ++ take (8168 - s.held) piece in
    let w = All-append (λ b. b < 2) (held_bits s) (take (8168 - s.held) piece) c.small (all_take (8168 - s.held) piece p) in
    subst (λ (x : SyncStep). SyncClear x.sync) (sym t.result) (holding_clear t.decision.lock (drop (used_bits t.decision) l) (all_drop (used_bits t.decision) l w))

takes_clear : {s : BlockSync} {bits : List ℕ} {r : SyncStep} → SyncClear s → All (λ b. b < 2) bits → TakesBits s bits r → SyncClear r.sync
takes_clear {bits = bits} c p t =
    subst (λ (x : SyncStep). SyncClear x.sync) (sym t.result) (feeds_clear (feeds_clear c p t.decides) (all_drop t.first.taken bits p) t.gathers)

settles_clear : {k : Reading} {runs : SymbolRuns} {taken : ℕ} {bits : List ℕ} {r : ReadStep} → SyncClear k.sync → All (λ b. b < 2) bits → SettlesBits k runs taken bits r → SyncClear r.reading.sync
settles_clear c p t = subst (λ (x : Reading). SyncClear x.sync) (sym t.reading) (takes_clear c p t.takes)

reads_clear : {k : Reading} {symbols : List ℕ} {r : ReadStep} → RunsReady k.runs → SyncClear k.sync → ReadsSymbols k symbols r → SyncClear r.reading.sync
reads_clear g c t = settles_clear c (bits_all (fed_bits g t.feeds)) t.settles

closes_clear : {k : Reading} {r : ReadStep} → SyncClear k.sync → ClosesReading k r → SyncClear r.reading.sync
closes_clear c t = settles_clear c (bits_all (closed_bits_lem t.closes)) t.settles

finishes_clear : {s : BlockSync} {r : SyncStep} → SyncClear s → FinishesSync s (Ok r) → SyncClear r.sync
finishes_clear {s} c (sync.FinishesSync.turned h t) =
    let l = held_bits s in
    subst (λ (x : SyncStep). SyncClear x.sync) (sym t.result) (holding_clear t.decision.lock (drop (used_bits t.decision) l) (all_drop (used_bits t.decision) l c.small))

blocks_clear : {k : Reading} {r : ReadStep} → SyncClear k.sync → ClosesBlocks k r → SyncClear r.reading.sync
blocks_clear c t = subst (λ (x : Reading). SyncClear x.sync) (sym t.reading) (finishes_clear c t.finishes)

-- ---- what is left

pub searching_left : (rate : ℕ) (mirrored : Bool) (l : List ℕ) (came : ℕ) → Left (searching_on rate mirrored l came)
searching_left rate mirrored l came = record { pending_zero = behind_zero 1632 l; phase_left = refl }

reading_left : (rate : ℕ) (mirrored : Bool) (k : Reading) (l : List ℕ) (came : ℕ) → SyncClear k.sync → Left (reading_on rate mirrored k l came)
reading_left rate mirrored k l came c = record { pending_zero = behind_zero 1632 l; phase_left = c }

search_left : {rate : ℕ} {mirrored : Bool} {came : ℕ} {window : List ℕ} {search : Search} {next : Acquisition} → AfterSearch rate mirrored came window search next → Left next
search_left {rate} {mirrored} {came} {window} (found h k b) = reading_left rate mirrored k (drop h.offset window) came (subst SyncClear (sym b.sync_is) fresh_clear)
search_left {rate} {mirrored} {came} nothing = searching_left rate mirrored [] came
search_left {rate} {mirrored} {came} several = searching_left rate mirrored [] came

lost_left : (s : Acquisition) (k : Reading) (pending : List ℕ) (came : ℕ) (over : Bool) → SyncClear k.sync → Left (lost_reading s k pending came over)
lost_left s k pending came true c = searching_left s.rate _ pending came
lost_left s k pending came false c = reading_left s.rate s.mirrored k pending came c

after_left : (s : Acquisition) (t : ReadStep) (pending : List ℕ) (came : ℕ) (e : Event) → SyncClear t.reading.sync → Left (after_reading s t pending came e)
after_left s t pending came Waits c = reading_left s.rate s.mirrored t.reading pending came c
after_left s t pending came (Block b) c = reading_left s.rate s.mirrored t.reading pending came c
after_left s t pending came Lost c = lost_left s t.reading pending came (ends_reading s.reading.sync.lock.locked s.reading.used) c

-- while it reads, its runs are ready and its bits are
module _ (s : Acquisition) (g : AcquisitionReady s) (c : Clear s) where
  reading_runs : s.phase ≡ Reads → RunsReady s.reading.runs
  reading_runs e = (phase_of_lem s Reads e g.phase_ready).reading_of.ready.runs_ready

  reading_bits : s.phase ≡ Reads → SyncClear s.reading.sync
  reading_bits e = subst (PhaseLeft s) e c.left.phase_left

  pending_left : {r : Step} → s.phase ≡ Reads → ReadsPending s r → Left r.acquisition
  pending_left e p =
      subst (λ (x : Step). Left x.acquisition) (sym p.result)
      (after_left s p.read (drop p.read.taken (pending_of s)) s.came p.read.event (reads_clear (reading_runs e) (reading_bits e) p.reads))

  pub steps_left : {piece : List ℕ} {r : Step} → StepsAcquisition s piece r → Left r.acquisition
  steps_left {piece} (hunts e (gathers h q)) = subst (λ (x : Step). Left x.acquisition) (sym q) (searching_left s.rate s.mirrored (pending_of s ++ piece) _)
  steps_left (hunts e (fills h w)) = subst (λ (x : Step). Left x.acquisition) (sym w.result) (search_left w.after)
  steps_left (drains e h p) = pending_left e p
  steps_left (reads e h p) =
      subst (λ (x : Step). Left x.acquisition) (sym p.result) (after_left s p.read [] _ p.read.event (reads_clear (reading_runs e) (reading_bits e) p.reads))

  goes_left : (t : ReadStep) → SyncClear t.reading.sync → Left (proceeds s t).acquisition
  goes_left t k = after_left s t [] s.came t.event k

  end_left : (t : ReadStep) (e : Event) → SyncClear t.reading.sync → Left (end_of_blocks s t e).acquisition
  end_left t Waits k = searching_left s.rate s.mirrored [] s.came
  end_left t (Block b) k = goes_left t k
  end_left t Lost k = searching_left s.rate s.mirrored [] s.came

  pub ends_left : {r : EndStep} → EndsAcquisition s r → Left r.acquisition
  ends_left (no_reading e q) = subst (λ (x : EndStep). Left x.acquisition) (sym q) c.left
  ends_left (pending_end e h p) = subst (λ (x : EndStep). Left x.acquisition) (sym p.result) (pending_left e p.reads)
  ends_left (runs_end e h k p) = subst (λ (x : EndStep). Left x.acquisition) (sym p.result) (goes_left p.step (closes_clear (reading_bits e) p.closes))
  ends_left (blocks_end e h k p) =
      subst (λ (x : EndStep). Left x.acquisition) (sym p.result) (end_left p.step p.step.event (blocks_clear (reading_bits e) p.closes))

-- ---- the same with cleared runs

abbrev cleared_step : ReadStep → ReadStep
cleared_step t = record { reading = cleared_reading t.reading; taken = t.taken; event = t.event }

symbols_cleared : {s next : SymbolRuns} {piece output exit : List ℕ} {taken count : ℕ} → RunsReady next → FeedsSymbols s piece output next taken count exit
    → FeedsSymbols s piece output (cleared_runs next) taken count exit
symbols_cleared {next = next} g (gathered l et ec ex h) = gathered l et ec ex (cleared_holds next g h)
symbols_cleared {next = next} g (read pairs es le size ec after f h) = read pairs es le size ec after f (cleared_holds next g h)

settles_cleared : {k : Reading} {runs : SymbolRuns} {taken : ℕ} {bits : List ℕ} {r : ReadStep} → SettlesBits k runs taken bits r → SettlesBits k (cleared_runs runs) taken bits (cleared_step r)
settles_cleared t = record { decided = t.decided; takes = t.takes; reading = ap cleared_reading t.reading; taken_is = t.taken_is; event_is = t.event_is }

reads_cleared : {k : Reading} {symbols : List ℕ} {r : ReadStep} → ReadsSymbols k symbols r → ReadsSymbols k symbols (cleared_step r)
reads_cleared t = record {
  next = cleared_runs t.next;
  taken = t.taken;
  count = t.count;
  output = t.output;
  exit = t.exit;
  feeds = symbols_cleared t.ready t.feeds;
  ready = cleared_ready t.next t.ready;
  settles = settles_cleared t.settles;
}

closes_cleared : {k : Reading} {r : ReadStep} → ClosesReading k r → ClosesReading k (cleared_step r)
closes_cleared t = record {
  output = t.output;
  exit = t.exit;
  count = t.count;
  rest = t.rest;
  closes = t.closes;
  opened = cleared_runs t.opened;
  ready = cleared_ready t.opened t.ready;
  empty = cleared_holds t.opened t.ready t.empty;
  settles = settles_cleared t.settles;
}

-- the runs of a reading that is clear stay
blocks_cleared : {k : Reading} {r : ReadStep} → cleared_reading k ≡ k → ClosesBlocks k r → ClosesBlocks k (cleared_step r)
blocks_cleared {k} e t = record {
  decided = t.decided;
  finishes = t.finishes;
  reading =
      ap cleared_reading t.reading
      ∙ ap (λ (x : Reading). record { turn = k.turn; runs = x.runs; sync = t.decided.sync; first = k.first; used = k.used + used_by t.decided }) e;
  taken_is = t.taken_is;
  event_is = t.event_is;
}

pub searching_cleared : (rate : ℕ) (mirrored : Bool) (l : List ℕ) (came : ℕ) → cleared (searching_on rate mirrored l came) ≡ searching_on rate mirrored l came
searching_cleared rate mirrored l came =
    ap (λ (k : Reading). record { rate = rate; mirrored = mirrored; phase = Searches; reading = k; pending = padded 1632 l; held = length l; came = came }) idle_cleared

lost_cleared : (s : Acquisition) (k : Reading) (pending : List ℕ) (came : ℕ) (over : Bool) → cleared (lost_reading s k pending came over) ≡ lost_reading s (cleared_reading k) pending came over
lost_cleared s k pending came true = searching_cleared s.rate _ pending came
lost_cleared s k pending came false = refl

after_cleared : (s : Acquisition) (t : ReadStep) (pending : List ℕ) (came : ℕ) (e : Event) → cleared (after_reading s t pending came e) ≡ after_reading s (cleared_step t) pending came e
after_cleared s t pending came Waits = refl
after_cleared s t pending came (Block b) = refl
after_cleared s t pending came Lost = lost_cleared s t.reading pending came (ends_reading s.reading.sync.lock.locked s.reading.used)

begins_cleared : {h : _} {mirrored : Bool} {first : ℕ} {k : Reading} → Begins h mirrored first k → Begins h mirrored first (cleared_reading k)
begins_cleared {k = k} b = record {
  turn_is = b.turn_is;
  ready = cleared_ready k.runs b.ready;
  lead = cleared_holds k.runs b.ready b.lead;
  sync_is = b.sync_is;
  first_is = b.first_is;
  none_used = b.none_used;
}

search_cleared : {rate : ℕ} {mirrored : Bool} {came : ℕ} {window : List ℕ} {search : Search} {next : Acquisition} → AfterSearch rate mirrored came window search next
    → AfterSearch rate mirrored came window search (cleared next)
search_cleared (found h k b) = found h (cleared_reading k) (begins_cleared b)
search_cleared {rate} {mirrored} {came} {window} nothing = subst (AfterSearch rate mirrored came window _) (sym (searching_cleared rate mirrored [] came)) nothing
search_cleared {rate} {mirrored} {came} {window} several = subst (AfterSearch rate mirrored came window _) (sym (searching_cleared rate mirrored [] came)) several

abbrev pub cleared_result : Step → Step
cleared_result r = record { acquisition = cleared r.acquisition; taken = r.taken; event = r.event }

pending_cleared : (s : Acquisition) {r : Step} → ReadsPending s r → ReadsPending s (cleared_result r)
pending_cleared s p = record {
  read = cleared_step p.read;
  reads = reads_cleared p.reads;
  result =
      ap cleared_result p.result
      ∙ ap (λ (x : Acquisition). record { acquisition = x; taken = 0; event = p.read.event }) (after_cleared s p.read (drop p.read.taken (pending_of s)) s.came p.read.event);
}

pub steps_cleared : (s : Acquisition) {piece : List ℕ} {r : Step} → StepsAcquisition s piece r → StepsAcquisition s piece (cleared_result r)
steps_cleared s {piece} (hunts e (gathers h q)) =
    hunts e (gathers h (ap cleared_result q ∙ ap (λ (x : Acquisition). waiting x (length piece)) (searching_cleared s.rate s.mirrored (pending_of s ++ piece) _)))
steps_cleared s (hunts e (fills h w)) =
    hunts e (fills h (record { search = w.search; searches = w.searches; next = cleared w.next; after = search_cleared w.after; result = ap cleared_result w.result }))
steps_cleared s (drains e h p) = drains e h (pending_cleared s p)
steps_cleared s (reads e h p) =
    reads e h
    (record {
      read = cleared_step p.read;
      reads = reads_cleared p.reads;
      result =
          ap cleared_result p.result
          ∙ ap (λ (x : Acquisition). record { acquisition = x; taken = p.read.taken; event = p.read.event }) (after_cleared s p.read [] _ p.read.event);
    })

abbrev pub cleared_end : EndStep → EndStep
cleared_end r = record { acquisition = cleared r.acquisition; event = r.event; over = r.over }

goes_cleared : (s : Acquisition) (t : ReadStep) → cleared_end (proceeds s t) ≡ proceeds s (cleared_step t)
goes_cleared s t = ap (λ (x : Acquisition). record { acquisition = x; event = t.event; over = None }) (after_cleared s t [] s.came t.event)

end_cleared : (s : Acquisition) (t : ReadStep) (e : Event) → cleared_end (end_of_blocks s t e) ≡ end_of_blocks s (cleared_step t) e
end_cleared s t Waits =
    ap (λ (x : Acquisition). over_with x s.reading.sync.held) (searching_cleared s.rate s.mirrored [] s.came)
end_cleared s t (Block b) = goes_cleared s t
end_cleared s t Lost =
    ap (λ (x : Acquisition). record { acquisition = x; event = Lost; over = None }) (searching_cleared s.rate s.mirrored [] s.came)

pub ends_cleared : (s : Acquisition) → cleared_reading s.reading ≡ s.reading → cleared s ≡ s → {r : EndStep} → EndsAcquisition s r → EndsAcquisition s (cleared_end r)
ends_cleared s k c (no_reading e q) = no_reading e (ap cleared_end q ∙ ap (λ (x : Acquisition). over_with x 0) c)
ends_cleared s k c (pending_end e h p) = pending_end e h (record { step = cleared_result p.step; reads = pending_cleared s p.reads; result = ap cleared_end p.result })
ends_cleared s k c (runs_end e h n p) = runs_end e h n (record { step = cleared_step p.step; closes = closes_cleared p.closes; result = ap cleared_end p.result ∙ goes_cleared s p.step })
ends_cleared s k c (blocks_end e h n p) =
    blocks_end e h n (record { step = cleared_step p.step; closes = blocks_cleared k p.closes; result = ap cleared_end p.result ∙ end_cleared s p.step p.step.event })
