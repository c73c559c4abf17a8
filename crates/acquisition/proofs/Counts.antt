-- What every step counts: the symbols that came, and what is left to do.
-- Assumes nothing.
use mathlib.Core.Path.{◌≡◌, refl, sym, ◌∙◌, ap, subst}
use mathlib.Core.Bool.{Bool, true, false}
use mathlib.Core.List.{List, []}
use Prim.Native.Nat.{ℕ, ◌+◌, ◌*◌, ◌<◌, ◌≤◌}
use native.Mathlib.Omega.{arith}
use lib.ListN.{length, take, drop, length-drop, length-take}
use Rattle.reader_stream.specs.Runs.{RunsReady}
use Rattle.reader_stream.proofs.Runs.{held_length}
use Rattle.node_search.specs.declared.Search.{Search}
use Rattle.acquisition.specs.Reading.{RateKnown, ReadsSymbols, ReadingReady}
use Rattle.acquisition.specs.Step.{pending_of, reading_on, ReadingOf, SearchReady, ReadReady, AcquisitionReady, AfterSearch, found, nothing, several, ends_reading, mirrored_next, lost_reading, after_reading, SearchesOn, gathers, fills, ReadsPending, ReadsPiece, StepCounts}
use Rattle.acquisition.specs.End.{ClosesReading, ClosesBlocks}
use Rattle.acquisition.specs.declared.Reading.{Reading}
use Rattle.acquisition.specs.declared.Acquisition.{Acquisition}
use Rattle.acquisition.specs.declared.ReadStep.{ReadStep}
use Rattle.acquisition.specs.declared.Step.{Step}
use Rattle.acquisition.specs.declared.Event.{Event}
use Rattle.acquisition.specs.declared.Event.TheVariants.{Waits, Block, Lost}
use Prim.{tt}
use Rattle.acquisition.proofs.Events.{settled_known}
use Rattle.acquisition.proofs.Bits.{taken_few}
use Rattle.acquisition.proofs.Ready.{searching_ready, reading_ready, pending_length, read_taken}
use Rattle.acquisition.proofs.Ends.{finish_counts, close_counts}

-- ---- a search

search_came : {rate : ℕ} {mirrored : Bool} {came : ℕ} {window : List ℕ} {search : Search} {next : Acquisition} → AfterSearch rate mirrored came window search next → next.came ≡ came
search_came (found h k b) = refl
search_came nothing = refl
search_came several = refl

pub searches_counts : (s : Acquisition) (piece : List ℕ) (r : Step) → SearchReady s → r.taken ≤ length piece → SearchesOn s piece r → StepCounts s piece r
searches_counts s piece r g n (gathers l e) =
    subst (StepCounts s piece) (sym e) (record { taken_most = omega arith; came_is = refl; rate_known = tt; goes = λ p z. absurd (omega (arith, p, z)) })
searches_counts s piece r g n (fills l x) =
    subst (StepCounts s piece) (sym x.result)
    (record {
      taken_most = omega (arith, n, ap (λ (y : Step). y.taken) x.result);
      came_is = search_came x.after;
      rate_known = tt;
      goes = λ p z. absurd (omega (arith, z, g.window_few));
    })

-- ---- a reading

pub after_came : (s : Acquisition) (t : ReadStep) (pending : List ℕ) (came : ℕ) (event : Event) → (after_reading s t pending came event).came ≡ came
after_came s t pending came Waits = refl
after_came s t pending came (Block b) = refl
after_came s t pending came Lost = by (ends_reading s.reading.sync.lock.locked s.reading.used)
  where
    by : (ends : Bool) → (lost_reading s t.reading pending came ends).came ≡ came
    by true = refl
    by false = refl

after_held : (s : Acquisition) (t : ReadStep) (pending : List ℕ) (came : ℕ) (event : Event) → (after_reading s t pending came event).held ≡ length pending
after_held s t pending came Waits = refl
after_held s t pending came (Block b) = refl
after_held s t pending came Lost = by (ends_reading s.reading.sync.lock.locked s.reading.used)
  where
    by : (ends : Bool) → (lost_reading s t.reading pending came ends).held ≡ length pending
    by true = refl
    by false = refl

-- the block is of the reading's rate
block_known : {k : Reading} {symbols : List ℕ} {t : ReadStep} → ReadingReady k → ReadsSymbols k symbols t → RateKnown t.event
block_known g x = settled_known g.runs_ready.known x.settles

pub pending_counts : (s : Acquisition) (piece : List ℕ) (r : Step) → ReadReady s → 0 < s.held → ReadsPending s r → StepCounts s piece r
pending_counts s piece r g h x =
    let t = x.read in
    let n = pending_length s g.pending_size g.pending_few in
    let k = read_taken s.reading (pending_of s) t g.reading_of.ready x.reads in
    let l = drop t.taken (pending_of s) in
    let c : (after_reading s t l s.came t.event).came ≡ s.came = after_came s t l s.came t.event in
    let d : (after_reading s t l s.came t.event).held ≡ length l = after_held s t l s.came t.event in
    subst (StepCounts s piece) (sym x.result)
    (record {
      taken_most = omega arith;
      came_is = omega (arith, c);
      rate_known = block_known g.reading_of.ready x.reads;
      goes = λ p z. omega (arith, d, n, length-drop t.taken (pending_of s), k.0, k.1 (omega (arith, n, h)));
    })

pub piece_counts : (s : Acquisition) (piece : List ℕ) (r : Step) → ReadReady s → r.taken ≤ length piece → ReadsPiece s piece r → StepCounts s piece r
piece_counts s piece r g m x =
    let t = x.read in
    let k = read_taken s.reading (take 1632 piece) t g.reading_of.ready x.reads in
    let c : (after_reading s t [] (s.came + t.taken) t.event).came ≡ s.came + t.taken = after_came s t [] (s.came + t.taken) t.event in
    subst (StepCounts s piece) (sym x.result)
    (record {
      taken_most = omega (arith, m, ap (λ (y : Step). y.taken) x.result);
      came_is = c;
      rate_known = block_known g.reading_of.ready x.reads;
      goes = λ p z. absurd (omega (arith, z, k.1 (omega (arith, length-take 1632 piece, p))));
    })

-- ---- the end

-- A reading of which symbols or bits were closed: it has no more of them than before.
pub record Closed (k : Reading) (t : ReadStep) : Type 0 where
  pub runs_ready : RunsReady t.reading.runs
  pub turn_is : t.reading.turn ≡ k.turn
  pub first_is : t.reading.first ≡ k.first
  pub sync_sized : length t.reading.sync.bits ≡ 8168
  pub sync_small : t.reading.sync.held < 8168
  pub balance : t.reading.used + t.reading.sync.held + 2 * t.reading.runs.count ≤ k.used + k.sync.held + 2 * k.runs.count
  pub held_most : t.reading.sync.held ≤ k.sync.held + 2 * k.runs.count

pub closed_ready : (s : Acquisition) (t : ReadStep) → ReadReady s → s.came < 1152921504606846976 → s.held ≡ 0 → Closed s.reading t → (event : Event)
    → AcquisitionReady (after_reading s t [] s.came event)
closed_ready s t g b z x = by
  where
    of : (rate : ℕ) (mirrored : Bool) → ReadingOf (reading_on rate mirrored t.reading [] s.came)
    of rate mirrored =
        let o = g.reading_of in
        record {
          ready = record {
            runs_ready = x.runs_ready;
            turn_small = subst (λ (n : ℕ). n < 8) (sym x.turn_is) o.ready.turn_small;
            sync_sized = x.sync_sized;
            sync_small = x.sync_small;
            counts = omega (arith, x.first_is, o.first_came, o.bits_counted, x.balance, z, b);
          };
          first_came = omega (arith, x.first_is, o.first_came);
          bits_counted = omega (arith, x.first_is, o.bits_counted, x.balance, z);
        }

    lost : (ends : Bool) → AcquisitionReady (lost_reading s t.reading [] s.came ends)
    lost true = searching_ready s.rate (mirrored_next s.mirrored s.reading.used) [] s.came g.read_known (omega arith) tt (omega arith) b
    lost false = reading_ready s.rate s.mirrored t.reading [] s.came g.read_known (omega arith) tt (omega arith) b (of s.rate s.mirrored)

    by : (event : Event) → AcquisitionReady (after_reading s t [] s.came event)
    by Waits = reading_ready s.rate s.mirrored t.reading [] s.came g.read_known (omega arith) tt (omega arith) b (of s.rate s.mirrored)
    by (Block y) = reading_ready s.rate s.mirrored t.reading [] s.came g.read_known (omega arith) tt (omega arith) b (of s.rate s.mirrored)
    by Lost = lost (ends_reading s.reading.sync.lock.locked s.reading.used)

-- the runs are closed
pub runs_closed : (k : Reading) (t : ReadStep) → ReadingReady k → ClosesReading k t → Closed k t
runs_closed k t g x =
    let d = x.settles.decided in
    let few = taken_few k.sync (take x.count x.exit) d g.sync_sized g.sync_small x.settles.takes in
    let n = close_counts k.runs x.output x.exit x.count x.rest g.runs_ready x.closes in
    let z : x.opened.count ≡ 0 = sym (held_length x.opened x.ready) ∙ ap length x.empty.held_is in
    subst (λ (y : Reading). Closed k (record { reading = y; taken = t.taken; event = t.event })) (sym x.settles.reading)
    (record {
      runs_ready = x.ready;
      turn_is = refl;
      first_is = refl;
      sync_sized = few.sized;
      sync_small = few.held_few;
      balance = omega (arith, few.whole, length-take x.count x.exit, n.1, z);
      held_most = omega (arith, few.whole, length-take x.count x.exit, n.1);
    })

-- the bits are closed
pub blocks_closed : (k : Reading) (t : ReadStep) → ReadingReady k → ClosesBlocks k t → Closed k t
blocks_closed k t g x =
    let c = finish_counts k.sync x.decided g.sync_sized g.sync_small x.finishes in
    subst (λ (y : Reading). Closed k (record { reading = y; taken = t.taken; event = t.event })) (sym x.reading)
    (record {
      runs_ready = g.runs_ready;
      turn_is = refl;
      first_is = refl;
      sync_sized = c.sized;
      sync_small = c.held_few;
      balance = omega (arith, c.whole);
      held_most = omega (arith, c.whole);
    })
