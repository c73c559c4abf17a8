-- Which acquisitions are in range: those that are ready, with zeros where nothing is held. An acquisition in range is such a one, and what every step leaves is one
-- when its runs are cleared.
-- Assumes nothing.
use mathlib.Core.Path.{◌≡◌, refl, sym, ap, subst, ◌∙◌}
use mathlib.Core.Bool.{Bool, true, false, not}
use mathlib.Core.List.{List}
use Prim.Native.Nat.{ℕ, ◌+◌, ◌-◌, ◌*◌, ◌≤◌, ◌<◌}
use native.Mathlib.Omega.{arith}
use borrow.Author.Tests.{eq-eqb, eqb-true, lt-ltb, le-ltb, ltb-true, ltb-false, not-true}
use lib.Dec.{eqb, ltb}
use lib.ListN.{length, take, drop, replicate}
use Rattle.common.specs.Choice.{pick}
use Rattle.common.specs.Lists.{All, largest}
use Rattle.common.proofs.Choice.{both_true, false_true}
use Rattle.common.proofs.Largest.{largest_none, largest_zeros}
use Rattle.block_sync.specs.Feed.{fresh_block_sync, held_bits}
use Rattle.block_sync.specs.declared.BlockSync.{BlockSync}
use Rattle.reader_stream.proofs.Runs.{numbers}
use Rattle.reader_state.specs.Runs.{runs_in_range}
use Rattle.reader_state.proofs.Cleared.{runs_ready, front_small, padded_same, padded_small, cleared_ready, cleared_in_range, cleared_same}
use Rattle.acquisition.specs.Reading.{idle_reading}
use Rattle.acquisition.specs.Step.{pending_of, AcquisitionReady, PhaseReady}
use Rattle.acquisition.specs.declared.Reading.{Reading}
use Rattle.acquisition.specs.declared.Phase.{Phase}
use Rattle.acquisition.specs.declared.Phase.TheVariants.{Searches, Reads}
use Rattle.acquisition.specs.declared.Acquisition.{Acquisition}
use Rattle.acquisition_state.specs.State.{pending_in_range, bits_in_range, counts_in_range, runs_idle, sync_idle, phase_in_range, in_range, cleared_reading, cleared, Writable}

-- each array is as long as it is
pub record Sized (a : Acquisition) : Type 0 where
  pub pending : length a.pending ≡ 1632
  pub pairs : length a.reading.runs.held ≡ 1632
  pub bits : length a.reading.sync.bits ≡ 8168

-- bits, and zeros behind them
pub record SyncClear (s : BlockSync) : Type 0 where
  pub zeros : largest (drop s.held s.bits) ≡ 0
  pub small : All (λ b. b < 2) (held_bits s)

-- what every step leaves: zeros behind what is pending; while it searches no reading, and else bits
abbrev pub PhaseLeft : Acquisition → Phase → Type 0
PhaseLeft a Searches = a.reading ≡ idle_reading
PhaseLeft a Reads = SyncClear a.reading.sync

pub record Left (a : Acquisition) : Type 0 where
  pub pending_zero : largest (drop a.held a.pending) ≡ 0
  pub phase_left : PhaseLeft a a.phase

-- and zeros behind what the runs hold
pub record Clear (a : Acquisition) : Type 0 where
  pub left : Left a
  pub runs_zero : largest (drop a.reading.runs.count a.reading.runs.held) ≡ 0

-- ---- no reading

pub idle_cleared : cleared_reading idle_reading ≡ idle_reading
unfolding idle_reading
idle_cleared = refl

idle_runs : runs_idle idle_reading ≡ true
unfolding idle_reading
idle_runs = simp (eq-eqb _ _ (largest_zeros 1632))

idle_sync : sync_idle idle_reading ≡ true
unfolding idle_reading fresh_block_sync
idle_sync = simp (eq-eqb _ _ (largest_zeros 8168))

idle_zero : largest (drop idle_reading.runs.count idle_reading.runs.held) ≡ 0
unfolding idle_reading
idle_zero = largest_zeros 1632

-- a test that refuses, and those behind it
after_false : (a b : Bool) → pick a false b ≡ true → (a ≡ false) × (b ≡ true)
after_false true b e = false_true e
after_false false b e = (refl, e)

-- every byte of a reading is zero
idle_is : (k : Reading) → length k.runs.held ≡ 1632 → length k.sync.bits ≡ 8168 → runs_idle k ≡ true → sync_idle k ≡ true → k ≡ idle_reading
unfolding idle_reading fresh_block_sync
idle_is k n m r s =
    let turn = both_true (eqb k.turn 0) _ r in
    let rate = both_true (eqb k.runs.rate 0) _ turn.1 in
    let memory = both_true (eqb k.runs.memory 0) _ rate.1 in
    let count = both_true (eqb k.runs.count 0) (eqb (largest k.runs.held) 0) memory.1 in
    let locked = after_false k.sync.lock.locked _ s in
    let inverted = after_false k.sync.lock.inverted _ locked.1 in
    let held = both_true (eqb k.sync.held 0) _ inverted.1 in
    let first = both_true (eqb k.first 0) _ held.1 in
    let used = both_true (eqb k.used 0) (eqb (largest k.sync.bits) 0) first.1 in
    let e₁ = eqb-true k.turn 0 turn.0 in
    let e₂ = eqb-true k.runs.rate 0 rate.0 in
    let e₃ = eqb-true k.runs.memory 0 memory.0 in
    let e₄ = eqb-true k.runs.count 0 count.0 in
    let e₅ = largest_none k.runs.held (eqb-true (largest k.runs.held) 0 count.1) ∙ ap (λ (j : ℕ). replicate j 0) n in
    let e₆ = eqb-true k.sync.held 0 held.0 in
    let e₇ = largest_none k.sync.bits (eqb-true (largest k.sync.bits) 0 used.1) ∙ ap (λ (j : ℕ). replicate j 0) m in
    let e₈ = eqb-true k.first 0 first.0 in
    let e₉ = eqb-true k.used 0 used.0 in
    let l = locked.0 in
    let i = inverted.0 in
    λ j. record {
      turn = e₁ j;
      runs = record { rate = e₂ j; memory = e₃ j; held = e₅ j; count = e₄ j };
      sync = record { lock = record { locked = l j; inverted = i j }; bits = e₇ j; held = e₆ j };
      first = e₈ j;
      used = e₉ j;
    }

-- ---- in range

-- an acquisition in range is ready, and is clear
module _ (a : Acquisition) (sized : Sized a) (r : in_range a ≡ true) where
  rate_test : (ltb a.rate 6 ≡ true) × (pick (ltb a.came 1152921504606846976) (pick (pending_in_range a.pending a.held a.came) (phase_in_range a a.phase) false) false ≡ true)
  rate_test = both_true (ltb a.rate 6) (pick (ltb a.came 1152921504606846976) (pick (pending_in_range a.pending a.held a.came) (phase_in_range a a.phase) false) false) r

  came_test : (ltb a.came 1152921504606846976 ≡ true) × (pick (pending_in_range a.pending a.held a.came) (phase_in_range a a.phase) false ≡ true)
  came_test = both_true (ltb a.came 1152921504606846976) (pick (pending_in_range a.pending a.held a.came) (phase_in_range a a.phase) false) rate_test.1

  pending_test : (pending_in_range a.pending a.held a.came ≡ true) × (phase_in_range a a.phase ≡ true)
  pending_test = both_true (pending_in_range a.pending a.held a.came) (phase_in_range a a.phase) came_test.1

  few : (ltb a.held 1633 ≡ true) × (pick (ltb a.came a.held) false (pick (eqb (largest (drop a.held a.pending)) 0) (ltb (largest a.pending) 81) false) ≡ true)
  few = both_true (ltb a.held 1633) (pick (ltb a.came a.held) false (pick (eqb (largest (drop a.held a.pending)) 0) (ltb (largest a.pending) 81) false)) pending_test.0

  among : (ltb a.came a.held ≡ false) × (pick (eqb (largest (drop a.held a.pending)) 0) (ltb (largest a.pending) 81) false ≡ true)
  among = after_false (ltb a.came a.held) (pick (eqb (largest (drop a.held a.pending)) 0) (ltb (largest a.pending) 81) false) few.1

  cells : (eqb (largest (drop a.held a.pending)) 0 ≡ true) × (ltb (largest a.pending) 81 ≡ true)
  cells = both_true (eqb (largest (drop a.held a.pending)) 0) (ltb (largest a.pending) 81) among.1

  small : All (λ p. p < 81) (pending_of a)
  small = front_small a.held a.pending 81 (ltb-true (largest a.pending) 81 cells.1)

  record Both (p : Phase) : Type 0 where
    ready : PhaseReady a p
    left : PhaseLeft a p
    zero : largest (drop a.reading.runs.count a.reading.runs.held) ≡ 0

  both : (p : Phase) → phase_in_range a p ≡ true → Both p
  both Searches e =
      let w = both_true (ltb a.held 1632) (pick (runs_idle a.reading) (sync_idle a.reading) false) e in
      let i = both_true (runs_idle a.reading) (sync_idle a.reading) w.1 in
      let k = idle_is a.reading sized.pairs sized.bits i.0 i.1 in
      record {
        ready =
            record {
              searched_known = ltb-true a.rate 6 rate_test.0;
              window_size = sized.pending;
              window_few = ltb-true a.held 1632 w.0;
              window_small = small;
              window_came = ltb-false a.came a.held among.0;
            };
        left = k;
        zero = ap (λ (k : Reading). largest (drop k.runs.count k.runs.held)) k ∙ idle_zero;
      }
  both Reads e =
      let k = a.reading in
      let runs = both_true (runs_in_range k.runs) (pick (ltb k.turn 8) (pick (bits_in_range k.sync) (counts_in_range a) false) false) e in
      let turn = both_true (ltb k.turn 8) (pick (bits_in_range k.sync) (counts_in_range a) false) runs.1 in
      let bits = both_true (bits_in_range k.sync) (counts_in_range a) turn.1 in
      let gathered = both_true (ltb k.sync.held 8168) (pick (eqb (largest (drop k.sync.held k.sync.bits)) 0) (ltb (largest k.sync.bits) 2) false) bits.0 in
      let zero = both_true (eqb (largest (drop k.sync.held k.sync.bits)) 0) (ltb (largest k.sync.bits) 2) gathered.1 in
      let first = after_false (ltb a.came k.first) (pick (ltb k.used 4611686018427387904) (not (ltb (2 * (a.came - k.first) + 16) (k.used + k.sync.held + 2 * (a.held + k.runs.count)))) false) bits.1 in
      let used = both_true (ltb k.used 4611686018427387904) (not (ltb (2 * (a.came - k.first) + 16) (k.used + k.sync.held + 2 * (a.held + k.runs.count)))) first.1 in
      let g = runs_ready k.runs sized.pairs runs.0 in
      let f : k.first ≤ a.came = ltb-false a.came k.first first.0 in
      let h : a.came < 1152921504606846976 = ltb-true a.came 1152921504606846976 came_test.0 in
      let c = ltb-false (2 * (a.came - k.first) + 16) (k.used + k.sync.held + 2 * (a.held + k.runs.count)) (not-true _ used.1) in
      record {
        ready =
            record {
              read_known = ltb-true a.rate 6 rate_test.0;
              pending_size = sized.pending;
              pending_few = omega (arith, ltb-true a.held 1633 few.0);
              pending_small = small;
              pending_came = ltb-false a.came a.held among.0;
              reading_of =
                  record {
                    ready =
                        record {
                          runs_ready = g.0;
                          turn_small = ltb-true k.turn 8 turn.0;
                          sync_sized = sized.bits;
                          sync_small = ltb-true k.sync.held 8168 gathered.0;
                          counts = omega (arith, c, f, h);
                        };
                    first_came = f;
                    bits_counted = c;
                  };
            };
        left =
            record {
              zeros = eqb-true (largest (drop k.sync.held k.sync.bits)) 0 zero.0;
              small = front_small k.sync.held k.sync.bits 2 (ltb-true (largest k.sync.bits) 2 zero.1);
            };
        zero = g.1;
      }

  whole : Both a.phase
  whole = both a.phase pending_test.1

  pub range_ready : AcquisitionReady a
  range_ready = record { counts = ltb-true a.came 1152921504606846976 came_test.0; phase_ready = whole.ready }

  pub range_clear : Clear a
  range_clear = record { left = record { pending_zero = eqb-true (largest (drop a.held a.pending)) 0 cells.0; phase_left = whole.left }; runs_zero = whole.zero }

-- ---- what a step leaves is in range when its runs are cleared

zeros_small : (n : ℕ) (l : List ℕ) (size limit : ℕ) → length l ≡ size → n ≤ size → largest (drop n l) ≡ 0 → 0 < limit → All (λ c. c < limit) (take n l) → largest l < limit
zeros_small n l size limit sized few z some small =
    subst (λ (x : List ℕ). largest x < limit) (padded_same size n l sized few z) (padded_small size n l sized few limit some small)

module _ (a : Acquisition) (g : AcquisitionReady a) (l : Left a) where
  pending_passes : length a.pending ≡ 1632 → a.held ≤ 1632 → All (λ p. p < 81) (pending_of a) → a.held ≤ a.came → pending_in_range a.pending a.held a.came ≡ true
  pending_passes size few small came =
      let f : a.held < 1633 = omega arith in
      simp (lt-ltb _ _ f, le-ltb _ _ came, eq-eqb _ _ l.pending_zero, lt-ltb _ _ (zeros_small a.held a.pending 1632 81 size few l.pending_zero (omega arith) small))

  by_phase : (p : Phase) → a.phase ≡ p → PhaseReady a p → PhaseLeft a p → in_range (cleared a) ≡ true
  by_phase Searches e r k =
      let few : a.held ≤ 1632 = omega (arith, r.window_few) in
      let c : cleared_reading a.reading ≡ idle_reading = ap cleared_reading k ∙ idle_cleared in
      simp (
        lt-ltb _ _ r.searched_known,
        lt-ltb _ _ g.counts,
        pending_passes r.window_size few r.window_small r.window_came,
        e,
        lt-ltb _ _ r.window_few,
        ap runs_idle c ∙ idle_runs,
        ap sync_idle c ∙ idle_sync,
      )
  by_phase Reads e r s =
      let k = a.reading in
      let o = r.reading_of in
      let b = o.ready in
      let m : k.used < 4611686018427387904 = omega (arith, b.counts) in
      simp (
        lt-ltb _ _ r.read_known,
        lt-ltb _ _ g.counts,
        pending_passes r.pending_size r.pending_few r.pending_small r.pending_came,
        e,
        cleared_in_range k.runs b.runs_ready,
        lt-ltb _ _ b.turn_small,
        lt-ltb _ _ b.sync_small,
        eq-eqb _ _ s.zeros,
        lt-ltb _ _ (zeros_small k.sync.held k.sync.bits 8168 2 b.sync_sized (omega (arith, b.sync_small)) s.zeros (omega arith) s.small),
        le-ltb _ _ o.first_came,
        lt-ltb _ _ m,
        le-ltb _ _ o.bits_counted,
      )

  pub left_in_range : in_range (cleared a) ≡ true
  left_in_range = by_phase a.phase refl g.phase_ready l.phase_left

-- an acquisition that is clear is itself when its runs are cleared
clear_phase : (a : Acquisition) (p : Phase) → PhaseReady a p → PhaseLeft a p → largest (drop a.reading.runs.count a.reading.runs.held) ≡ 0 → cleared_reading a.reading ≡ a.reading
clear_phase a Searches r k z = ap cleared_reading k ∙ idle_cleared ∙ sym k
clear_phase a Reads r k z =
    let e = cleared_same a.reading.runs r.reading_of.ready.runs_ready z in
    λ i. record { turn = a.reading.turn; runs = e i; sync = a.reading.sync; first = a.reading.first; used = a.reading.used }

pub clear_reading : (a : Acquisition) → AcquisitionReady a → Clear a → cleared_reading a.reading ≡ a.reading
clear_reading a g c = clear_phase a a.phase g.phase_ready c.left.phase_left c.runs_zero

pub clear_same : (a : Acquisition) → AcquisitionReady a → Clear a → cleared a ≡ a
clear_same a g c =
    let e = clear_reading a g c in
    λ i. record { rate = a.rate; mirrored = a.mirrored; phase = a.phase; reading = e i; pending = a.pending; held = a.held; came = a.came }

-- an acquisition that is ready is ready when its runs are cleared
ready_phase : (a : Acquisition) (p : Phase) → PhaseReady a p → PhaseReady (cleared a) p
ready_phase a Searches r = record { searched_known = r.searched_known; window_size = r.window_size; window_few = r.window_few; window_small = r.window_small; window_came = r.window_came }
ready_phase a Reads r =
    let b = r.reading_of.ready in
    record {
      read_known = r.read_known;
      pending_size = r.pending_size;
      pending_few = r.pending_few;
      pending_small = r.pending_small;
      pending_came = r.pending_came;
      reading_of =
          record {
            ready =
                record {
                  runs_ready = cleared_ready a.reading.runs b.runs_ready;
                  turn_small = b.turn_small;
                  sync_sized = b.sync_sized;
                  sync_small = b.sync_small;
                  counts = b.counts;
                };
            first_came = r.reading_of.first_came;
            bits_counted = r.reading_of.bits_counted;
          };
    }

pub ready_cleared : (a : Acquisition) → AcquisitionReady a → AcquisitionReady (cleared a)
ready_cleared a g = record { counts = g.counts; phase_ready = ready_phase a a.phase g.phase_ready }

-- what a step leaves can be written
writable_phase : (a : Acquisition) (p : Phase) → PhaseReady a p → PhaseLeft a p → Writable a
unfolding idle_reading fresh_block_sync
writable_phase a Searches r k = record {
  searched_fits = omega (arith, r.searched_known);
  turn_fits = subst (λ (x : Reading). x.turn < 64) (sym k) (omega arith);
  held_fits = omega (arith, r.window_few);
  gathered_fits = subst (λ (x : Reading). x.sync.held < 65536) (sym k) (omega arith);
  count_fits = subst (λ (x : Reading). x.runs.count ≤ 1632) (sym k) (omega arith);
  pending_size = r.window_size;
  pairs_size = ap (λ (x : Reading). length x.runs.held) k;
  bits_size = ap (λ (x : Reading). length x.sync.bits) k;
}
writable_phase a Reads r k =
    let b = r.reading_of.ready in
    record {
      searched_fits = omega (arith, r.read_known);
      turn_fits = omega (arith, b.turn_small);
      held_fits = omega (arith, r.pending_few);
      gathered_fits = omega (arith, b.sync_small);
      count_fits = omega (arith, b.runs_ready.below, (numbers a.reading.runs.rate b.runs_ready.known).full_most);
      pending_size = r.pending_size;
      pairs_size = b.runs_ready.size;
      bits_size = b.sync_sized;
    }

pub left_writable : (a : Acquisition) → AcquisitionReady a → Left a → Writable a
left_writable a g l = writable_phase a a.phase g.phase_ready l.phase_left

-- the counts of an acquisition in range fit eight bytes
pub record CountsFit (a : Acquisition) : Type 0 where
  pub came : a.came < 18446744073709551616
  pub first : a.reading.first < 18446744073709551616
  pub used : a.reading.used < 18446744073709551616

counts_phase : (a : Acquisition) (p : Phase) → a.came < 1152921504606846976 → phase_in_range a p ≡ true → CountsFit a
counts_phase a Searches h e =
    let k = a.reading in
    let w = both_true (ltb a.held 1632) (pick (runs_idle k) (sync_idle k) false) e in
    let i = both_true (runs_idle k) (sync_idle k) w.1 in
    let rest = pick (eqb k.first 0) (pick (eqb k.used 0) (eqb (largest k.sync.bits) 0) false) false in
    let locked = after_false k.sync.lock.locked (pick k.sync.lock.inverted false (pick (eqb k.sync.held 0) rest false)) i.1 in
    let inverted = after_false k.sync.lock.inverted (pick (eqb k.sync.held 0) rest false) locked.1 in
    let held = both_true (eqb k.sync.held 0) rest inverted.1 in
    let first = both_true (eqb k.first 0) (pick (eqb k.used 0) (eqb (largest k.sync.bits) 0) false) held.1 in
    let used = both_true (eqb k.used 0) (eqb (largest k.sync.bits) 0) first.1 in
    record { came = omega arith; first = omega (arith, eqb-true k.first 0 first.0); used = omega (arith, eqb-true k.used 0 used.0) }
counts_phase a Reads h e =
    let k = a.reading in
    let last = not (ltb (2 * (a.came - k.first) + 16) (k.used + k.sync.held + 2 * (a.held + k.runs.count))) in
    let runs = both_true (runs_in_range k.runs) (pick (ltb k.turn 8) (pick (bits_in_range k.sync) (counts_in_range a) false) false) e in
    let turn = both_true (ltb k.turn 8) (pick (bits_in_range k.sync) (counts_in_range a) false) runs.1 in
    let bits = both_true (bits_in_range k.sync) (counts_in_range a) turn.1 in
    let first = after_false (ltb a.came k.first) (pick (ltb k.used 4611686018427387904) last false) bits.1 in
    let used = both_true (ltb k.used 4611686018427387904) last first.1 in
    record {
      came = omega arith;
      first = omega (arith, ltb-false a.came k.first first.0);
      used = omega (arith, ltb-true k.used 4611686018427387904 used.0);
    }

pub counts_fit : (a : Acquisition) → in_range a ≡ true → CountsFit a
counts_fit a r =
    let phase = pick (pending_in_range a.pending a.held a.came) (phase_in_range a a.phase) false in
    let rate = both_true (ltb a.rate 6) (pick (ltb a.came 1152921504606846976) phase false) r in
    let came = both_true (ltb a.came 1152921504606846976) phase rate.1 in
    let pending = both_true (pending_in_range a.pending a.held a.came) (phase_in_range a a.phase) came.1 in
    counts_phase a a.phase (ltb-true a.came 1152921504606846976 came.0) pending.1
