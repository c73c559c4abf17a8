-- Every step of the end leaves less to do, until it is over.
-- Assumes nothing.
use mathlib.Core.Path.{◌≡◌, refl, sym, ◌∙◌, ap, subst}
use mathlib.Core.Bool.{Bool, true, false, true≢false}
use mathlib.Core.List.{List, []}
use Prim.Native.Nat.{ℕ, ◌+◌, ◌*◌, ◌<◌}
use native.Mathlib.Omega.{arith}
use lib.ListN.{length, take, drop, length-drop, length-take}
use Rattle.reader_stream.proofs.Runs.{held_length}
use Rattle.acquisition.specs.Step.{pending_of, searching_on, ReadReady, AcquisitionReady, ends_reading, lost_reading, after_reading}
use Rattle.acquisition.specs.End.{over_with, proceeds, end_of_blocks, EndsBlocks, EndsPending, EndsRuns, end_measure, EndCounts}
use Rattle.acquisition.specs.declared.Reading.{Reading}
use Rattle.acquisition.specs.declared.ReadStep.{ReadStep}
use Rattle.acquisition.specs.declared.Phase.TheVariants.{Reads}
use Rattle.acquisition.specs.declared.Acquisition.{Acquisition}
use Rattle.acquisition.specs.declared.EndStep.{EndStep}
use Rattle.acquisition.specs.declared.Event.{Event}
use Rattle.acquisition.specs.declared.Event.TheVariants.{Waits, Block, Lost}
use Rattle.acquisition.proofs.Bits.{taken_few}
use Rattle.acquisition.proofs.Symbols.{run_counts}
use Rattle.acquisition.proofs.Ready.{searching_ready, pending_length, read_taken}
use Rattle.acquisition.proofs.Events.{settled_known, last_known, block_given_lem, few_left}
use Rattle.acquisition.proofs.Ends.{finish_counts}
use Rattle.acquisition.specs.Reading.{RateKnown}
use Prim.{tt}
use Rattle.acquisition.proofs.Counts.{after_came, pending_counts, closed_ready, runs_closed, blocks_closed}

-- ---- what is left to do

reads_measure : (s : Acquisition) → s.phase ≡ Reads → end_measure s ≡ 1 + s.reading.sync.held + 4 * s.reading.runs.count + 5 * s.held
reads_measure s e = rw e refl

after_measure : (s : Acquisition) (t : ReadStep) (pending : List ℕ) (came m : ℕ) → 1 + t.reading.sync.held + 4 * t.reading.runs.count + 5 * length pending < m
    → (event : Event) → end_measure (after_reading s t pending came event) < m
after_measure s t pending came m h Waits = h
after_measure s t pending came m h (Block b) = h
after_measure s t pending came m h Lost = by (ends_reading s.reading.sync.lock.locked s.reading.used)
  where
    by : (ends : Bool) → end_measure (lost_reading s t.reading pending came ends) < m
    by true = omega (arith, h)
    by false = h

-- ---- the steps

pub over_counts : (s : Acquisition) (left : ℕ) (t : Acquisition) → t.came ≡ s.came → left < 1632 → EndCounts s (over_with t left)
over_counts s left t e h = record { came_is = e; rate_known = tt; left_few = h; goes = λ p. absurd (true≢false p) }

pub pending_end_counts : (s : Acquisition) (r : EndStep) → ReadReady s → s.phase ≡ Reads → 0 < s.held → EndsPending s r → EndCounts s r
pending_end_counts s r g ph h x =
    let y = x.reads in
    let t = y.read in
    let c = pending_counts s [] x.step g h y in
    let l = drop t.taken (pending_of s) in
    let n = pending_length s g.pending_size g.pending_few in
    let k = read_taken s.reading (pending_of s) t g.reading_of.ready y.reads in
    let z = y.reads in
    let d = z.settles.decided in
    let ready = g.reading_of.ready in
    let few = taken_few s.reading.sync (take z.count z.exit) d ready.sync_sized ready.sync_small z.settles.takes in
    let runs = run_counts ready.runs_ready z.ready z.feeds in
    let held : t.reading.sync.held ≡ d.sync.held = ap (λ (q : Reading). q.sync.held) z.settles.reading in
    let count : t.reading.runs.count ≡ z.next.count = ap (λ (q : Reading). q.runs.count) z.settles.reading in
    let less : 1 + t.reading.sync.held + 4 * t.reading.runs.count + 5 * length l < end_measure s =
    omega (
      arith,
      reads_measure s ph,
      held,
      count,
      few.whole,
      length-take z.count z.exit,
      runs.balance,
      z.settles.taken_is,
      length-drop t.taken (pending_of s),
      n,
      k.0,
      k.1 (omega (arith, n, h)),
    ) in
    let m : end_measure (after_reading s t l s.came t.event) < end_measure s = after_measure s t l s.came (end_measure s) less t.event in
    subst (EndCounts s) (sym x.result)
    (record {
      came_is = omega (arith, c.came_is, ap (λ q. q.taken) y.result);
      rate_known = c.rate_known;
      left_few = tt;
      goes = λ p. rw y.result m;
    })

pub runs_end_counts : (s : Acquisition) (r : EndStep) → ReadReady s → s.phase ≡ Reads → 0 < s.reading.runs.count → s.held ≡ 0 → EndsRuns s r → EndCounts s r
runs_end_counts s r g ph h e x =
    let t = x.step in
    let y = x.closes in
    let ready = g.reading_of.ready in
    let c = runs_closed s.reading t ready y in
    let none : t.reading.runs.count ≡ 0 =
    ap (λ (q : Reading). q.runs.count) y.settles.reading ∙ sym (held_length y.opened y.ready) ∙ ap length y.empty.held_is in
    let less : 1 + t.reading.sync.held + 4 * t.reading.runs.count + 5 * length {A = ℕ} [] < end_measure s = omega (arith, reads_measure s ph, c.held_most, none, h) in
    subst (EndCounts s) (sym x.result)
    (record {
      came_is = after_came s t [] s.came t.event;
      rate_known = settled_known ready.runs_ready.known y.settles;
      left_few = tt;
      goes = λ p. after_measure s t [] s.came (end_measure s) less t.event;
    })

pub blocks_end_counts : (s : Acquisition) (r : EndStep) → ReadReady s → s.phase ≡ Reads → EndsBlocks s r → EndCounts s r
blocks_end_counts s r g ph x = subst (EndCounts s) (sym x.result) (by x.step.event refl)
  where
    on : end_measure (after_reading s x.step [] s.came x.step.event) < end_measure s → EndCounts s (proceeds s x.step)
    on m = record {
      came_is = after_came s x.step [] s.came x.step.event;
      rate_known = subst RateKnown (sym x.closes.event_is) (last_known _ x.closes.decided.block s.reading.sync.held (λ z. g.reading_of.ready.runs_ready.known));
      left_few = tt;
      goes = λ p. m;
    }

    by : (e : Event) → x.step.event ≡ e → EndCounts s (end_of_blocks s x.step e)
    by Waits q = over_counts s s.reading.sync.held (searching_on s.rate s.mirrored [] s.came) refl (few_left _ s.reading.sync.held (sym x.closes.event_is ∙ q))
    by (Block b) q =
        let c = finish_counts s.reading.sync x.closes.decided g.reading_of.ready.sync_sized g.reading_of.ready.sync_small x.closes.finishes in
        let used = c.uses_block (block_given_lem _ x.closes.decided.block s.reading.sync.held (sym x.closes.event_is ∙ q)) in
        let held : x.step.reading.sync.held ≡ x.closes.decided.sync.held = ap (λ (k : Reading). k.sync.held) x.closes.reading in
        let count : x.step.reading.runs.count ≡ s.reading.runs.count = ap (λ (k : Reading). k.runs.count) x.closes.reading in
        on (after_measure s x.step [] s.came (end_measure s) (omega (arith, reads_measure s ph, c.whole, used, held, count)) x.step.event)
    by Lost q = record {
      came_is = refl;
      rate_known = tt;
      left_few = tt;
      goes = λ p. omega (arith, reads_measure s ph);
    }

pub blocks_ready : (s : Acquisition) (r : EndStep) → ReadReady s → s.came < 1152921504606846976 → s.held ≡ 0 → EndsBlocks s r → AcquisitionReady r.acquisition
blocks_ready s r g b z x = subst (λ (y : EndStep). AcquisitionReady y.acquisition) (sym x.result) (by x.step.event)
  where
    by : (e : Event) → AcquisitionReady (end_of_blocks s x.step e).acquisition
    by Waits = searching_ready s.rate s.mirrored [] s.came g.read_known (omega arith) tt (omega arith) b
    by (Block found) = closed_ready s x.step g b z (blocks_closed s.reading x.step g.reading_of.ready x.closes) x.step.event
    by Lost = searching_ready s.rate s.mirrored [] s.came g.read_known (omega arith) tt (omega arith) b
