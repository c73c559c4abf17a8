-- A lock with zeros where it holds nothing: its bytes stand for it, and a step that leaves a lock leaves that one too.
-- Assumes nothing.
use mathlib.Core.Path.{◌≡◌, refl, sym, ap, ap₂, subst, ◌∙◌}
use mathlib.Core.Bool.{Bool, true, false}
use mathlib.Core.List.{List, [], ◌∷◌, ◌++◌}
use Prim.Native.Nat.{ℕ, zero, suc, ◌-◌, ◌*◌, ◌≤◌, ◌<◌}
use Prim.{tt}
use native.Mathlib.Omega.{arith}
use borrow.Author.Tests.{eq-eqb, eqb-true, lt-ltb}
use lib.ListN.{length, take, drop}
use lib.Seq.{take-take}
use Rattle.common.specs.Choice.{pick}
use Rattle.common.specs.Lists.{All, chunks, padded}
use Rattle.common.proofs.Choice.{false_true}
use Rattle.common.proofs.Lists.{All-append}
use Rattle.state_bytes.specs.Table.{Field, fields_within}
use Rattle.state_bytes.proofs.Fields.{◌&◌}
use Rattle.reception_counts.proofs.Numbers.{length_to}
use Rattle.reception_counts.proofs.Ranges.{counts_range}
use Rattle.receiver.proofs.Calls.{state_range}
use Rattle.receiver.proofs.Reached.{Sound}
use Rattle.receiver_state.specs.State as receiver
use Rattle.receiver_state.proofs.States as receiver-states
use Rattle.reader_state.proofs.Cleared.{padded_length, padded_front, padded_behind, padded_same}
use Rattle.acquisition.specs.Step.{AcquisitionReady}
use Rattle.acquisition.specs.End.{phase_measure}
use Rattle.acquisition.specs.declared.Phase.{Phase}
use Rattle.acquisition.specs.declared.Phase.TheVariants.{Searches, Reads}
use Rattle.acquisition.proofs.Ready.{take-drop}
use Rattle.acquisition.specs.declared.Acquisition.{Acquisition}
use Rattle.acquisition_state.specs.State as acquisition
use Rattle.acquisition_state.proofs.Ranges.{Left, Clear, range_ready, range_clear, left_in_range, left_writable, clear_reading, clear_same, ready_cleared}
use Rattle.acquisition_state.proofs.Ranges as acquisition-ranges
use Rattle.acquisition_state.proofs.Steps.{steps_left, steps_cleared, cleared_result, ends_left, ends_cleared, cleared_end}
use Rattle.losses.specs.Watch.{waiting_of}
use Rattle.lock_receiver.specs.Take.{waiting_packets, lock_in_range}
use Rattle.lock_receiver.proofs.Ranges.{lock_range}
use Rattle.lock_receiver.specs.declared.LockReceiver.{LockReceiver}
use Rattle.acquisition.specs.declared.Event.{Event}
use Rattle.lock_stream.specs.Progress.{Takes, lost_progress, Tells, nothing_told, lock_begins, lock_goes_on, lock_ends}
use Rattle.lock_stream.specs.Source.{SourceReady, UsedReady, SourceSteps, symbols_step, bits_step, SourceEnds, symbols_end, bits_end_lem, ends_ahead}
use Rattle.lock_stream.specs.Stream.{StreamReady, StepsStream, EndsStream}
use Rattle.lock_stream.specs.declared.LockStream.{LockStream}
use Rattle.lock_stream.specs.declared.StreamStep.{StreamStep}
use Rattle.lock_stream.specs.declared.StreamEnd.{StreamEnd}
use Rattle.lock_stream.specs.declared.progress.LockProgress.{LockProgress}
use Rattle.lock_stream.specs.declared.source.LockSource.{LockSource}
use Rattle.lock_stream.specs.declared.source.SourceStep.{SourceStep}
use Rattle.lock_stream.specs.declared.source.SourceEnd.{SourceEnd}
use Rattle.lock_state.specs.State.{own, state_bytes, in_range, StandsFor, Sized, BlocksSized, NextSized, cleared_receiver, cleared_progress, cleared}
use Rattle.lock_state.proofs.Table.{InRange, ranges, few_waiting}

-- ---- a lock in range

module _ (s : LockStream) (z : Sized s) (r : in_range s ≡ true) where
  within : InRange s
  within = ranges s r

  sized : acquisition-ranges.Sized s.source.symbols
  sized = record { pending = z.pending; pairs = z.pairs; bits = z.bits }

  symbols_ready : AcquisitionReady s.source.symbols
  symbols_ready = range_ready s.source.symbols sized within.symbols

  symbols_clear : Clear s.source.symbols
  symbols_clear = range_clear s.source.symbols sized within.symbols

  -- is ready
  pub range_stream : StreamReady s
  range_stream = record {
    source = record { used = subst (UsedReady s') (sym within.symbols_come) symbols_ready };
    receiver = within.receiver;
  }
    where
      s' : LockSource
      s' = s.source

  waiting_few : waiting_of s.progress.receiver.certainty ≤ 7
  waiting_few = few_waiting s.progress.receiver within.receiver

  -- has zeros behind the packets that wait
  receiver_same : cleared_receiver s.progress.receiver ≡ s.progress.receiver
  receiver_same =
      let v = s.progress.receiver in
      let e = padded_same 1316 (188 * waiting_of v.certainty) v.packets z.packets (omega (arith, waiting_few)) (eqb-true _ 0 within.packets) in
      λ i. record { receiver = v.receiver; certainty = v.certainty; packets = e i }

  progress_same : cleared_progress s.progress ≡ s.progress
  progress_same =
      let p = s.progress in
      let e = receiver_same in
      λ i. record { found = p.found; locked = p.locked; receiver = e i; skipped = p.skipped; end = p.end }

-- ---- the packets that wait

chunks-take : (n k : ℕ) (l : List ℕ) → 188 * n ≤ k → chunks 188 n (take k l) ≡ chunks 188 n l
unfolding chunks
chunks-take zero k l h = refl
chunks-take (suc n) k l h =
    let e : take 188 (take k l) ≡ take 188 l = take-take 188 k l (omega arith) in
    let d : drop 188 (take k l) ≡ take (k - 188) (drop 188 l) = sym (take-drop 188 k l (omega arith)) in
    ap₂ (λ (x : List ℕ) (y : List (List ℕ)). x ∷ y) e (ap (chunks 188 n) d ∙ chunks-take n (k - 188) (drop 188 l) (omega arith))

-- the same packets wait
waiting_cleared : (v : LockReceiver) → length v.packets ≡ 1316 → waiting_of v.certainty ≤ 7 → waiting_packets (cleared_receiver v) ≡ waiting_packets v
waiting_cleared v n few =
    let k = waiting_of v.certainty in
    let front = padded_front 1316 (188 * k) v.packets n (omega arith) in
    sym (chunks-take k (188 * k) (padded 1316 (take (188 * k) v.packets)) (omega arith)) ∙ ap (chunks 188 k) front ∙ chunks-take k (188 * k) v.packets (omega arith)

takes_cleared : {v next : LockReceiver} {block given lines : List ℕ} → length next.packets ≡ 1316 → waiting_of next.certainty ≤ 7 → Takes v block given lines next
    → Takes v block given lines (cleared_receiver next)
takes_cleared {next = next} n few t =
    let o = t.takes in
    let r = t.step in
    let e : r.lock ≡ next = sym t.next_is in
    let size : length r.lock.packets ≡ 1316 = ap (λ (v : LockReceiver). length v.packets) e ∙ n in
    let small : waiting_of r.lock.certainty ≤ 7 = subst (λ (v : LockReceiver). waiting_of v.certainty ≤ 7) t.next_is few in
    record {
      packets_room = t.packets_room;
      lines_room = t.lines_room;
      packets_exit = t.packets_exit;
      lines_exit = t.lines_exit;
      step = record { number = r.number; given = r.given; told = r.told; lock = cleared_receiver r.lock };
      takes =
          record {
            call = o.call;
            lent = o.lent;
            plain = o.plain;
            decodes = o.decodes;
            output_fits = o.output_fits;
            answered = o.answered;
            packet_size = o.packet_size;
            state = o.state;
            certainty = o.certainty;
            waits = waiting_cleared r.lock size small ∙ o.waits;
            gives = o.gives;
            tells = o.tells;
          };
      given_is = t.given_is;
      lines_are = t.lines_are;
      next_is = ap cleared_receiver t.next_is;
    }

tells_cleared : {bits : Bool} {p next : LockProgress} {packets text : List ℕ} {e : Event} → cleared_progress p ≡ p → length next.receiver.packets ≡ 1316
    → waiting_of next.receiver.certainty ≤ 7 → Tells bits p packets text next e → Tells bits p packets text (cleared_progress next) e
tells_cleared same n few (nothing_told a b q) = nothing_told a b (ap cleared_progress q ∙ same)
tells_cleared same n few (lock_begins b lines v w t x q) =
    let k : LockReceiver → Type 0 = λ v. (length v.packets ≡ 1316) × (waiting_of v.certainty ≤ 7) in
    let f = subst k (ap (λ (p : LockProgress). p.receiver) q) (n, few) in
    lock_begins b lines (cleared_receiver v) w (takes_cleared f.0 f.1 t) x (ap cleared_progress q)
tells_cleared same n few (lock_goes_on b lines v w t x q) =
    let k : LockReceiver → Type 0 = λ v. (length v.packets ≡ 1316) × (waiting_of v.certainty ≤ 7) in
    let f = subst k (ap (λ (p : LockProgress). p.receiver) q) (n, few) in
    lock_goes_on b lines (cleared_receiver v) w (takes_cleared f.0 f.1 t) x (ap cleared_progress q)
tells_cleared same n few (lock_ends a x q) = lock_ends a x (ap cleared_progress q ∙ ap lost_progress same)

-- ---- a step

-- as much is left to do at the end
measure_cleared : (a : Acquisition) (p : Phase) → phase_measure (acquisition.cleared a) p ≡ phase_measure a p
measure_cleared a Searches = refl
measure_cleared a Reads = refl

abbrev cleared_source : LockSource → LockSource
cleared_source s = record { bits = s.bits; symbols = acquisition.cleared s.symbols }

ahead_cleared : (s : LockSource) → ends_ahead (cleared_source s) ≡ ends_ahead s
ahead_cleared s = ap (λ (m : ℕ). pick s.bits s.symbols.reading.sync.held m) (measure_cleared s.symbols s.symbols.phase)

source_ready : (s : LockSource) → s.bits ≡ false → SourceReady s → SourceReady (cleared_source s)
source_ready s e g = record { used = subst (UsedReady (cleared_source s)) (sym e) (ready_cleared s.symbols (subst (UsedReady s) e g.used)) }

module _ (s : LockStream) (z : Sized s) (r : in_range s ≡ true) where
  source_left : {piece : List ℕ} {t : SourceStep} → SourceSteps s.source piece t → Left t.source.symbols
  source_left (symbols_step e a x q) =
      subst (λ (t : SourceStep). Left t.source.symbols) (sym q) (steps_left s.source.symbols (symbols_ready s z r) (symbols_clear s z r) x)
  source_left (bits_step e a x q) = false_true (sym (within s z r).symbols_come ∙ e)

  source_cleared : {piece : List ℕ} {t : SourceStep} → SourceSteps s.source piece t
      → SourceSteps s.source piece (record { source = cleared_source t.source; taken = t.taken; event = t.event })
  source_cleared (symbols_step e a x q) =
      symbols_step e (cleared_result a) (steps_cleared s.source.symbols x) (ap (λ (t : SourceStep). record { source = cleared_source t.source; taken = t.taken; event = t.event }) q)
  source_cleared (bits_step e a x q) = false_true (sym (within s z r).symbols_come ∙ e)

  module _ {piece packets text : List ℕ} (t : StreamStep) (h : StepsStream s piece t packets text) where
    pub step_come : t.stream.source.bits ≡ false
    step_come = ap (λ (x : LockSource). x.bits) h.steps.source_is ∙ h.steps.source_steps.same ∙ (within s z r).symbols_come

    pub step_left : Left t.stream.source.symbols
    step_left = subst (λ (x : LockSource). Left x.symbols) (sym h.steps.source_is) (source_left h.steps.source_steps.steps)

    pub step_cleared : length t.stream.progress.receiver.packets ≡ 1316 → waiting_of t.stream.progress.receiver.certainty ≤ 7
        → StepsStream s piece (record { stream = cleared t.stream; taken = t.taken; packets = t.packets; text = t.text }) packets text
    step_cleared n few =
        let k = h.steps in
        let a = k.source_steps in
        let come : k.step.source.bits ≡ false = a.same ∙ (within s z r).symbols_come in
        let ready : SourceReady (cleared_source k.step.source) = source_ready k.step.source come a.ready in
        record {
          steps =
              record {
                step = record { source = cleared_source k.step.source; taken = k.step.taken; event = k.step.event };
                source_steps =
                    record { steps = source_cleared a.steps; ready = ready; same = a.same; within = a.within; counted = a.counted; known = a.known; goes = a.goes };
                taken_is = k.taken_is;
                source_is = ap cleared_source k.source_is;
                tells = tells_cleared (progress_same s z r) n few k.tells;
              };
          packets_fit = h.packets_fit;
          text_fits = h.text_fits;
          ready = record { source = subst SourceReady (sym (ap cleared_source k.source_is)) ready; receiver = h.ready.receiver };
        }

  -- ---- a step of the end

  source_end_left : {t : SourceEnd} → SourceEnds s.source t → Left t.source.symbols
  source_end_left (symbols_end e a x q) =
      subst (λ (t : SourceEnd). Left t.source.symbols) (sym q) (ends_left s.source.symbols (symbols_ready s z r) (symbols_clear s z r) x)
  source_end_left (bits_end_lem e a x q) = false_true (sym (within s z r).symbols_come ∙ e)

  source_end_cleared : {t : SourceEnd} → SourceEnds s.source t
      → SourceEnds s.source (record { source = cleared_source t.source; event = t.event; over = t.over })
  source_end_cleared (symbols_end e a x q) =
      symbols_end e (cleared_end a) (ends_cleared s.source.symbols (clear_reading s.source.symbols (symbols_ready s z r) (symbols_clear s z r)) (clear_same s.source.symbols (symbols_ready s z r) (symbols_clear s z r)) x)
      (ap (λ (t : SourceEnd). record { source = cleared_source t.source; event = t.event; over = t.over }) q)
  source_end_cleared (bits_end_lem e a x q) = false_true (sym (within s z r).symbols_come ∙ e)

  module _ {packets text : List ℕ} (t : StreamEnd) (h : EndsStream s t packets text) where
    pub end_come : t.stream.source.bits ≡ false
    end_come = ap (λ (x : LockSource). x.bits) h.ends.source_is ∙ h.ends.source_ends.same ∙ (within s z r).symbols_come

    pub end_left : Left t.stream.source.symbols
    end_left = subst (λ (x : LockSource). Left x.symbols) (sym h.ends.source_is) (source_end_left h.ends.source_ends.ends)

    pub end_cleared : length t.stream.progress.receiver.packets ≡ 1316 → waiting_of t.stream.progress.receiver.certainty ≤ 7
        → EndsStream s (record { stream = cleared t.stream; packets = t.packets; text = t.text; over = t.over }) packets text
    end_cleared n few =
        let k = h.ends in
        let a = k.source_ends in
        let come : k.end.source.bits ≡ false = a.same ∙ (within s z r).symbols_come in
        let ready : SourceReady (cleared_source k.end.source) = source_ready k.end.source come a.ready in
        record {
          ends =
              record {
                end = record { source = cleared_source k.end.source; event = k.end.event; over = k.end.over };
                source_ends = record { ends = source_end_cleared a.ends; ready = ready; same = a.same; counted = a.counted; known = a.known; few = a.few; goes = λ o. subst (λ (m : ℕ). m < ends_ahead s.source) (sym (ahead_cleared k.end.source)) (a.goes o) };
                over_is = k.over_is;
                source_is = ap cleared_source k.source_is;
                tells = tells_cleared (progress_same s z r) n few k.tells;
              };
          packets_fit = h.packets_fit;
          text_fits = h.text_fits;
          ready = record { source = subst SourceReady (sym (ap cleared_source k.source_is)) ready; receiver = h.ready.receiver };
        }

-- ---- the bytes of a lock that is cleared stand for it

sized_in : {S T : Type 0} (inner : T → S) (t : T) (fs : List (Field S)) → All (λ f. length (f.held (inner t)) ≡ f.size) fs → All (λ f. length (f.held t) ≡ f.size) (fields_within inner fs)
sized_in inner t [] h = tt
sized_in inner t (f ∷ fs) h = (h.0, sized_in inner t fs h.1)

sound_receiver : (v : LockReceiver) → lock_in_range v ≡ true → BlocksSized v.receiver → Sound v.receiver
sound_receiver v l b =
    let r = state_range v.receiver (lock_range v l).receiver in
    record {
      branches = record { cells = b.cells; positions = b.positions; range = r.branches };
      marks = b.marks;
      small = r.marks;
      sync = r.sync;
      counts = counts_range v.receiver.counts r.counts;
    }

pub stands_cleared : (s : LockStream) → StreamReady s → s.source.bits ≡ false → Left s.source.symbols → NextSized s → StandsFor (state_bytes (cleared s)) (cleared s)
stands_cleared s g come l n =
    let a = s.source.symbols in
    let v = s.progress.receiver in
    let ready : AcquisitionReady a = subst (UsedReady s.source) come g.source.used in
    let w = left_writable a ready l in
    let few = few_waiting v g.receiver in
    let t = cleared s in
    let m : 188 * waiting_of v.certainty ≤ 1316 = omega arith in
    record {
      written = refl;
      sized =
          All-append (λ (f : Field LockStream). length (f.held t) ≡ f.size) (fields_within (λ s. s.progress.receiver.receiver) receiver.layout) (fields_within (λ s. s.source.symbols) acquisition.layout ++ own)
          (sized_in (λ (s : LockStream). s.progress.receiver.receiver) t receiver.layout (receiver-states.stands_written v.receiver (sound_receiver v g.receiver n.blocks)).sized)
          (All-append (λ (f : Field LockStream). length (f.held t) ≡ f.size) (fields_within (λ s. s.source.symbols) acquisition.layout) own
          (sized_in (λ (s : LockStream). s.source.symbols) t acquisition.layout
          (w.pending_size & padded_length 1632 a.reading.runs.count a.reading.runs.held w.pairs_size w.count_fits & w.bits_size & refl & refl & refl & length_to 8 a.came & length_to 8 a.reading.first & length_to 8 a.reading.used & refl & refl & refl & refl & tt))
          (length_to 8 s.progress.skipped & length_to 8 s.progress.end & refl & padded_length 1316 (188 * waiting_of v.certainty) v.packets n.packets m & tt));
      range =
          simp (
            come,
            left_in_range a ready l,
            g.receiver,
            eq-eqb _ _ (padded_behind 1316 (188 * waiting_of v.certainty) v.packets n.packets m),
            lt-ltb _ _ n.skipped,
            lt-ltb _ _ n.end,
          );
    }
