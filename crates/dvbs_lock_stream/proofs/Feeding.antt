-- A step of the library's stream on the state that is read, and its bytes after it, are what a call on the bytes promises.
-- Assumes nothing.
use Rattle.std.specs.Prelude.{Option, Some, is_some}
use mathlib.Core.Path.{◌≡◌, refl, sym, ap, subst, ◌∙◌}
use mathlib.Core.Bool.{Bool, true, false}
use mathlib.Core.List.{List, [], map}
use Prim.Native.Nat.{ℕ, ◌≤◌, ◌<◌, min}
use native.Mathlib.Omega.{arith}
use borrow.Author.Tests.{ltb-true, ltb-false}
use lib.Dec.{ltb}
use lib.Ieee.{Float, nan}
use lib.ListN.{length, get_or, set, take, length-take, length-map}
use lib.Seq.{length-take-le, ext_get_or, get_or-take}
use Rattle.std.specs.Prelude.{None}
use Rattle.common.specs.Choice.{pick, indicator}
use Rattle.common.specs.Lists.{All, ByteEntries}
use Rattle.common.proofs.Choice.{false_true}
use Rattle.common.proofs.Lists.{get_d_map_in}
use Rattle.state_bytes.specs.Calls.{CallsOn, no_state, as_own}
use Rattle.state_bytes.proofs.States.{stands_read, none_stands}
use Rattle.branch_metrics.specs.Cost.{received, received_of}
use Rattle.branch_metrics.specs.SoftPairs.{symbol_pair, symbol_at}
use Rattle.branch_metrics.proofs.Runs.{length_received, received_at, along_small}
use Rattle.reader.specs.Read.{sound}
use Rattle.reader.proofs.SoftDecisions.{OneLength, sound_lists}
use Rattle.losses.specs.Watch.{waiting_of}
use Rattle.acquisition.specs.Step.{fresh_acquisition}
use Rattle.acquisition.specs.End.{EndsAcquisition, no_reading, pending_end, runs_end, blocks_end, end_of_blocks}
use Rattle.acquisition.specs.declared.Acquisition.{Acquisition}
use Rattle.acquisition.specs.declared.EndStep.{EndStep}
use Rattle.acquisition.specs.declared.Event.{Event}
use Rattle.acquisition.specs.declared.Event.TheVariants.{Waits, Block, Lost}
use Rattle.acquisition_state.specs.State.{Writable}
use Rattle.acquisition_state.proofs.Ranges.{Left, left_writable}
use Rattle.acquisition_state.proofs.Steps.{searching_left, searching_cleared}
use Rattle.lock_receiver.specs.Take.{fresh_lock}
use Rattle.lock_stream.specs.Progress.{closing_text, fresh_progress, Tells, nothing_told, lock_begins, lock_goes_on, lock_ends}
use Rattle.lock_stream.specs.Source.{came_of, fresh_source, UsedReady, SourceEnds, symbols_end, bits_end_lem}
use Rattle.lock_stream.specs.Stream.{fresh_stream, StreamReady, StepsStream, StreamEnds, EndsStream}
use Rattle.lock_stream.specs.declared.LockStream.{LockStream}
use Rattle.lock_stream.specs.declared.StreamStep.{StreamStep}
use Rattle.lock_stream.specs.declared.StreamEnd.{StreamEnd}
use Rattle.lock_stream.specs.declared.progress.LockProgress.{LockProgress}
use Rattle.lock_stream.specs.declared.source.LockSource.{LockSource}
use Rattle.lock_stream.specs.declared.source.SourceEnd.{SourceEnd}
use Rattle.lock_state.specs.State.{layout, state_length, state_bytes, in_range, StandsFor, Sized, NextSized, cleared}
use Rattle.lock_state.specs.Reading.{state_of}
use Rattle.dvbs_lock_stream.specs.Calls.{short_room, points_due, end_due, counted, GivesTold, refused, no_points, stepped, FeedsLock, StepsEnd, goes_on, ended, refused_end, end_stepped, EndsLock, LeavesStep, LeavesEnd, ClosesLines, not_over, closed}
use Rattle.lock_state.proofs.Table.{reads, ranges, few_waiting}
use Rattle.lock_state.proofs.Locks.{step_come, step_left, step_cleared, end_come, end_left, end_cleared, stands_cleared}

-- ---- a fresh lock

pub fresh_left : (rate : ℕ) → Left (fresh_stream false rate).source.symbols
unfolding fresh_stream fresh_source fresh_acquisition
fresh_left rate = searching_left rate false [] 0

pub fresh_come : (rate : ℕ) → (fresh_stream false rate).source.bits ≡ false
unfolding fresh_stream fresh_source
fresh_come rate = refl

pub fresh_cleared : (rate : ℕ) → cleared (fresh_stream false rate) ≡ fresh_stream false rate
unfolding fresh_stream fresh_source fresh_acquisition fresh_progress fresh_lock
fresh_cleared rate =
    let e = searching_cleared rate false [] 0 in
    λ i. record { source = record { bits = false; symbols = e i }; progress = fresh_progress }

-- ---- what can be written

pub writes : (s : LockStream) → StreamReady s → s.source.bits ≡ false → Left s.source.symbols → Writable s.source.symbols × (waiting_of s.progress.receiver.certainty ≤ 7)
writes s g come l = (left_writable s.source.symbols (subst (UsedReady s.source) come g.source.used) l, few_waiting s.progress.receiver g.receiver)

-- ---- the tests before the work

pub room_enough : (packets text counts : ℕ) → short_room packets text counts ≡ false → (1504 ≤ packets) × (2048 ≤ text) × (2 ≤ counts)
room_enough packets text counts e = by (ltb packets 1504) (ltb text 2048) refl refl e
  where
    by : (a b : Bool) → ltb packets 1504 ≡ a → ltb text 2048 ≡ b → pick a true (pick b true (ltb counts 2)) ≡ false → (1504 ≤ packets) × (2048 ≤ text) × (2 ≤ counts)
    by true b p q e = false_true (sym e)
    by false true p q e = false_true (sym e)
    by false false p q e = (ltb-false packets 1504 p, ltb-false text 2048 q, ltb-false counts 2 e)

-- points that are not refused
pub points_pass : (came : ℕ) (is qs : List Float) (lost : List ℕ) (short : Bool) → points_due came is qs lost short ≡ 0 → OneLength is qs lost × (short ≡ false) × (came < 1152921504606845344)
points_pass came is qs lost short e = by (sound is qs lost) short (ltb came 1152921504606845344) refl refl e
  where
    by : (a b c : Bool) → sound is qs lost ≡ a → ltb came 1152921504606845344 ≡ c → ◌≡◌ {A = ℕ} (pick a (pick b 4 (pick c 0 7)) 24) 0 → OneLength is qs lost × (b ≡ false) × (came < 1152921504606845344)
    by false b c p q e = absurd (omega arith)
    by true true c p q e = absurd (omega arith)
    by true false false p q e = absurd (omega arith)
    by true false true p q e = (sound_lists is qs lost p, refl, ltb-true came 1152921504606845344 q)

pub end_pass : (short : Bool) → end_due short ≡ 0 → short ≡ false
end_pass true e = absurd (omega arith)
end_pass false e = refl

-- ---- the decisions on the first points

module _ (is qs : List Float) (lost : List ℕ) (o : OneLength is qs lost) (n : ℕ) (few : n ≡ min 1632 (length is)) (pairs : List ℕ) (long : n ≤ length pairs)
    (w : (t : ℕ) → t < length (take n is) → get_or pairs t 0 ≡ symbol_pair (symbol_at (take n is) (take n qs) (take n lost) t)) where
  front_length : length (take n is) ≡ n
  front_length = length-take-le n is (omega arith)

  pub points_small : All (λ p. p < 81) (take n pairs)
  points_small = along_small (symbol_at (take n is) (take n qs) (take n lost)) n pairs long (λ t b. w t (omega (arith, front_length)))

  pub points_piece : take n pairs ≡ take 1632 (map symbol_pair (received_of is qs lost))
  points_piece =
      let rs = received_of is qs lost in
      let all = map symbol_pair rs in
      let r = length_received is qs lost o.qs_size o.lost_size in
      let a : length all ≡ length is = length-map rs symbol_pair ∙ r in
      let k : length (take n pairs) ≡ n = length-take-le n pairs long in
      let m : length (take 1632 all) ≡ n = length-take 1632 all ∙ omega arith in
      ext_get_or 0 (take n pairs) (take 1632 all) (k ∙ sym m)
      (λ i b.
      let c : i < n = omega (arith, k) in
      get_or-take n pairs i 0 c
      ∙ w i (omega (arith, front_length))
      ∙ ap symbol_pair (λ j. received (get_or-take n is i nan c j) (get_or-take n qs i nan c j) (get_or-take n lost i 0 c j))
      ∙ ap symbol_pair (sym (received_at is qs lost o.qs_size o.lost_size i (omega arith)))
      ∙ sym (get_or-take 1632 all i 0 (omega arith) ∙ get_d_map_in symbol_pair rs None 0 i (omega arith)))

-- ---- the last step of the end

over_waits : {s : Acquisition} {t : EndStep} → EndsAcquisition s t → is_some t.over ≡ true → t.event ≡ Waits
over_waits (no_reading e q) o = ap (λ (t : EndStep). t.event) q
over_waits (pending_end e h p) o = false_true (sym (ap (λ (t : EndStep). is_some t.over) p.result) ∙ o)
over_waits (runs_end e h n p) o = false_true (sym (ap (λ (t : EndStep). is_some t.over) p.result) ∙ o)
over_waits {s} {t} (blocks_end e h n p) o = ap (λ (t : EndStep). t.event) p.result ∙ by p.step.event (sym (ap (λ (t : EndStep). is_some t.over) p.result) ∙ o)
  where
    by : (v : Event) → is_some (end_of_blocks s p.step v).over ≡ true → (end_of_blocks s p.step v).event ≡ Waits
    by Waits o = refl
    by (Block b) o = false_true o
    by Lost o = false_true o

source_waits : {s : LockSource} {t : SourceEnd} → s.bits ≡ false → SourceEnds s t → is_some t.over ≡ true → t.event ≡ Waits
source_waits c (symbols_end e a x q) o = ap (λ (t : SourceEnd). t.event) q ∙ over_waits x (sym (ap (λ (t : SourceEnd). is_some t.over) q) ∙ o)
source_waits c (bits_end_lem e a x q) o = false_true (sym c ∙ e)

tells_nothing : {bits : Bool} {p next : LockProgress} {packets text : List ℕ} {e : Event} → e ≡ Waits → Tells bits p packets text next e → text ≡ []
tells_nothing w (nothing_told a b q) = b
tells_nothing w (lock_begins b lines v k t x q) = let z : ◌≡◌ {A = ℕ} 0 1 = cc in absurd (omega arith)
tells_nothing w (lock_goes_on b lines v k t x q) = let z : ◌≡◌ {A = ℕ} 0 1 = cc in absurd (omega arith)
tells_nothing w (lock_ends a x q) = let z : ◌≡◌ {A = ℕ} 0 1 = cc in absurd (omega arith)

none_long : (n : ℕ) (l : List ℕ) → n ≤ length l → take n l ≡ [] → n ≡ 0
none_long n l h e = omega (arith, length-take-le n l h, ap length e)

-- no line of an event is told with the closing lines
pub over_silent : {s : LockStream} {r : StreamEnd} {packets text : List ℕ} → s.source.bits ≡ false → EndsStream s r packets text → 2048 ≤ length text → is_some r.over ≡ true → r.text ≡ 0
over_silent {s} {r} {packets} {text} c h room o =
    let k = h.ends in
    let w = source_waits c k.source_ends.ends (sym (ap (λ (x : Option ℕ). is_some x) k.over_is) ∙ o) in
    none_long r.text text (omega (arith, h.text_fits)) (tells_nothing w k.tells)

-- ---- what the work of a call leaves

module _ (s : LockStream) (z : Sized s) (k : in_range s ≡ true) (packets text counts : List ℕ) (front lines after given told tally : List ℕ) where
  module _ (is qs : List Float) (lost : List ℕ) (due : points_due (came_of s.source) is qs lost (short_room (length packets) (length text) (length counts)) ≡ 0) (some : 0 < length is) where
    pub step_leaves : (r : StreamStep) → StepsStream s (take 1632 (map symbol_pair (received_of is qs lost))) r front lines → NextSized r.stream → after ≡ state_bytes (cleared r.stream)
        → GivesTold packets text counts (take r.packets front) (take r.text lines) given told tally → LeavesStep s is qs lost packets text counts r.taken after given told tally
    step_leaves r h m w g =
        let few = few_waiting r.stream.progress.receiver h.ready.receiver in
        record {
          next = cleared r.stream;
          own = stepped due refl some (take r.packets front) (take r.text lines) (step_cleared s z k r h m.packets few).steps g;
          bytes = w;
          stands = subst (λ (bytes : List ℕ). StandsFor bytes (cleared r.stream)) (sym w) (stands_cleared r.stream h.ready (step_come s z k r h) (step_left s z k r h) m);
        }

  module _ (rest : ℕ) (due : end_due (short_room (length packets) (length text) (length counts)) ≡ 0) where
    -- where these are the lines of the event, or the closing lines
    pub end_leaves : (r : StreamEnd) (event : List ℕ) (size : ℕ) → EndsStream s r front event → 2048 ≤ length event → NextSized r.stream → after ≡ state_bytes (cleared r.stream)
        → ClosesLines r.stream r.over rest r.text event size lines → GivesTold packets text counts (take r.packets front) (take size lines) given told tally
        → LeavesEnd rest s packets text counts (indicator (is_some r.over)) after given told tally
    end_leaves r event size h room m w c g =
        let few = few_waiting r.stream.progress.receiver h.ready.receiver in
        record {
          next = cleared r.stream;
          own = end_stepped due refl (take r.packets front) (take size lines) (by c) g;
          bytes = w;
          stands = subst (λ (bytes : List ℕ). StandsFor bytes (cleared r.stream)) (sym w) (stands_cleared r.stream h.ready (end_come s z k r h) (end_left s z k r h) m);
        }
      where
        own : StreamEnds s r.over (take r.packets front) (take r.text event) (cleared r.stream)
        own = (end_cleared s z k r h m.packets (few_waiting r.stream.progress.receiver h.ready.receiver)).ends

        by : ClosesLines r.stream r.over rest r.text event size lines → StepsEnd rest s (indicator (is_some r.over)) (take r.packets front) (take size lines) (cleared r.stream)
        by (not_over o e q) =
            goes_on (ap (λ (x : Option ℕ). indicator (is_some x)) o)
            (subst (λ (l : List ℕ). StreamEnds s None (take r.packets front) l (cleared r.stream)) (λ i. take (sym e i) (sym q i))
            (subst (λ (b : Option ℕ). StreamEnds s b (take r.packets front) (take r.text event) (cleared r.stream)) o own))
        by (closed left o fits long q) =
            let silent : take r.text event ≡ [] = ap (λ (n : ℕ). take n event) (over_silent (ranges s k).symbols_come h room (ap (λ (x : Option ℕ). is_some x) o)) in
            ended left (ap (λ (x : Option ℕ). indicator (is_some x)) o)
            (subst (λ (l : List ℕ). StreamEnds s (Some left) (take r.packets front) l (cleared r.stream)) silent
            (subst (λ (b : Option ℕ). StreamEnds s b (take r.packets front) (take r.text event) (cleared r.stream)) o own))
            (q ∙ ap (λ (b : Bool). closing_text b r.stream.progress (came_of r.stream.source) left rest) (end_come s z k r h))

-- ---- the calls

module _ (state answer : List ℕ) (one : 1 ≤ length answer) (n : length state ≡ state_length) where
  -- a state out of range stands for none
  pub none_called : {Nothing : Type 0} {Own : LockStream → ℕ → LockStream → Type 0} (said : List ℕ) → in_range (state_of state) ≡ false → Nothing → said ≡ set answer 0 5
      → CallsOn layout state_length in_range Nothing Own state answer state said
  none_called said f e q = no_state one n (none_stands reads state f) e refl q

  module _ (e : ByteEntries state) (k : in_range (state_of state) ≡ true) where
    stands : StandsFor state (state_of state)
    stands = stands_read reads state n e k

    module _ (packets text counts : List ℕ) (number : ℕ) (said : List ℕ) (q : said ≡ set answer 0 number) where
      module _ (is qs : List Float) (lost : List ℕ) (d : number ≡ points_due (came_of (state_of state).source) is qs lost (short_room (length packets) (length text) (length counts))) where
        pub refused_points : (number ≡ 0 → ⊥) → FeedsLock state is qs lost packets text counts answer 0 state packets text counts said
        refused_points f = as_own one (state_of state) stands number (state_of state) (refused d (omega (arith, f)) refl refl refl refl refl) q stands.written stands

        pub none_points : number ≡ 0 → length is ≡ 0 → FeedsLock state is qs lost packets text counts answer 0 state packets text (counted counts 0 0) said
        none_points f h =
            as_own one (state_of state) stands number (state_of state) (no_points (sym d ∙ f) f h refl refl (record { given_is = refl; told_is = refl; tally_is = refl })) q stands.written stands

        pub stepped_points : number ≡ 0 → (taken : ℕ) (after given told tally : List ℕ) → LeavesStep (state_of state) is qs lost packets text counts taken after given told tally
            → FeedsLock state is qs lost packets text counts answer taken after given told tally said
        stepped_points f taken after given told tally l = as_own one (state_of state) stands 0 l.next l.own (q ∙ ap (set answer 0) f) l.bytes l.stands

      module _ (rest : ℕ) (d : number ≡ end_due (short_room (length packets) (length text) (length counts))) where
        pub refused_ends : (number ≡ 0 → ⊥) → EndsLock state rest packets text counts answer 0 state packets text counts said
        refused_ends f = as_own one (state_of state) stands number (state_of state) (refused_end d (omega (arith, f)) refl refl refl refl refl) q stands.written stands

        pub stepped_end : number ≡ 0 → (over : ℕ) (after given told tally : List ℕ) → LeavesEnd rest (state_of state) packets text counts over after given told tally
            → EndsLock state rest packets text counts answer over after given told tally said
        stepped_end f over after given told tally l = as_own one (state_of state) stands 0 l.next l.own (q ∙ ap (set answer 0) f) l.bytes l.stands
