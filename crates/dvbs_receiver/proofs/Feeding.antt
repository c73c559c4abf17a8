-- A call of the receiver on the state that is read, and its bytes after it, are what a call on the bytes promises.
-- Assumes nothing.
use mathlib.Core.Path.{◌≡◌, refl, sym, ap, subst, ◌∙◌}
use mathlib.Core.Bool.{Bool, true, false}
use mathlib.Core.List.{List, ◌++◌}
use Prim.Native.Nat.{ℕ, ◌+◌, ◌-◌, ◌*◌, ◌/◌, ◌%◌, ◌≤◌, ◌<◌}
use native.Mathlib.Omega.{arith}
use borrow.Author.Tests.{ltb-true, ltb-false}
use lib.Dec.{eqb, ltb}
use lib.ListN.{length, set, drop, length-append}
use lib.Seq.{length-take-le}
use Rattle.common.specs.Choice.{pick}
use Rattle.common.specs.Lists.{ByteEntries, Entries, largest, rest_of}
use Rattle.common.proofs.Choice.{both_true}
use Rattle.common.proofs.Chunks.{length_rest}
use Rattle.common.proofs.Entries.{entries_take, entries_append, entries_drop}
use Rattle.common.proofs.Largest.{largest_least}
use Rattle.state_bytes.specs.Calls.{CallsOn, no_state}
use Rattle.state_bytes.proofs.States.{none_stands}
use Rattle.state_bytes.proofs.Calls.{read_call, kept_call}
use Rattle.receiver.specs.Receive.{receiver_in_range}
use Rattle.receiver.proofs.Calls.{state_range}
use Rattle.receiver.proofs.Reached.{Sound}
use Rattle.recording.specs.Recording.{marks_for}
use Rattle.recording.proofs.Decided.{recording_taken}
use Rattle.reception_counts.proofs.Ranges.{counts_range}
use Rattle.receiver_stream.specs.Feed.{bytes_held, held_marks, receiver_stream_in_range, capacity_of, receiver_feed_number, ReceivesPiece, FeedsReceiver, refused, fed}
use Rattle.receiver_stream.specs.Reporting.{Reports, stream_report_number}
use Rattle.receiver_stream.specs.declared.ReceiverStream.{ReceiverStream}
use Rattle.receiver_stream.proofs.Histories.{marks_each}
use Rattle.dvbs_receiver.specs.State.{layout, state_length, state_bytes, is_clear, in_range, StandsFor}
use Rattle.dvbs_receiver.specs.Reading.{state_of}
use Rattle.dvbs_receiver.specs.Calls.{FeedsPiece, ReportsState}
use Rattle.dvbs_receiver.proofs.States.{reads, blocks_range, stands_holding}

-- ---- the bytes after a piece that is taken

-- a piece that is not refused has its marks, and can be counted
none_due : (a m b c : Bool) → ◌≡◌ {A = ℕ} (pick a (pick m (pick b 4 (pick c 7 0)) 20) 5) 0 → (m ≡ true) × (c ≡ false)
none_due false m b c e = absurd (omega arith)
none_due true false b c e = absurd (omega arith)
none_due true true true c e = absurd (omega arith)
none_due true true false true e = absurd (omega arith)
none_due true true false false e = (refl, refl)

module _ (bytes : List ℕ) (i : ReceiverStream) (h : StandsFor bytes i) where
  few : i.held < 204
  few = ltb-true i.held 204 (both_true (receiver_in_range i.receiver) (ltb i.held 204) (both_true (receiver_stream_in_range i) (is_clear i) h.range).0).1

  small : Entries (λ m. m < 2) i.marks
  small k =
      let c = (both_true (receiver_stream_in_range i) (is_clear i) h.range).1 in
      let v = eqb (largest (drop i.held i.marks)) 0 in
      let w = ltb (largest i.marks) 2 in
      let l = ltb-true (largest i.marks) 2 (both_true v w (both_true (eqb (largest (drop i.held i.pending)) 0) (pick v w false) c).1).1 in
      omega (arith, largest_least i.marks k, l)

  sound : Sound i.receiver
  sound =
      let r = state_range i.receiver (blocks_range i h.range) in
      let z = h.sized in
      record {
        branches = record { cells = z.0; positions = z.1.0; range = r.branches };
        marks = z.1.1.1.1.1.0;
        small = r.marks;
        sync = r.sync;
        counts = counts_range i.receiver.counts r.counts;
      }

  module _ (piece own output : List ℕ) (z : receiver_feed_number i piece own output ≡ 0) {count : ℕ} {next : ReceiverStream} {exit : List ℕ}
      (t : ReceivesPiece i piece own output count next exit) where
    passed : (marks_for piece own ≡ true) × (ltb (capacity_of i) (length piece) ≡ false)
    passed = none_due (receiver_stream_in_range i) (marks_for piece own) (ltb (length output) (188 * ((i.held + length piece) / 204))) (ltb (capacity_of i) (length piece)) z

    came : List ℕ
    came = bytes_held i ++ piece

    cames : List ℕ
    cames = held_marks i ++ own

    length_came : length came ≡ i.held + length piece
    unfolding came
    length_came = length-append (bytes_held i) piece ∙ let k = length-take-le i.held i.pending (omega (arith, h.sized.1.1.1.1.1.1.0, few)) in omega (arith, k)

    length_cames : length cames ≡ length came
    unfolding cames
    length_cames =
        let k = length-take-le i.held i.marks (omega (arith, h.sized.1.1.1.1.1.1.1.0, few)) in
        length-append (held_marks i) own ∙ omega (arith, k, length_came, (marks_each piece own passed.0).0)

    marked : Entries (λ m. m < 2) cames
    unfolding cames
    marked = entries_append (λ m. m < 2) (omega arith) (held_marks i) own (entries_take (λ m. m < 2) (omega arith) i.held i.marks small) (marks_each piece own passed.0).1

    sound_next : Sound next.receiver
    unfolding came cames
    sound_next =
        let l = ltb-false (capacity_of i) (length piece) passed.1 in
        let m = sound.counts.most in
        (recording_taken sound marked t.takes.recording (omega (arith, l, m, length_came, few))).0

    rest_entries : (l : List ℕ) → Entries (λ m. m < 2) l → Entries (λ m. m < 2) (rest_of 204 l)
    unfolding rest_of
    rest_entries l e = entries_drop (λ m. m < 2) (length l - length l % 204) l e

    pub stands_taken : StandsFor (state_bytes next) next
    unfolding came cames
    stands_taken =
        let r = rest_of 204 came in
        let rs = rest_of 204 cames in
        let n : length r < 204 = omega (arith, length_rest 204 came) in
        let e : length rs ≡ length r = length_rest 204 cames ∙ ap (λ (k : ℕ). k % 204) length_cames ∙ sym (length_rest 204 came) in
        subst (λ (j : ReceiverStream). StandsFor (state_bytes j) j) (sym t.kept) (stands_holding next.receiver r rs n e (rest_entries cames marked) sound_next)

-- a refusal of the receiver tells of no bytes, and leaves it and the output as they were
pub refused_same : (i : ReceiverStream) (piece own output : List ℕ) (number count : ℕ) (next : ReceiverStream) (exit : List ℕ)
    → FeedsReceiver i piece own output number count next exit → (number ≡ 0 → ⊥) → (count ≡ 0) × (next ≡ i) × (exit ≡ output)
refused_same i piece own output number count next exit (refused e p c n x) f = (c, n, x)
refused_same i piece own output number count next exit (fed z n t) f = absurd (f n)

-- ---- the range test, in the order in which the code asks

module _ (i : ReceiverStream) where
  clear_false : pick (ltb i.held 204) (is_clear i) false ≡ false → in_range i ≡ false
  clear_false = by (receiver_in_range i.receiver) (ltb i.held 204) (is_clear i)
    where
      by : (a b c : Bool) → pick b c false ≡ false → pick (pick a b false) c false ≡ false
      by false b c e = refl
      by true b c e = e

  clear_true : pick (ltb i.held 204) (is_clear i) false ≡ true → in_range i ≡ receiver_stream_in_range i
  clear_true = by (receiver_in_range i.receiver) (ltb i.held 204) (is_clear i)
    where
      by : (a b c : Bool) → pick b c false ≡ true → pick (pick a b false) c false ≡ pick a b false
      by false b c e = refl
      by true true c e = e
      by true false c e = refl

-- ---- the calls

module _ (state answer : List ℕ) (one : 1 ≤ length answer) (n : length state ≡ state_length) where
  -- a state that is not clear stands for none
  pub unclear : {Nothing : Type 0} {Own : ReceiverStream → ℕ → ReceiverStream → Type 0} (told : List ℕ)
      → pick (ltb (state_of state).held 204) (is_clear (state_of state)) false ≡ false → Nothing → told ≡ set answer 0 5
      → CallsOn layout state_length in_range Nothing Own state answer state told
  unclear told f e q = no_state one n (none_stands reads state (clear_false (state_of state) f)) e refl q

  module _ (e : ByteEntries state) (k : pick (ltb (state_of state).held 204) (is_clear (state_of state)) false ≡ true) where
    module _ (piece own output : List ℕ) (number count : ℕ) (next : ReceiverStream) (exit told : List ℕ)
        (g : FeedsReceiver (state_of state) piece own output number count next exit) (q : told ≡ set answer 0 number) where
      outside : in_range (state_of state) ≡ false → ((count ≡ 0) × (exit ≡ output)) × (number ≡ 5) × (next ≡ state_of state)
      outside f = by g
        where
          five : receiver_feed_number (state_of state) piece own output ≡ 5
          five = simp (sym (clear_true (state_of state) k) ∙ f)

          by : FeedsReceiver (state_of state) piece own output number count next exit → ((count ≡ 0) × (exit ≡ output)) × (number ≡ 5) × (next ≡ state_of state)
          by (refused e p c s x) = ((c, x), e ∙ five, s)
          by (fed z m t) = absurd (omega (arith, five, z))

      -- where it is refused, the bytes of the state are left alone
      pub refused_feeds : (number ≡ 0 → ⊥) → FeedsPiece state piece own output answer 0 state exit told
      refused_feeds f =
          let s = refused_same (state_of state) piece own output number count next exit g f in
          subst (λ (r : ℕ). FeedsPiece state piece own output answer r state exit told) s.0 (kept_call reads one n e number next g q outside s.1 refl)

      -- and else those of the receiver after it are written
      pub taken_feeds : number ≡ 0 → (after : List ℕ) → after ≡ state_bytes next → FeedsPiece state piece own output answer count after exit told
      taken_feeds f after w = read_call reads one n e number next g q outside (stay g) w
        where
          stay : FeedsReceiver (state_of state) piece own output number count next exit → StandsFor state (state_of state) → StandsFor (state_bytes next) next
          stay (refused e p c s x) h = absurd (omega arith)
          stay (fed z m t) h = stands_taken state (state_of state) h piece own output z t

    -- the report
    pub reports_state : (output : List ℕ) (number count : ℕ) (exit told : List ℕ) → Reports (state_of state) output number count exit → told ≡ set answer 0 number
        → ReportsState state output answer count exit told
    reports_state output number count exit told g q = kept_call reads one n e number (state_of state) (refl, g) q outside refl refl
      where
        outside : in_range (state_of state) ≡ false → ((count ≡ 0) × (exit ≡ output)) × (number ≡ 5) × (state_of state ≡ state_of state)
        outside f =
            let five : stream_report_number (state_of state) output ≡ 5 = simp (sym (clear_true (state_of state) k) ∙ f) in
            ((g.writes.size_is ∙ simp five, g.writes.output_is ∙ simp five), g.writes.number_is ∙ five, refl)

-- fewer bytes than a block has are held after a piece
pub held_few : (i : ReceiverStream) (piece own output : List ℕ) (number count : ℕ) (next : ReceiverStream) (exit : List ℕ)
    → FeedsReceiver i piece own output number count next exit → number ≡ 0 → next.held < 204
held_few i piece own output number count next exit (refused e p c s x) f = absurd (omega arith)
held_few i piece own output number count next exit (fed z m t) f =
    let k = ap (λ (j : ReceiverStream). j.held) t.kept ∙ length_rest 204 (bytes_held i ++ piece) in
    omega (arith, k)
