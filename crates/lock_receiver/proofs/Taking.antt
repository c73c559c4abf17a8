-- One block: what the step of the list of losses and what is settled of the packets come to.
-- Assumes nothing.
use mathlib.Core.Path.{◌≡◌, sym, ap, ap₂, subst, ◌∙◌}
use mathlib.Core.Bool.{Bool, false}
use mathlib.Core.List.{List}
use Prim.Native.Nat.{ℕ, ◌≤◌, ◌<◌}
use native.Mathlib.Decide.{dec_lt}
use native.Mathlib.Omega.{arith}
use borrow.Author.Tests.{eq-eqb, ne_eqb, lt-ltb, le-ltb}
use lib.ListN.{length, take}
use lib.Seq.{take_all}
use Rattle.common.specs.Choice.{pick}
use Rattle.common.specs.Lists.{chunks}
use Rattle.reed_solomon.specs.Marks.{are_marks, no_marks}
use Rattle.reed_solomon.proofs.Marks.{are_marks_none}
use Rattle.receiver.specs.Receive.{Ready}
use Rattle.receiver.specs.Run.{Call, answer_of, after_call, output_of}
use Rattle.receiver.specs.declared.Receiver.{Receiver}
use Rattle.receiver.proofs.Calls.{ready_number}
use Rattle.losses.specs.Watch.{waiting_of, start_due_at, started_at, and_one_more, certainty_next, call_lines, certainty_after}
use Rattle.losses.specs.Feed.{WritesLines}
use Rattle.losses.specs.Block as losses
use Rattle.losses.specs.declared.Certainty.{Certainty}
use Rattle.losses.specs.declared.Certainty.TheVariants.{Unsure}
use Rattle.losses.proofs.Decisions.{range_fits, most_seven}
use Rattle.losses.proofs.Watching.{watched_call, more_waiting}
use Rattle.lock_receiver.specs.Take.{waiting_packets, given_now, next_held, WritesPackets, Settles, LockReady, TakesOne}
use Rattle.lock_receiver.specs.declared.LockReceiver.{LockReceiver}
use Rattle.lock_receiver.specs.declared.LockStep.{LockStep}
use Rattle.lock_receiver.proofs.Ranges.{lock_range}

module _ (v : LockReceiver) {block output lines room packet linesExit : List ℕ} {number told : ℕ} {next : Receiver} {kept : Certainty} (y : LockReady v block output lines)
    (t : losses.TakesBlock v.receiver v.certainty block no_marks room lines number told next kept packet linesExit) where
  abbrev s : Receiver
  s = v.receiver

  abbrev k : Certainty
  k = v.certainty

  abbrev call : Call
  call = t.call

  -- while the delays fill nothing waits
  none_waits : s.counts.taken < 11 → waiting_of k ≡ 0
  none_waits h = omega (arith, (lock_range v y.range).waiting.1)

  full_certainty : 11 ≤ s.counts.taken → certainty_after s k call ≡ certainty_next k (answer_of s call) (started_at (after_call s call).sync.place)
  full_certainty h = ap (λ (b : Bool). pick b k (certainty_next k (answer_of s call) (started_at (after_call s call).sync.place))) (le-ltb _ _ h)

  after_started : started_at (after_call s call).sync.place ≡ started_at next.sync.place
  after_started = ap (λ (x : Receiver). started_at x.sync.place) (sym t.state)

  -- a packet more can wait
  pub more_waits : (start : Bool) → start ≡ started_at next.sync.place → number ≡ 0 → start ≡ false → waiting_of (and_one_more k) ≤ 7
  more_waits start b z f = by (dec_lt s.counts.taken 11)
    where
      by : Dec (s.counts.taken < 11) → waiting_of (and_one_more k) ≤ 7
      by (yes h) = omega (arith, more_waiting k, none_waits h)
      by (no h) =
          let w = watched_call s k call (lock_range v y.range).watched in
          let m = (range_fits (certainty_after s k call) (after_call s call).sync.place (after_call s call).counts.taken w.range).0 in
          let e : certainty_after s k call ≡ and_one_more k = full_certainty (omega arith) ∙ simp (eq-eqb (answer_of s call) 0 (sym t.answered ∙ z), after_started ∙ sym b ∙ f) in
          let n : waiting_of (certainty_after s k call) ≡ waiting_of (and_one_more k) = ap waiting_of e in
          omega (arith, m, n, most_seven (after_call s call).sync.place)

  module _ (size : length room ≡ 188) (whole : length packet ≡ 188) where
    ready : Ready s call.block call.marks call.output
    ready = record {
      range = (lock_range v y.range).receiver;
      size = ap length t.lent ∙ y.size;
      enough = t.output_fits;
      marked = ap are_marks t.marked ∙ are_marks_none;
      more = y.more;
    }

    -- filling is no packet
    not_given : s.counts.taken < 11 → number ≡ 0 → ⊥
    not_given h z =
        let n : answer_of s call ≡ 9 = ready_number s call.block call.marks call.output ready call.left call.decoded ∙ simp (lt-ltb s.counts.taken 11 h) in
        omega (arith, t.answered)

    -- as many wait as are known to
    waits_as : (start : Bool) → start ≡ started_at next.sync.place → waiting_of kept ≡ waiting_of (certainty_next k number start)
    waits_as start b = by (dec_lt s.counts.taken 11)
      where
        by : Dec (s.counts.taken < 11) → waiting_of kept ≡ waiting_of (certainty_next k number start)
        by (yes h) =
            let e : kept ≡ k = t.certainty ∙ ap (λ (x : Bool). pick x k (certainty_next k (answer_of s call) (started_at (after_call s call).sync.place))) (lt-ltb _ _ h) in
            let u : certainty_next k number start ≡ Unsure 0 = simp (ne_eqb number 0 (not_given h)) in
            ap waiting_of e ∙ none_waits h ∙ sym (ap waiting_of u)
        by (no h) =
            ap waiting_of (t.certainty ∙ full_certainty (omega arith) ∙ ap₂ (λ (n : ℕ) (x : Bool). certainty_next k n x) (sym t.answered) (after_started ∙ sym b))

    packet_is : packet ≡ take 188 (output_of s call)
    packet_is = sym (take_all 188 packet (omega arith)) ∙ ap (take 188) t.given

    pub takes_one : (r : LockStep) (due start : Bool) (exit packets : List ℕ) → r.number ≡ number → due ≡ start_due_at s.sync.place → start ≡ started_at next.sync.place
        → r.lock ≡ record { receiver = next; certainty = kept; packets = packets } → r.told ≡ told
        → Settles k number due start packet v.packets output packets r.given exit → TakesOne v block output lines r exit linesExit
    takes_one r due start exit packets n d b l o w = record {
      call = call;
      lent = t.lent;
      plain = t.marked;
      decodes = t.decodes;
      output_fits = t.output_fits;
      answered = n ∙ t.answered;
      packet_size = ap length (sym packet_is) ∙ whole;
      state = ap (λ (x : LockReceiver). x.receiver) l ∙ t.state;
      certainty = ap (λ (x : LockReceiver). x.certainty) l ∙ t.certainty;
      waits =
          ap waiting_packets l ∙ ap (λ (i : ℕ). chunks 188 i packets) (waits_as start b) ∙ w.waits
          ∙ ap₂ (λ (i : ℕ) (x : Bool). next_held k i x (waiting_packets v) packet) t.answered started
          ∙ ap (next_held k (answer_of s call) (started_at (after_call s call).sync.place) (waiting_packets v)) packet_is;
      gives =
          subst (λ (x : List (List ℕ)). WritesPackets x output r.given exit)
          (ap₂ (λ (i : ℕ) (x : Bool). given_now k i due x (waiting_packets v) packet) t.answered started
          ∙ ap₂ (λ (x : Bool) (p : List ℕ). given_now k (answer_of s call) x (started_at (after_call s call).sync.place) (waiting_packets v) p) d packet_is)
          w.gives;
      tells = subst (λ (i : ℕ). WritesLines (call_lines s k call) lines i linesExit) (sym o) t.writes;
    }
      where
        started : start ≡ started_at (after_call s call).sync.place
        started = b ∙ sym after_started
