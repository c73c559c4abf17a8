-- The receiver of a lock stays in range, and takes every block that it can count.
-- Assumes nothing.
use mathlib.Core.Path.{◌≡◌, refl, sym, ap, subst, subst₂, ◌∙◌}
use mathlib.Core.Bool.{Bool, true, false, true≢false}
use mathlib.Core.List.{List, [], ◌∷◌, ◌++◌}
use Prim.Native.Nat.{ℕ, suc, ◌≤◌, ◌<◌}
use native.Mathlib.Omega.{arith}
use borrow.Author.Tests.{eq-eqb, le-ltb, lt-ltb, leb-false}
use lib.Dec.{leb, eqb}
use lib.ListN.{length, take, drop, length-append}
use lib.Seq.{take_at}
use Rattle.common.specs.Choice.{pick}
use Rattle.common.proofs.Chunks.{length_first}
use Rattle.reception_counts.specs.Counts.{counts_in_range}
use Rattle.reception_counts.proofs.Ranges.{counts_range}
use Rattle.receiver.specs.Receive.{fresh_receiver, receiver_in_range}
use Rattle.receiver.specs.Run.{answer_of, after_call, output_of}
use Rattle.receiver.specs.declared.Receiver.{Receiver}
use Rattle.receiver.proofs.Calls.{state_range}
use Rattle.receiver.proofs.Reached.{Sound, sound_fresh, sound_call, sound_range}
use Rattle.losses.specs.Watch.{waiting_of, is_sure, start_due_at, started_at, certainty_in_range}
use Rattle.losses.specs.Feed.{WritesLines}
use Rattle.losses.specs.declared.Certainty.{Certainty}
use Rattle.losses.proofs.Decisions.{most_seven}
use Rattle.losses.proofs.Watching.{watched_call}
use Rattle.lock_receiver.specs.Take.{fresh_lock, lock_in_range, waiting_packets, given_now, waiting_told, lock_end_number, lock_end_lines, lock_refusal, TakesOne, TakesBlock, refused, taken}
use Rattle.lock_receiver.specs.declared.LockReceiver.{LockReceiver}
use Rattle.lock_receiver.specs.declared.LockStep.{LockStep}
use Rattle.lock_receiver.proofs.Ranges.{lock_range}
use Rattle.std.proofs.Common.{Ok, Err}
use Rattle.answer.specs.Number.{given_or}
use Rattle.answer.specs.declared.Refusal.{Refusal}
use Rattle.lock_stream.specs.Progress.{begun_anew, Takes}
use Rattle.lock_stream.specs.declared.progress.LockProgress.{LockProgress}

-- ---- a receiver in range is in range after a block too

pub fresh_range : lock_in_range fresh_lock ≡ true
unfolding fresh_lock fresh_receiver
fresh_range =
    ap (λ (t : Bool). pick t (certainty_in_range fresh_lock.certainty fresh_lock.receiver.sync.place fresh_lock.receiver.counts.taken) false)
    (sound_range fresh_receiver sound_fresh)

-- its arrays have their lengths, which every value in the code has
pub record Sized (v : LockReceiver) : Type 0 where
  pub cells : length v.receiver.deinterleaver.branches.cells ≡ 1122
  pub positions : length v.receiver.deinterleaver.branches.positions ≡ 12
  pub marks : length v.receiver.marks ≡ 1122

range_sound : (v : LockReceiver) → Sized v → lock_in_range v ≡ true → Sound v.receiver
range_sound v z e =
    let r = state_range v.receiver (lock_range v e).receiver in
    record {
      branches = record { cells = z.cells; positions = z.positions; range = r.branches };
      marks = z.marks;
      small = r.marks;
      sync = r.sync;
      counts = counts_range v.receiver.counts r.counts;
    }

pub range_on : {v next : LockReceiver} {block given lines : List ℕ} → Sized v → lock_in_range v ≡ true → Takes v block given lines next → lock_in_range next ≡ true
range_on {v} {next} z e t =
    let o = t.takes in
    let w = watched_call v.receiver v.certainty o.call (lock_range v e).watched in
    let s : Receiver = t.step.lock.receiver in
    let g : Sound s = subst Sound (sym o.state) (sound_call v.receiver o.call (range_sound v z e) o.decodes) in
    let k : certainty_in_range t.step.lock.certainty s.sync.place s.counts.taken ≡ true
    = subst₂ (λ (x : Receiver) (k : Certainty). certainty_in_range k x.sync.place x.counts.taken ≡ true) (sym o.state) (sym o.certainty) w.range in
    subst (λ (x : LockReceiver). lock_in_range x ≡ true) (sym t.next_is) (in_range_lem t.step.lock (sound_range s g) k)
  where
    in_range_lem : (x : LockReceiver) → receiver_in_range x.receiver ≡ true → certainty_in_range x.certainty x.receiver.sync.place x.receiver.counts.taken ≡ true → lock_in_range x ≡ true
    in_range_lem x a b = simp (a, b)

pub range_counts : (v : LockReceiver) → lock_in_range v ≡ true → counts_in_range v.receiver.counts ≡ true
range_counts v e = (state_range v.receiver (lock_range v e).receiver).counts

-- ---- a block is taken

pub fresh_more : fresh_lock.receiver.counts.taken < 4294967295
unfolding fresh_lock fresh_receiver
fresh_more = omega arith

-- a block that goes on with a lock can be counted
pub more_counted : (p : LockProgress) (begins : Bool) → begun_anew p begins ≡ false → p.receiver.receiver.counts.taken < 4294967295
more_counted p begins e = by begins p.locked p.receiver.receiver.counts.taken e
  where
    by : (begins locked : Bool) (n : ℕ) → pick begins true (pick locked (leb 4294967295 n) true) ≡ false → n < 4294967295
    by true locked n z = absurd (true≢false z)
    by false true n z = leb-false 4294967295 n z
    by false false n z = absurd (true≢false z)

unrefused : (v : LockReceiver) (block output lines : List ℕ) → lock_in_range v ≡ true → length block ≡ 204 → 1504 ≤ length output → 8 ≤ length lines
    → v.receiver.counts.taken < 4294967295 → lock_refusal v block output lines ≡ 0
unrefused v block output lines r s o l m = simp (r, eq-eqb _ _ s, le-ltb _ _ o, le-ltb _ _ l, lt-ltb _ _ m) refl

-- no test refuses it
pub taken_one : {v : LockReceiver} {block output lines exit linesExit : List ℕ} {r : LockStep} → lock_in_range v ≡ true → length block ≡ 204 → 1504 ≤ length output → 8 ≤ length lines
    → v.receiver.counts.taken < 4294967295 → TakesBlock v block output lines (Ok r) exit linesExit → TakesOne v block output lines r exit linesExit
taken_one {v} {block} {output} {lines} a s o l m (refused answer n p r e x) = let z = unrefused v block output lines a s o l m in absurd (omega arith)
taken_one {v} {block} {output} {lines} {exit} {linesExit} {r} a s o l m (taken step z q t) =
    subst (λ (x : LockStep). TakesOne v block output lines x exit linesExit) (sym (ap (given_or r (λ (x : LockStep). x)) q)) t

pub never_refused : {v : LockReceiver} {block output lines exit linesExit : List ℕ} {refusal : Refusal} → lock_in_range v ≡ true → length block ≡ 204 → 1504 ≤ length output → 8 ≤ length lines
    → v.receiver.counts.taken < 4294967295 → TakesBlock v block output lines (Err refusal) exit linesExit → ⊥
never_refused {v} {block} {output} {lines} a s o l m (refused answer n p r e x) = let z = unrefused v block output lines a s o l m in omega arith
never_refused {v} {block} {output} {lines} {refusal = refusal} a s o l m (taken step z q t) = let z : ◌≡◌ {A = ℕ} 0 1 = ap (given_or 0 (λ (x : LockStep). 1)) q in omega arith

waiting_few : (v : LockReceiver) → lock_in_range v ≡ true → waiting_of v.certainty ≤ 7
waiting_few v r = omega (arith, (lock_range v r).waiting.0, most_seven v.receiver.sync.place)

-- at most those that wait, and its own
given_most : (k : Certainty) (number : ℕ) (due started : Bool) (held : List (List ℕ)) (packet : List ℕ) → length (given_now k number due started held packet) ≤ suc (length held)
given_most k number due started held packet = by (eqb number 0) started due (is_sure k)
  where
    by : (n s d u : Bool) → length (pick n (pick s (pick d held [] ++ packet ∷ []) (pick u (packet ∷ []) [])) []) ≤ suc (length held)
    by false s d u = omega arith
    by true false d true = omega arith
    by true false d false = omega arith
    by true true true u = omega (arith, length-append held (packet ∷ []))
    by true true false u = omega arith

pub given_few : {v : LockReceiver} {block output lines exit linesExit : List ℕ} {r : LockStep} → lock_in_range v ≡ true → TakesOne v block output lines r exit linesExit → r.given ≤ 8
given_few {v} a t =
    let c = t.call in
    let m = given_most v.certainty (answer_of v.receiver c) (start_due_at v.receiver.sync.place) (started_at (after_call v.receiver c).sync.place) (waiting_packets v) (take 188 (output_of v.receiver c)) in
    omega (arith, t.gives.counted, m, length_first 188 (waiting_of v.certainty) v.packets, waiting_few v a)

-- ---- lines that are written

pub lines_written : {lines output exit : List ℕ} {count : ℕ} → WritesLines lines output count exit → take count exit ≡ lines
lines_written {lines} {output} {exit} {count} w = ap (take count) w.written ∙ take_at lines (drop count output) count (sym w.counted)

pub lines_few : {lines output exit : List ℕ} {count : ℕ} → WritesLines lines output count exit → length exit ≡ length output → count ≤ length output
lines_few {lines} {output} {count = count} w l = omega (arith, w.counted, ap length w.written, length-append lines (drop count output))

pub end_lines_lem : (v : LockReceiver) (output : List ℕ) → lock_in_range v ≡ true → 8 ≤ length output → lock_end_lines v output ≡ waiting_told v
end_lines_lem v output r l =
    let f : waiting_of v.certainty ≤ length output = omega (arith, waiting_few v r) in
    let z : lock_end_number v output ≡ 0 = simp (r, le-ltb (length output) (waiting_of v.certainty) f) refl in
    ap (λ (n : ℕ). pick (eqb n 0) (waiting_told v) []) z
