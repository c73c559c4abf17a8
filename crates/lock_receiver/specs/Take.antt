-- What the receiver of a lock does with a block: the packets that it gives, the lines that it tells, and what waits. The rule is that of the list of losses.
--   A packet at a place that B8 fixed, with a packet from every block since, is given at once.
--   Another waits. Where the next B8 comes when it is due, all that wait are given, in their order, and then the packet that began with it.
--   Where anything else comes, or the lock ends, those that wait are not given: each has a line.
-- Clauses: document 01, "Receiver"; document 02, P4.
-- Assumes nothing.
use Rattle.std.specs.Prelude.{◌≡◌, Bool, true, false, ℕ, ◌-◌, ◌*◌, ◌≤◌, ◌<◌, ltb, eqb, length, take, drop, replicate, Result, Ok, Err}
use mathlib.Core.List.{List, [], ◌∷◌, ◌++◌, flatten}
use Rattle.common.specs.Choice.{pick}
use Rattle.common.specs.Refusal.{unless, when, first_due}
use Rattle.common.specs.Lists.{chunks}
use Rattle.answer.specs.Number.{number_of}
use Rattle.answer.specs.declared.Refusal.{Refusal}
use Rattle.reed_solomon.specs.Marks.{DecodesMarked}
use Rattle.receiver.specs.Receive.{fresh_receiver, receiver_in_range, delayed_block, delayed_marks}
use Rattle.receiver.specs.Run.{Call, answer_of, after_call, output_of, Plain, OutputFits}
use Rattle.receiver.specs.declared.Receiver.{Receiver}
use Rattle.losses.specs.Watch.{waiting_of, is_sure, waiting_lines, start_due_at, started_at, certainty_next, certainty_in_range, call_lines, certainty_after}
use Rattle.losses.specs.Feed.{WritesLines}
use Rattle.losses.specs.declared.Certainty.{Certainty}
use Rattle.losses.specs.declared.Certainty.TheVariants.{Unsure}
use Rattle.lock_receiver.specs.declared.LockReceiver.{LockReceiver}
use Rattle.lock_receiver.specs.declared.LockStep.{LockStep}

-- ---- the state

-- the packets that wait
abbrev pub waiting_packets : LockReceiver → List (List ℕ)
waiting_packets v = chunks 188 (waiting_of v.certainty) v.packets

-- a fresh receiver, and no packet that waits
unfoldable pub fresh_lock : LockReceiver
fresh_lock = record { receiver = fresh_receiver; certainty = Unsure 0; packets = replicate 1316 0 }

-- the receiver is in its ranges, and no more packets wait than can
abbrev pub lock_in_range : LockReceiver → Bool
lock_in_range v = pick (receiver_in_range v.receiver) (certainty_in_range v.certainty v.receiver.sync.place v.receiver.counts.taken) false

-- ---- what a block decides

-- the packets that are given, by the number of the block's answer, whether B8 was due and whether it came
abbrev pub given_now : Certainty → ℕ → Bool → Bool → List (List ℕ) → List ℕ → List (List ℕ)
given_now k number due started held packet =
    pick (eqb number 0) (pick started (pick due held [] ++ packet ∷ []) (pick (is_sure k) (packet ∷ []) [])) []

-- those that wait after it
abbrev pub next_held : Certainty → ℕ → Bool → List (List ℕ) → List ℕ → List (List ℕ)
next_held k number started held packet = pick (eqb number 0) (pick started [] (pick (is_sure k) [] (held ++ packet ∷ []))) []

-- by a call of the receiver
abbrev pub call_given : Receiver → Certainty → List (List ℕ) → Call → List (List ℕ)
call_given s k held c =
    given_now k (answer_of s c) (start_due_at s.sync.place) (started_at (after_call s c).sync.place) held (take 188 (output_of s c))

abbrev pub call_held : Receiver → Certainty → List (List ℕ) → Call → List (List ℕ)
call_held s k held c = next_held k (answer_of s c) (started_at (after_call s c).sync.place) held (take 188 (output_of s c))

-- ---- as it is written

-- the packets stand at the front of the output, one after the other
pub record WritesPackets (packets : List (List ℕ)) (output : List ℕ) (count : ℕ) (exit : List ℕ) : Type 0 where
  pub counted : count ≡ length packets
  pub written : exit ≡ flatten packets ++ drop (188 * count) output

-- the packets that are given are written, and those that wait are held
pub record Settles (k : Certainty) (number : ℕ) (due start : Bool) (packet held output packets : List ℕ) (given : ℕ) (exit : List ℕ) : Type 0 where
  pub waits : chunks 188 (waiting_of (certainty_next k number start)) packets ≡ next_held k number start (chunks 188 (waiting_of k) held) packet
  pub gives : WritesPackets (given_now k number due start (chunks 188 (waiting_of k) held) packet) output given exit

-- a call of the receiver without marks, the packets that are given, the lines that are told, and what is left after it
pub record TakesOne (v : LockReceiver) (block output lines : List ℕ) (r : LockStep) (exit linesExit : List ℕ) : Type 0 where
  pub call : Call
  pub lent : call.block ≡ block
  pub plain : Plain call
  pub decodes : DecodesMarked (delayed_marks v.receiver call.marks) (delayed_block v.receiver call.block) call.left call.decoded
  pub output_fits : OutputFits call
  pub answered : r.number ≡ answer_of v.receiver call
  pub packet_size : length (take 188 (output_of v.receiver call)) ≡ 188
  pub state : r.lock.receiver ≡ after_call v.receiver call
  pub certainty : r.lock.certainty ≡ certainty_after v.receiver v.certainty call
  pub waits : waiting_packets r.lock ≡ call_held v.receiver v.certainty (waiting_packets v) call
  pub gives : WritesPackets (call_given v.receiver v.certainty (waiting_packets v) call) output r.given exit
  pub tells : WritesLines (call_lines v.receiver v.certainty call) lines r.told linesExit

-- The tests before the work, in the order of document 01: 5 for a state out of range, 3 where the block has not 204 bytes, 4 where there is not room for
-- eight packets and eight lines, 7 where the block cannot be counted; 0 where none refuses.
abbrev pub lock_refusal : LockReceiver → List ℕ → List ℕ → List ℕ → ℕ
lock_refusal v block output lines =
    first_due (unless (lock_in_range v) 5 ∷ unless (eqb (length block) 204) 3 ∷ when (ltb (length output) 1504) 4
    ∷ when (ltb (length lines) 8) 4 ∷ unless (ltb v.receiver.counts.taken 4294967295) 7 ∷ [])

-- a block that no test refuses
pub record LockReady (v : LockReceiver) (block output lines : List ℕ) : Type 0 where
  pub range : lock_in_range v ≡ true
  pub size : length block ≡ 204
  pub enough : 1504 ≤ length output
  pub room : 8 ≤ length lines
  pub more : v.receiver.counts.taken < 4294967295

-- what taking a block promises: all as before, or the block taken
pub data TakesBlock (v : LockReceiver) (block output lines : List ℕ) (r : Result LockStep Refusal) (exit linesExit : List ℕ) : Type 0 where
  refused : (answer : Refusal) → number_of answer ≡ lock_refusal v block output lines → 0 < number_of answer → r ≡ Err answer → exit ≡ output → linesExit ≡ lines
      → TakesBlock v block output lines r exit linesExit
  taken : (step : LockStep) → lock_refusal v block output lines ≡ 0 → r ≡ Ok step → TakesOne v block output lines step exit linesExit → TakesBlock v block output lines r exit linesExit

-- ---- the end of a lock

abbrev pub lock_end_number : LockReceiver → List ℕ → ℕ
lock_end_number v output = first_due (unless (lock_in_range v) 5 ∷ when (ltb (length output) (waiting_of v.certainty)) 4 ∷ [])

-- the packets that wait are in doubt
abbrev pub waiting_told : LockReceiver → List ℕ
waiting_told v = waiting_lines v.certainty (v.receiver.counts.taken - 11)

abbrev pub lock_end_lines : LockReceiver → List ℕ → List ℕ
lock_end_lines v output = pick (eqb (lock_end_number v output) 0) (waiting_told v) []
