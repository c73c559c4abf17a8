-- What a receiver makes of a recording: the calls on its whole blocks, one after the other, each with its marks.
-- Clauses: document 01, "Receiver"; document 02, P11.
-- Assumes nothing.
use Rattle.std.specs.Prelude.{◌≡◌, Bool, false, ℕ, ◌-◌, ◌*◌, ◌/◌, ◌<◌, ◌≤◌, ltb, eqb, length, take, drop}
use mathlib.Core.List.{List, [], ◌∷◌, ◌++◌, flatten}
use Rattle.common.specs.Choice.{pick}
use Rattle.common.specs.Refusal.{Test, unless, when, first_due}
use Rattle.common.specs.Lists.{largest}
use Rattle.reed_solomon.specs.Marks.{no_marks}
use Rattle.receiver.specs.Receive.{receiver_in_range, ReceivesMarked}
use Rattle.receiver.specs.declared.Receiver.{Receiver}

-- the marks of the first block: 0 where none come
abbrev pub block_marks : List ℕ → List ℕ
block_marks marks = take 204 (marks ++ no_marks)

-- There is one call for each block of 204 bytes, in their order, with its marks and with room for a packet, on the receiver that the call before handed
-- back. The fewer than 204 bytes after the last block are in none. These are the packets that calls answered 0 left at the front of their output, and
-- the receiver after the calls.
pub data Recording : Receiver → List ℕ → List ℕ → List (List ℕ) → Receiver → Type 0 where
  over : {s : Receiver} {bytes marks : List ℕ} → length bytes < 204 → Recording s bytes marks [] s
  call : {s last : Receiver} {bytes marks : List ℕ} {packets : List (List ℕ)} (output exit : List ℕ) (number : ℕ) (next : Receiver) → 204 ≤ length bytes → 188 ≤ length output
      → ReceivesMarked s (take 204 bytes) (block_marks marks) output number next exit → Recording next (drop 204 bytes) (drop 204 marks) packets last
      → Recording s bytes marks (pick (eqb number 0) (take 188 exit ∷ []) [] ++ packets) last

-- the packets stand in the output, one after the other, and count is how many bytes they are
pub record TakesRecording (s : Receiver) (bytes marks output : List ℕ) (count : ℕ) (last : Receiver) (exit : List ℕ) : Type 0 where
  pub packets : List (List ℕ)
  pub recording : Recording s bytes marks packets last
  pub counted : count ≡ length (flatten packets)
  pub written : exit ≡ flatten packets ++ drop count output

-- how many bytes of packet a call gives, by the number of its answer
abbrev pub given_bytes : ℕ → ℕ
given_bytes number = pick (eqb number 0) 188 0

-- The tests before the work, in the order of document 01, each for all the blocks: 5 for a state out of range, 4 where there is not room for
-- a packet for each whole block, 7 where not all of them can be counted; 0 where none refuses.
abbrev pub recording_tests : Receiver → List ℕ → List ℕ → List Test
recording_tests s bytes output =
    unless (receiver_in_range s) 5 ∷ when (ltb (length output) (188 * (length bytes / 204))) 4
    ∷ when (ltb (4294967295 - s.counts.taken) (length bytes / 204)) 7 ∷ []

abbrev pub recording_number : Receiver → List ℕ → List ℕ → ℕ
recording_number s bytes output = first_due (recording_tests s bytes output)

-- whether there is a mark, 0 or 1, for each byte
abbrev pub marks_for : List ℕ → List ℕ → Bool
marks_for bytes marks = pick (eqb (length marks) (length bytes)) (ltb (largest marks) 2) false

-- with marks: 20 where they are not such, after 5
abbrev pub marked_number : Receiver → List ℕ → List ℕ → List ℕ → ℕ
marked_number s bytes marks output = first_due (unless (receiver_in_range s) 5 ∷ unless (marks_for bytes marks) 20 ∷ recording_tests s bytes output)

-- what taking a recording promises, where its tests give the number refusal: all as before, or each whole block taken
pub data AnswersRecording (s : Receiver) (bytes marks output : List ℕ) (refusal number count : ℕ) (last : Receiver) (exit : List ℕ) : Type 0 where
  refused : number ≡ refusal → 0 < number → count ≡ 0 → last ≡ s → exit ≡ output → AnswersRecording s bytes marks output refusal number count last exit
  taken : refusal ≡ 0 → number ≡ 0 → TakesRecording s bytes marks output count last exit → AnswersRecording s bytes marks output refusal number count last exit

-- without marks, none come
abbrev pub ReceivesRecording : Receiver → List ℕ → List ℕ → ℕ → ℕ → Receiver → List ℕ → Type 0
ReceivesRecording s bytes output number count last exit = AnswersRecording s bytes [] output (recording_number s bytes output) number count last exit

abbrev pub ReceivesMarkedRecording : Receiver → List ℕ → List ℕ → List ℕ → ℕ → ℕ → Receiver → List ℕ → Type 0
ReceivesMarkedRecording s bytes marks output number count last exit = AnswersRecording s bytes marks output (marked_number s bytes marks output) number count last exit
