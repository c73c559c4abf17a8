-- What the exported run of a fresh receiver gives: the packets, the counts and the answer's number in lent bytes.
-- Clauses: document 01, "Receiver"; document 02, P11.
-- Assumes nothing.
use Rattle.std.specs.Prelude.{◌≡◌, List, [], ◌∷◌, ◌++◌, ℕ, ◌≤◌, ◌<◌, ltb, length, drop, set}
use Rattle.common.specs.Refusal.{Test, unless, when, first_due}
use Rattle.receiver.specs.Receive.{fresh_receiver}
use Rattle.receiver.specs.declared.Receiver.{Receiver}
use Rattle.recording.specs.Recording.{TakesRecording, recording_tests, marks_for}
use Rattle.reception_counts.specs.Bytes.{count_bytes}

-- the number of the answer: 4 where there are too few bytes for the counts, then what the run answers
abbrev pub receive_run_tests : List ℕ → List ℕ → List ℕ → List Test
receive_run_tests blocks output counts = when (ltb (length counts) 64) 4 ∷ recording_tests fresh_receiver blocks output

abbrev pub receive_run_number : List ℕ → List ℕ → List ℕ → ℕ
receive_run_number blocks output counts = first_due (receive_run_tests blocks output counts)

-- with marks: 20 before it, where there is not a mark, 0 or 1, for each byte
abbrev pub marked_run_number : List ℕ → List ℕ → List ℕ → List ℕ → ℕ
marked_run_number blocks marks output counts = first_due (unless (marks_for blocks marks) 20 ∷ receive_run_tests blocks output counts)

-- Where no byte is lent for the answer's number, nothing is done. Where the run is refused, its number alone is written. Else the packets,
-- the counts and 0 are.
pub data ReceiveExported (blocks marks output exit counts after answer told : List ℕ) (refusal r : ℕ) : Type 0 where
  untold : length answer < 1 → r ≡ 0 → exit ≡ output → after ≡ counts → told ≡ answer → ReceiveExported blocks marks output exit counts after answer told refusal r
  refused : 1 ≤ length answer → 0 < refusal → r ≡ 0 → exit ≡ output → after ≡ counts → told ≡ set answer 0 refusal
      → ReceiveExported blocks marks output exit counts after answer told refusal r
  taken : 1 ≤ length answer → refusal ≡ 0 → (last : Receiver) → TakesRecording fresh_receiver blocks marks output r last exit
      → after ≡ count_bytes last.counts ++ drop 64 counts → told ≡ set answer 0 0 → ReceiveExported blocks marks output exit counts after answer told refusal r

abbrev pub ReceiveRunExported : List ℕ → List ℕ → List ℕ → List ℕ → List ℕ → List ℕ → List ℕ → ℕ → Type 0
ReceiveRunExported blocks output exit counts after answer told r = ReceiveExported blocks [] output exit counts after answer told (receive_run_number blocks output counts) r

abbrev pub ReceiveMarkedRunExported : List ℕ → List ℕ → List ℕ → List ℕ → List ℕ → List ℕ → List ℕ → List ℕ → ℕ → Type 0
ReceiveMarkedRunExported blocks marks output exit counts after answer told r = ReceiveExported blocks marks output exit counts after answer told (marked_run_number blocks marks output counts) r
