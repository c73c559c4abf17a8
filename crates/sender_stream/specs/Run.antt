-- What a fresh sender gives for a whole list of packets that lie one after the other in a buffer.
-- Clauses: document 01, "Answer numbers"; document 02, P2 and P12.
-- Assumes nothing.
use Rattle.std.specs.Prelude.{◌≡◌, Bool, true, false, List, [], ◌∷◌, ◌++◌, ℕ, ◌%◌, ◌≤◌, ltb, eqb, length, drop, Result, Ok, Err}
use Rattle.answer.specs.Number.{number_of}
use Rattle.answer.specs.declared.Refusal.{Refusal}
use Rattle.common.specs.Choice.{pick}
use Rattle.common.specs.Refusal.{unless, when, first_due}
use Rattle.common.specs.Lists.{chunks_of}
use Rattle.puncturing.specs.Mode.{mode_of}
use Rattle.sender.specs.Standard.{on_air}
use Rattle.sender.specs.Input.{is_synced, packets_for}
use Rattle.sender_stream.specs.declared.run.SentRun.{SentRun}

-- each packet of a list begins with the sync byte
unfoldable pub synced : List (List ℕ) → Bool
synced [] = true
synced (p ∷ ps) = pick (is_synced p) (synced ps) false

-- the symbols of the standard for the packets of a buffer, with null packets put in
abbrev pub run_symbols : ℕ → List ℕ → List ℕ
run_symbols rate bytes = on_air (mode_of rate) (packets_for (chunks_of 188 bytes))

-- what the tests tell: all of them can be sent
pub record Sendable (rate : ℕ) (bytes output : List ℕ) : Type 0 where
  pub sent : (mode_of rate).sent ≡ true
  pub whole : length bytes % 188 ≡ 0
  pub fits : length (run_symbols rate bytes) ≤ length output

-- What is refused. A constructor's answer comes first: 6 for a mode that is not sent. Then, as for one packet, 1 where the bytes make no whole packets,
-- 4 where the output is too short for all the symbols; 0 where nothing is.
abbrev pub run_refusal : ℕ → List ℕ → List ℕ → ℕ
run_refusal rate bytes output =
    first_due (unless (mode_of rate).sent 6 ∷ unless (eqb (length bytes % 188) 0) 1 ∷ when (ltb (length output) (length (run_symbols rate bytes))) 4 ∷ [])

-- the number of the answer: the refusal, or else 15 where a null packet was put in
abbrev pub run_number : ℕ → List ℕ → List ℕ → ℕ
run_number rate bytes output = pick (eqb (run_refusal rate bytes output) 0) (pick (synced (chunks_of 188 bytes)) 0 15) (run_refusal rate bytes output)

abbrev pub run_count : ℕ → List ℕ → List ℕ → ℕ
run_count rate bytes output = pick (eqb (run_refusal rate bytes output) 0) (length (run_symbols rate bytes)) 0

abbrev pub run_output : ℕ → List ℕ → List ℕ → List ℕ
run_output rate bytes output =
    pick (eqb (run_refusal rate bytes output) 0) (run_symbols rate bytes ++ drop (length (run_symbols rate bytes)) output) output

-- the number of what a run answers: 15 where a null packet was sent
abbrev pub run_answer : Result SentRun Refusal → ℕ
run_answer (Ok run) = pick run.replaced 15 0
run_answer (Err refusal) = number_of refusal

-- what a run promises
pub record SendsRun (rate : ℕ) (bytes output : List ℕ) (number count : ℕ) (left : List ℕ) : Type 0 where
  pub answered : number ≡ run_number rate bytes output
  pub counted : count ≡ run_count rate bytes output
  pub written : left ≡ run_output rate bytes output
