-- What one call of the receiver does: document 01, "Receiver", and document 02, P4 and P11.
-- Assumes nothing.
use Rattle.std.specs.Prelude.{◌≡◌, Bool, true, false, List, [], ◌∷◌, ◌++◌, ℕ, ◌≤◌, ◌<◌, ltb, eqb, length, get_or, take, drop, replicate, Option, Some, None, Result, Ok, Err}
use Rattle.common.specs.Choice.{pick}
use Rattle.common.specs.Refusal.{unless, when, first_due}
use Rattle.common.specs.Lists.{largest}
use Rattle.answer.specs.Number.{number_of}
use Rattle.answer.specs.declared.Refusal.{Refusal}
use Rattle.reed_solomon.specs.Code.{differ, differ_bits}
use Rattle.reed_solomon.specs.Marks.{are_marks, no_marks, DecodesMarked}
use Rattle.reed_solomon.specs.Decode.{Decoded}
use Rattle.randomizer.specs.Packet.{derandomized}
use Rattle.interleaver.specs.Block.{fresh, block_out, branches_after}
use Rattle.interleaver.specs.Branch as branch
use Rattle.interleaver.specs.declared.branches.Branches.{Branches}
use Rattle.interleaver.specs.declared.branches.Side.TheVariants.{Receiving}
use Rattle.group_sync.specs.Group.{sync_in_range, fresh_sync, group_step}
use Rattle.group_sync.specs.declared.Outcome.{Outcome}
use Rattle.group_sync.specs.declared.Outcome.TheVariants.{Filling, Delivered, Lost, Waiting, OutOfStep}
use Rattle.group_sync.specs.declared.GroupStep.{GroupStep}
use Rattle.reception_counts.specs.Counts.{zero_counts, counts_in_range, outcome_number, counted}
use Rattle.receiver.specs.declared.Receiver.{Receiver}
use Rattle.receiver.specs.declared.Received.{Received}

-- all cells and counts 0, the place not known
unfoldable pub fresh_receiver : Receiver
unfolding fresh
fresh_receiver = record {
  deinterleaver = record { branches = fresh };
  marks = replicate 1122 0;
  sync = fresh_sync;
  counts = zero_counts;
}

-- the marks in the delays lie as the bytes do: they have cells of their own, and share the positions
abbrev pub marks_in : Receiver → Branches
marks_in s = branch.laid s.marks s.deinterleaver.branches.positions

-- no mark is in the delays
abbrev pub NoMarks : Receiver → Type 0
NoMarks s = s.marks ≡ replicate 1122 0

-- what documents 01 and 02 ask of the numbers of a state
unfoldable pub receiver_in_range : Receiver → Bool
unfolding counts_in_range
receiver_in_range s =
    pick (branch.positions_within Receiving s.deinterleaver.branches.positions 12)
    (pick (ltb (largest s.marks) 2)
    (pick (sync_in_range s.sync) (counts_in_range s.counts) false)
    false)
    false

-- the block that the delay branches give for one that comes
abbrev pub delayed_block : Receiver → List ℕ → List ℕ
delayed_block s block = block_out Receiving s.deinterleaver.branches block

-- and their marks
abbrev pub delayed_marks : Receiver → List ℕ → List ℕ
delayed_marks s marks = block_out Receiving (marks_in s) marks

-- what the outer decoder made of a block: a codeword, by its first byte, or none
abbrev pub decoding_of : Decoded → ℕ → Option ℕ
decoding_of (Ok _) first = Some first
decoding_of (Err _) first = None

-- What a block comes to, and the place after it. While filling, nothing is corrected and the place is untouched.
-- Decoding the delayed block left these bytes and this answer.
abbrev pub step_of : Receiver → List ℕ → Decoded → GroupStep
step_of s left decoded =
    pick (ltb s.counts.taken 11) (record { outcome = Filling; sync = s.sync })
    (group_step s.sync (decoding_of decoded (get_or left 0 0)))

-- what a block that comes to this adds to a sum over the accepted blocks
abbrev pub of_accepted : Outcome → ℕ → ℕ
of_accepted Filling n = 0
of_accepted Lost n = 0
of_accepted (Delivered place) n = n
of_accepted Waiting n = n
of_accepted OutOfStep n = n

-- the state after a block taken; the changes are those between the block that came and the codeword left
unfoldable pub state_after : Receiver → List ℕ → List ℕ → List ℕ → Decoded → Receiver
state_after s block marks left decoded =
    record {
      deinterleaver = record { branches = branches_after Receiving s.deinterleaver.branches block };
      marks = (branches_after Receiving (marks_in s) marks).cells;
      sync = (step_of s left decoded).sync;
      counts =
          counted s.counts (outcome_number (step_of s left decoded).outcome)
          (of_accepted (step_of s left decoded).outcome (differ (delayed_block s block) left))
          (of_accepted (step_of s left decoded).outcome (differ_bits (delayed_block s block) left));
    }

-- the output after a block taken: a packet given is written to its front
abbrev pub output_after : Outcome → List ℕ → List ℕ → List ℕ
output_after Filling left output = output
output_after (Delivered place) left output = derandomized place (take 188 left) ++ drop 188 output
output_after Lost left output = output
output_after Waiting left output = output
output_after OutOfStep left output = output

-- the tests before the work, in the order of documents 01 and 02; 0 where none refuses
abbrev pub receive_refusal : Receiver → List ℕ → List ℕ → List ℕ → ℕ
receive_refusal s block marks output =
    first_due (unless (receiver_in_range s) 5 ∷ unless (eqb (length block) 204) 3 ∷ unless (are_marks marks) 20
    ∷ when (ltb (length output) 188) 4 ∷ unless (ltb s.counts.taken 4294967295) 7 ∷ [])

-- a call that no test refuses
pub record Ready (s : Receiver) (block marks output : List ℕ) : Type 0 where
  pub range : receiver_in_range s ≡ true
  pub size : length block ≡ 204
  pub enough : 188 ≤ length output
  pub marked : are_marks marks ≡ true
  pub more : s.counts.taken < 4294967295

-- the number of the answer, the state and the output after a call
abbrev pub receive_number : Receiver → List ℕ → List ℕ → List ℕ → List ℕ → Decoded → ℕ
receive_number s block marks output left decoded =
    pick (eqb (receive_refusal s block marks output) 0) (outcome_number (step_of s left decoded).outcome) (receive_refusal s block marks output)

abbrev pub receive_state : Receiver → List ℕ → List ℕ → List ℕ → List ℕ → Decoded → Receiver
receive_state s block marks output left decoded = pick (eqb (receive_refusal s block marks output) 0) (state_after s block marks left decoded) s

abbrev pub receive_output : Receiver → List ℕ → List ℕ → List ℕ → List ℕ → Decoded → List ℕ
receive_output s block marks output left decoded = pick (eqb (receive_refusal s block marks output) 0) (output_after (step_of s left decoded).outcome left output) output

-- What a call does: the number of its answer, the receiver after it, and the output. Where no test refuses it and the delays are full, the block that the branches give is decoded, with the marks that they give, and the
-- call is this function of what that leaves and answers. Elsewhere nothing is decoded, and the function is the same for all that could be left and answered.
-- Decoding is total and unique, so the call is decided.
pub record ReceivesMarked (s : Receiver) (block marks output : List ℕ) (answer : ℕ) (next : Receiver) (exit : List ℕ) : Type 0 where
  pub left : List ℕ
  pub decoded : Decoded
  pub decodes : receive_refusal s block marks output ≡ 0 → 11 ≤ s.counts.taken → DecodesMarked (delayed_marks s marks) (delayed_block s block) left decoded
  pub number : answer ≡ receive_number s block marks output left decoded
  pub state : next ≡ receive_state s block marks output left decoded
  pub written : exit ≡ receive_output s block marks output left decoded

-- A block without marks is one with none: marks that are still in the delays act.
abbrev pub Receives : Receiver → List ℕ → List ℕ → ℕ → Receiver → List ℕ → Type 0
Receives s block output answer next exit = ReceivesMarked s block no_marks output answer next exit

-- the number of a call's answer: that of what the block taken came to, or of the refusal
abbrev pub taken_number : Result Outcome Refusal → ℕ
taken_number (Ok outcome) = outcome_number outcome
taken_number (Err refusal) = number_of refusal

abbrev pub received_number : Result Received Refusal → ℕ
received_number (Ok received) = outcome_number received.outcome
received_number (Err refusal) = number_of refusal
