-- What one call of the sender gives: the answer's number, by its tests in the order of document 01, the symbols, the sender after it and the output.
-- Clauses: document 02, P2 and P12.
-- Assumes nothing.
use Rattle.std.specs.Prelude.{◌≡◌, Bool, false, List, [], ◌∷◌, ◌++◌, ℕ, ◌+◌, ◌%◌, ltb, eqb, length, drop, Result, Ok, Err}
use Rattle.answer.specs.Number.{number_of}
use Rattle.answer.specs.declared.Refusal.{Refusal}
use Rattle.common.specs.Choice.{pick}
use Rattle.common.specs.Refusal.{unless, when, first_due}
use Rattle.reed_solomon.specs.Encode.{encoded}
use Rattle.randomizer.specs.Packet.{randomized}
use Rattle.interleaver.specs.Branch as branch
use Rattle.interleaver.specs.Block.{fresh, block_out, branches_after}
use Rattle.interleaver.specs.declared.branches.Side.TheVariants.{Sending}
use Rattle.puncturing.specs.Mode.{Mode}
use Rattle.inner_code.specs.Step.{in_range_by}
use Rattle.inner_code.specs.Encode.{fresh_coder, block_symbols_by, block_coder_by, symbol_count_by}
use Rattle.sender.specs.Input.{is_input, packet_for, sent_number}
use Rattle.sender.specs.declared.Sender.{Sender}
use Rattle.sender.specs.declared.Sent.{Sent}

-- a fresh sender: the first place of a group, empty branches, a fresh inner coder
unfoldable pub fresh_sender : ℕ → Sender
fresh_sender rate = record { place = 0; interleaver = record { branches = fresh }; coder = fresh_coder rate }

-- ---- A sender knows its mode by the number that its inner coder holds. Each definition takes the table of modes: `mode_of` in the product.

-- document 01, "State ranges": the group place 0 to 7, the delay positions and the numbers of the inner coder
abbrev pub sender_in_range : (ℕ → Mode) → Sender → Bool
sender_in_range t s = pick (ltb 7 s.place) false (pick (branch.branches_in_range Sending s.interleaver.branches) (in_range_by (t s.coder.rate) s.coder) false)

-- the packet through the first three stages: randomized at its place of the group, coded, interleaved
abbrev pub coded_packet : Sender → List ℕ → List ℕ
coded_packet s packet = encoded (randomized s.place packet)

unfoldable pub sent_block : Sender → List ℕ → List ℕ
sent_block s packet = block_out Sending s.interleaver.branches (coded_packet s packet)

-- its symbols, and how many they are
unfoldable pub sent_symbols : (ℕ → Mode) → Sender → List ℕ → List ℕ
sent_symbols t s packet = block_symbols_by (t s.coder.rate) s.coder (sent_block s packet)

abbrev pub sent_count : (ℕ → Mode) → Sender → ℕ
sent_count t s = symbol_count_by (t s.coder.rate) s.coder

-- the sender after it: the place goes on by one, from 7 to 0
unfoldable pub sender_after : (ℕ → Mode) → Sender → List ℕ → Sender
sender_after t s packet = record {
  place = (s.place + 1) % 8;
  interleaver = record { branches = branches_after Sending s.interleaver.branches (coded_packet s packet) };
  coder = block_coder_by (t s.coder.rate) s.coder (sent_block s packet);
}

-- whether its mode is sent
abbrev pub is_sent : (ℕ → Mode) → Sender → Bool
is_sent t s = (t s.coder.rate).sent

-- What is refused: 5 for a state out of range, 6 for one whose mode is not sent, 1 for an input that is neither no bytes nor 188, 4 for short room;
-- 0 where nothing is.
abbrev pub send_refusal : (ℕ → Mode) → Sender → List ℕ → List ℕ → ℕ
send_refusal t s input output =
    first_due (unless (sender_in_range t s) 5 ∷ unless (is_sent t s) 6 ∷ unless (is_input input) 1 ∷ when (ltb (length output) (sent_count t s)) 4 ∷ [])

-- the number of the answer: the refusal, or else which packet was sent
abbrev pub send_number : (ℕ → Mode) → Sender → List ℕ → List ℕ → ℕ
send_number t s input output = pick (eqb (send_refusal t s input output) 0) (sent_number input) (send_refusal t s input output)

-- how many symbols the call sends, the sender and the output after it; on refusal none, and both as before
abbrev pub send_count : (ℕ → Mode) → Sender → List ℕ → List ℕ → ℕ
send_count t s input output = pick (eqb (send_refusal t s input output) 0) (sent_count t s) 0

abbrev pub send_sender : (ℕ → Mode) → Sender → List ℕ → List ℕ → Sender
send_sender t s input output = pick (eqb (send_refusal t s input output) 0) (sender_after t s (packet_for input)) s

abbrev pub send_output : (ℕ → Mode) → Sender → List ℕ → List ℕ → List ℕ
send_output t s input output =
    pick (eqb (send_refusal t s input output) 0) (sent_symbols t s (packet_for input) ++ drop (sent_count t s) output) output

-- the number of what a call answers: 15 where a null packet was sent
abbrev pub sent_answer : Result Sent Refusal → ℕ
sent_answer (Ok sent) = pick sent.replaced 15 0
sent_answer (Err refusal) = number_of refusal

-- what a call promises
pub record Sends (t : ℕ → Mode) (s : Sender) (input output : List ℕ) (number count : ℕ) (next : Sender) (left : List ℕ) : Type 0 where
  pub answered : number ≡ send_number t s input output
  pub counted : count ≡ send_count t s input output
  pub sender : next ≡ send_sender t s input output
  pub written : left ≡ send_output t s input output
