-- Sending in progress: what feeding it with a piece gives. The bytes held and those of the piece are cut into packets of 188 bytes.
-- Clause: document 02, P2.
-- Assumes nothing.
use Rattle.std.specs.Prelude.{◌≡◌, Bool, true, false, ℕ, ◌+◌, ◌/◌, ◌≤◌, ltb, length, take, drop, replicate}
use mathlib.Core.List.{List, [], ◌∷◌, ◌++◌, map, flatten}
use Rattle.common.specs.Choice.{pick}
use Rattle.common.specs.Refusal.{unless, when, first_due}
use Rattle.common.specs.Lists.{padded, chunks_of, rest_of}
use Rattle.puncturing.specs.Mode.{mode_of}
use Rattle.sender.specs.Input.{packets_for, sent_number}
use Rattle.sender.specs.Send.{fresh_sender, sender_in_range, is_sent}
use Rattle.sender.specs.Calls.{calls_symbols, calls_sender}
use Rattle.sender.specs.declared.Sender.{Sender}
use Rattle.sender_stream.specs.declared.SenderStream.{SenderStream}

-- a sender, and the bytes of a packet that is not whole yet
abbrev pub holding : Sender → List ℕ → SenderStream
holding s bytes = record { sender = s; pending = padded 188 bytes; held = length bytes }

abbrev pub bytes_held : SenderStream → List ℕ
bytes_held w = take w.held w.pending

-- a fresh sender, and no byte
unfoldable pub fresh_sender_stream : ℕ → SenderStream
fresh_sender_stream rate = record { sender = fresh_sender rate; pending = replicate 188 0; held = 0 }

-- fewer bytes than a packet has are held
abbrev pub sender_stream_in_range : SenderStream → Bool
sender_stream_in_range w = pick (sender_in_range mode_of w.sender) (ltb w.held 188) false

-- the packets that are whole with a piece, and how many they are; the bytes after the last of them are the rest
abbrev pub whole_packets : SenderStream → List ℕ → List (List ℕ)
whole_packets w piece = chunks_of 188 (bytes_held w ++ piece)

abbrev pub whole_count : SenderStream → List ℕ → ℕ
whole_count w piece = (w.held + length piece) / 188

-- what is sent for them, with null packets put in: the symbols, the number of the answer for each, and the sending after it
abbrev pub fed_symbols : SenderStream → List ℕ → List ℕ
fed_symbols w piece = flatten (calls_symbols mode_of w.sender (packets_for (whole_packets w piece)))

abbrev pub fed_answers : SenderStream → List ℕ → List ℕ
fed_answers w piece = map sent_number (whole_packets w piece)

abbrev pub fed_sender_stream : SenderStream → List ℕ → SenderStream
fed_sender_stream w piece = holding (calls_sender mode_of w.sender (packets_for (whole_packets w piece))) (rest_of 188 (bytes_held w ++ piece))

-- 5 for a state out of range, 6 for one whose mode is not sent, 4 where the output is too short for the symbols, or there is not a byte for the answer of
-- each packet that is whole; 0 where nothing is refused
abbrev pub sender_feed_number : SenderStream → List ℕ → List ℕ → List ℕ → ℕ
sender_feed_number w piece output answers =
    first_due (unless (sender_stream_in_range w) 5 ∷ unless (is_sent mode_of w.sender) 6
    ∷ when (ltb (length output) (length (fed_symbols w piece))) 4 ∷ when (ltb (length answers) (whole_count w piece)) 4 ∷ [])

-- what the tests tell
pub record OutputsFit (w : SenderStream) (piece output answers : List ℕ) : Type 0 where
  pub range : sender_stream_in_range w ≡ true
  pub sent : is_sent mode_of w.sender ≡ true
  pub symbols : length (fed_symbols w piece) ≤ length output
  pub answers_fit : whole_count w piece ≤ length answers

-- what is left where nothing is refused
pub record FeedsAll (w : SenderStream) (piece output answers : List ℕ) (number count packets : ℕ) (next : SenderStream) (left told : List ℕ) : Type 0 where
  pub done : number ≡ 0
  pub counted : count ≡ length (fed_symbols w piece)
  pub whole : packets ≡ whole_count w piece
  pub sending : next ≡ fed_sender_stream w piece
  pub written : left ≡ fed_symbols w piece ++ drop count output
  pub answers_written : told ≡ fed_answers w piece ++ drop packets answers

-- What a call promises: the answer, the number of symbols and of packets, the sending, the output and the answers after it. After a refusal
-- nothing is written, and all is as before.
pub data FeedsSender (w : SenderStream) (piece output answers : List ℕ) : ℕ → ℕ → ℕ → SenderStream → List ℕ → List ℕ → Type 0 where
  refused : {number : ℕ} → number ≡ sender_feed_number w piece output answers → (number ≡ 0 → ⊥) → FeedsSender w piece output answers number 0 0 w output answers
  fed : {number count packets : ℕ} {next : SenderStream} {left told : List ℕ} → sender_feed_number w piece output answers ≡ 0
      → FeedsAll w piece output answers number count packets next left told → FeedsSender w piece output answers number count packets next left told
