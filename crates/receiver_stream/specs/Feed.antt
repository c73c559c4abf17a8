-- A reception in progress: what feeding it with a piece does, and what it comes to over all the bytes that came, whatever the pieces.
-- Clause: document 01, "Receiver".
-- Assumes nothing.
use Rattle.std.specs.Prelude.{◌≡◌, Bool, false, List, [], ◌∷◌, ◌++◌, ℕ, ◌+◌, ◌-◌, ◌*◌, ◌/◌, ◌<◌, ltb, length, take, replicate}
use Rattle.common.specs.Choice.{pick}
use Rattle.common.specs.Refusal.{unless, when, first_due}
use Rattle.common.specs.Lists.{padded, rest_of}
use Rattle.receiver.specs.Receive.{fresh_receiver, receiver_in_range}
use Rattle.receiver.specs.declared.Receiver.{Receiver}
use Rattle.recording.specs.Recording.{marks_for, TakesRecording}
use Rattle.receiver_stream.specs.declared.ReceiverStream.{ReceiverStream}

-- a receiver, and the bytes of a block that is not whole yet, with their marks
abbrev pub holding : Receiver → List ℕ → List ℕ → ReceiverStream
holding s bytes marks = record { receiver = s; pending = padded 204 bytes; marks = padded 204 marks; held = length bytes }

abbrev pub bytes_held : ReceiverStream → List ℕ
bytes_held i = take i.held i.pending

abbrev pub held_marks : ReceiverStream → List ℕ
held_marks i = take i.held i.marks

-- a fresh receiver, and no byte
unfoldable pub fresh_receiver_stream : ReceiverStream
fresh_receiver_stream = record { receiver = fresh_receiver; pending = replicate 204 0; marks = replicate 204 0; held = 0 }

-- fewer bytes than a block has are held
abbrev pub receiver_stream_in_range : ReceiverStream → Bool
receiver_stream_in_range i = pick (receiver_in_range i.receiver) (ltb i.held 204) false

-- how many bytes more can come: those of the blocks that can be counted
abbrev pub capacity_of : ReceiverStream → ℕ
capacity_of i = 204 * (4294967295 - i.receiver.counts.taken) - i.held

-- What a piece comes to, after the bytes held: a recording of both, with their marks, and with the packets in the output. The bytes after its last
-- whole block are held, with their marks.
pub record ReceivesPiece (i : ReceiverStream) (piece marks output : List ℕ) (count : ℕ) (next : ReceiverStream) (exit : List ℕ) : Type 0 where
  pub takes : TakesRecording i.receiver (bytes_held i ++ piece) (held_marks i ++ marks) output count next.receiver exit
  pub kept : next ≡ holding next.receiver (rest_of 204 (bytes_held i ++ piece)) (rest_of 204 (held_marks i ++ marks))

-- The tests before the work, in the order of document 01: 5 for a state out of range, 20 unless there is a mark, 0 or 1, for each byte, 4 where there
-- is not room for a packet for each block that is whole then, 7 where not all the bytes can be taken; 0 where none refuses.
abbrev pub receiver_feed_number : ReceiverStream → List ℕ → List ℕ → List ℕ → ℕ
receiver_feed_number i piece marks output =
    first_due (unless (receiver_stream_in_range i) 5 ∷ unless (marks_for piece marks) 20
    ∷ when (ltb (length output) (188 * ((i.held + length piece) / 204))) 4 ∷ when (ltb (capacity_of i) (length piece)) 7 ∷ [])

-- what feeding promises: all as before, or the whole piece taken
pub data FeedsReceiver (i : ReceiverStream) (piece marks output : List ℕ) (number count : ℕ) (next : ReceiverStream) (exit : List ℕ) : Type 0 where
  refused : number ≡ receiver_feed_number i piece marks output → 0 < number → count ≡ 0 → next ≡ i → exit ≡ output → FeedsReceiver i piece marks output number count next exit
  fed : receiver_feed_number i piece marks output ≡ 0 → number ≡ 0 → ReceivesPiece i piece marks output count next exit → FeedsReceiver i piece marks output number count next exit
