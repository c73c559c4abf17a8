-- Received bytes and their marks in pieces: what feeding a list of losses with a piece does, and what its end does.
-- Clauses: document 01, "Receiver"; document 02, P11.
-- Assumes nothing.
use Rattle.std.specs.Prelude.{◌≡◌, Bool, true, false, List, [], ◌∷◌, ◌++◌, map, ℕ, ◌+◌, ◌-◌, ◌*◌, ◌/◌, ◌<◌, ltb, eqb, length, take, drop, replicate}
use Rattle.common.specs.Choice.{pick}
use Rattle.common.specs.Refusal.{unless, when, first_due}
use Rattle.common.specs.Lists.{All, largest, chunks_of, rest_of}
use Rattle.receiver.specs.Receive.{fresh_receiver, receiver_in_range}
use Rattle.receiver.specs.Run.{Call, DecodedCalls, OutputFits, lent_blocks, after_calls}
use Rattle.receiver.specs.declared.Receiver.{Receiver}
use Rattle.recording.specs.Recording.{marks_for}
use Rattle.losses.specs.Watch.{waiting_of, waiting_lines, certainty_in_range, lines_of, certainty_of}
use Rattle.losses.specs.declared.Certainty.{Certainty}
use Rattle.losses.specs.declared.Certainty.TheVariants.{Unsure}
use Rattle.losses.specs.declared.LossStream.{LossStream}

-- ---- the state

-- the bytes of a block that is not whole yet, and their marks
abbrev pub bytes_held : LossStream → List ℕ
bytes_held i = take i.held i.pending

abbrev pub held_marks : LossStream → List ℕ
held_marks i = take i.held i.marks

-- a fresh receiver, no byte, and no packet that waits
unfoldable pub fresh_loss_stream : LossStream
fresh_loss_stream = record { receiver = fresh_receiver; certainty = Unsure 0; pending = replicate 204 0; marks = replicate 204 0; held = 0 }

-- the receiver is in its ranges, fewer bytes than a block has are held, their marks are such, and no more packets wait than can
abbrev pub loss_stream_in_range : LossStream → Bool
loss_stream_in_range i =
    pick (receiver_in_range i.receiver)
    (pick (ltb i.held 204)
    (pick (ltb (largest (held_marks i)) 2) (certainty_in_range i.certainty i.receiver.sync.place i.receiver.counts.taken) false)
    false)
    false

-- ---- the calls on bytes

abbrev pub lent_marks : List Call → List (List ℕ)
lent_marks cs = map (λ c. c.marks) cs

-- The bytes and their marks are cut into blocks of 204, and those after the last whole block are in none. There is one call for each block, in
-- their order, with its marks and with room for a packet.
pub record CallsOn (s : Receiver) (bytes marks : List ℕ) (cs : List Call) : Type 0 where
  pub blocks : lent_blocks cs ≡ chunks_of 204 bytes
  pub marked : lent_marks cs ≡ chunks_of 204 marks
  pub decodes : DecodedCalls s cs
  pub output_fits : All OutputFits cs

-- the lines that the calls decide, and what is left after them
pub record Listing (s : Receiver) (k : Certainty) (bytes marks lines : List ℕ) (last : Receiver) (kept : Certainty) : Type 0 where
  pub calls : List Call
  pub on : CallsOn s bytes marks calls
  pub listed : lines ≡ lines_of s k calls
  pub state : last ≡ after_calls s calls
  pub certainty : kept ≡ certainty_of s k calls

-- ---- a piece

-- the marks of a piece: 0 where none come
abbrev pub marks_of : List ℕ → List ℕ → List ℕ
marks_of piece marks = pick (eqb (length marks) 0) (replicate (length piece) 0) marks

-- no marks come, or one for each byte
abbrev pub marks_fit : List ℕ → List ℕ → Bool
marks_fit piece marks = pick (eqb (length marks) 0) true (marks_for piece marks)

-- how many bytes more can come: those of the blocks that can be counted
abbrev pub capacity_of : LossStream → ℕ
capacity_of i = 204 * (4294967295 - i.receiver.counts.taken) - i.held

-- what a piece comes to, after the bytes held; the bytes after the last whole block are held
pub record ListsPiece (i : LossStream) (piece marks lines : List ℕ) (next : LossStream) : Type 0 where
  pub listing : Listing i.receiver i.certainty (bytes_held i ++ piece) (held_marks i ++ marks) lines next.receiver next.certainty
  pub held_is : next.held ≡ length (rest_of 204 (bytes_held i ++ piece))
  pub bytes_kept : bytes_held next ≡ rest_of 204 (bytes_held i ++ piece)
  pub marks_kept : held_marks next ≡ rest_of 204 (held_marks i ++ marks)

-- the lines are written to the front of the output
pub record WritesLines (lines output : List ℕ) (count : ℕ) (exit : List ℕ) : Type 0 where
  pub counted : count ≡ length lines
  pub written : exit ≡ lines ++ drop count output

-- The tests before the work, in the order of documents 01 and 02: 5 for a state out of range, 20 where the marks are none or not one for each byte,
-- 4 where there is not room for a line for each packet that waits and each block that is whole then, 7 where not all the bytes can be taken.
abbrev pub loss_feed_number : LossStream → List ℕ → List ℕ → List ℕ → ℕ
loss_feed_number i piece marks output =
    first_due (unless (loss_stream_in_range i) 5 ∷ unless (marks_fit piece marks) 20
    ∷ when (ltb (length output) (waiting_of i.certainty + (i.held + length piece) / 204)) 4 ∷ when (ltb (capacity_of i) (length piece)) 7 ∷ [])

-- what feeding promises: all as before, or the whole piece taken
pub data FeedsLosses (i : LossStream) (piece marks output : List ℕ) (number count : ℕ) (next : LossStream) (exit : List ℕ) : Type 0 where
  refused : number ≡ loss_feed_number i piece marks output → 0 < number → count ≡ 0 → next ≡ i → exit ≡ output → FeedsLosses i piece marks output number count next exit
  fed : loss_feed_number i piece marks output ≡ 0 → number ≡ 0 → (lines : List ℕ) → ListsPiece i piece (marks_of piece marks) lines next → WritesLines lines output count exit
      → FeedsLosses i piece marks output number count next exit

-- ---- the end

-- the packets that wait when the input ends are in doubt, where there is room for their lines
abbrev pub end_number : Certainty → List ℕ → ℕ
end_number k output = first_due (when (ltb (length output) (waiting_of k)) 4 ∷ [])

abbrev pub lines_at_end : Certainty → ℕ → List ℕ → List ℕ
lines_at_end k taken output = pick (eqb (end_number k output) 0) (waiting_lines k (taken - 11)) []

abbrev pub loss_close_number : LossStream → List ℕ → ℕ
loss_close_number i output = first_due (unless (loss_stream_in_range i) 5 ∷ when (ltb (length output) (waiting_of i.certainty)) 4 ∷ [])

-- the packets that wait when the input ends are in doubt
abbrev pub end_lines : LossStream → List ℕ
end_lines i = waiting_lines i.certainty (i.receiver.counts.taken - 11)

abbrev pub close_lines : LossStream → List ℕ → List ℕ
close_lines i output = pick (eqb (loss_close_number i output) 0) (end_lines i) []
