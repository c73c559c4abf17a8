-- The parts of feeding: one block, the part of a piece that ends at a block's end or at its own, and a piece.
-- Assumes nothing.
use Rattle.std.specs.Prelude.{◌≡◌, true, List, ◌++◌, ◌⊎◌, ℕ, ◌+◌, ◌/◌, ◌≤◌, ◌<◌, length, drop}
use Rattle.reed_solomon.specs.Marks.{no_marks, DecodesMarked}
use Rattle.receiver.specs.Receive.{delayed_block, delayed_marks}
use Rattle.receiver.specs.Run.{Call, OutputFits, answer_of, output_of, after_call}
use Rattle.receiver.specs.declared.Receiver.{Receiver}
use Rattle.losses.specs.Watch.{waiting_of, certainty_in_range, call_lines, certainty_after}
use Rattle.losses.specs.Feed.{WritesLines, ListsPiece}
use Rattle.losses.specs.declared.Certainty.{Certainty}
use Rattle.losses.specs.declared.LossStream.{LossStream}

-- marks at the front of those of a block, and none behind them
abbrev pub marks_front : List ℕ → List ℕ
marks_front marks = marks ++ drop (length marks) no_marks

-- no more packets wait than can, and the blocks can be counted
pub record Watched (s : Receiver) (k : Certainty) : Type 0 where
  pub range : certainty_in_range k s.sync.place s.counts.taken ≡ true
  pub most : s.counts.taken ≤ 4294967295

-- a call of the receiver, its answer and output, the lines that it decides, and what is known after it
pub record TakesBlock (s : Receiver) (k : Certainty) (block marks room output : List ℕ) (number count : ℕ) (next : Receiver) (kept : Certainty) (roomAfter exit : List ℕ) : Type 0 where
  pub call : Call
  pub lent : call.block ≡ block
  pub marked : call.marks ≡ marks
  pub decodes : DecodesMarked (delayed_marks s call.marks) (delayed_block s call.block) call.left call.decoded
  pub output_fits : OutputFits call
  pub answered : number ≡ answer_of s call
  pub given : roomAfter ≡ output_of s call
  pub state : next ≡ after_call s call
  pub certainty : kept ≡ certainty_after s k call
  pub writes : WritesLines (call_lines s k call) output count exit

-- at most the bytes that complete a block, with a mark for each, and room for its lines
pub record PartReady (i : LossStream) (part marks output : List ℕ) : Type 0 where
  pub watched : Watched i.receiver i.certainty
  pub small : i.held < 204
  pub within : i.held + length part ≤ 204
  pub marked : length marks ≡ length part
  pub enough : waiting_of i.certainty + (i.held + length part) / 204 ≤ length output

-- a piece of any length, with a mark for each byte or none, and room for the lines of the blocks that are whole then
pub record PieceReady (i : LossStream) (piece marks output : List ℕ) : Type 0 where
  pub watched : Watched i.receiver i.certainty
  pub small : i.held < 204
  pub marked : (length marks ≡ 0) ⊎ (length marks ≡ length piece)
  pub enough : waiting_of i.certainty + (i.held + length piece) / 204 ≤ length output

-- what it comes to, with its lines in the output
pub record TakesLines (i : LossStream) (piece marks output : List ℕ) (count : ℕ) (next : LossStream) (exit : List ℕ) : Type 0 where
  pub lines : List ℕ
  pub takes : ListsPiece i piece marks lines next
  pub writes : WritesLines lines output count exit
