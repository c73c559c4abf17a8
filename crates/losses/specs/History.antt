-- Feeding after feeding, the end, and the list of all the bytes that came, whatever pieces they came in.
-- Assumes nothing.
use Rattle.std.specs.Prelude.{◌≡◌, List, [], ◌++◌, ℕ, ◌*◌, ◌≤◌, ◌<◌, eqb, length, take, drop}
use Rattle.common.specs.Choice.{pick}
use Rattle.common.specs.Lists.{largest, rest_of}
use Rattle.group_sync.specs.Group.{fresh_sync}
use Rattle.group_sync.specs.Stream.{outcomes}
use Rattle.group_sync.specs.declared.Outcome.{Outcome}
use Rattle.receiver.specs.Receive.{fresh_receiver}
use Rattle.receiver.specs.Run.{Call}
use Rattle.receiver.specs.Begun.{decodings}
use Rattle.losses.specs.List.{losses}
use Rattle.losses.specs.Feed.{bytes_held, held_marks, CallsOn, Listing, marks_of, FeedsLosses}
use Rattle.losses.specs.declared.Certainty.TheVariants.{Unsure}
use Rattle.losses.specs.declared.LossStream.{LossStream}

-- A history of calls, each with the stream that the one before it left: the bytes that came and their marks, those of pieces that were not refused,
-- and the lines, one after the other.
pub data LossFeedings : LossStream → List ℕ → List ℕ → List ℕ → LossStream → Type 0 where
  none : {i : LossStream} → LossFeedings i [] [] [] i
  feeding : {i next last : LossStream} {bytes marks lines : List ℕ} (piece own output exit : List ℕ) (number count : ℕ)
      → FeedsLosses i piece own output number count next exit → LossFeedings next bytes marks lines last
      → LossFeedings i (pick (eqb number 0) piece [] ++ bytes) (pick (eqb number 0) (marks_of piece own) [] ++ marks) (take count exit ++ lines) last

-- What bytes and their marks come to, from a fresh stream: the lines that their whole blocks decide, and what is left after them.
pub record LossesCame (bytes marks lines : List ℕ) (i : LossStream) : Type 0 where
  pub listing : Listing fresh_receiver (Unsure 0) bytes marks lines i.receiver i.certainty
  pub held_is : i.held ≡ length (rest_of 204 bytes)
  pub bytes_kept : bytes_held i ≡ rest_of 204 bytes
  pub marks_kept : held_marks i ≡ rest_of 204 marks
  pub many : length marks ≡ length bytes
  pub small : largest marks < 2
  pub few : length bytes ≤ 204 * 4294967295

-- what the blocks of a fresh receiver's calls came to: those after the eleven that fill the delays
abbrev pub blocks_of : List Call → List Outcome
blocks_of cs = outcomes fresh_sync (decodings (drop 11 cs))

-- The list of bytes and their marks: a fresh receiver is called on each whole block, and the lines are the losses of what its blocks came to.
pub record LossList (bytes marks lines : List ℕ) : Type 0 where
  pub calls : List Call
  pub on : CallsOn fresh_receiver bytes marks calls
  pub listed : lines ≡ losses (blocks_of calls)
  pub few : length bytes ≤ 204 * 4294967295
