-- Feeding after feeding, and what all the bytes come to, whatever pieces they came in.
-- Clause: document 01, "Receiver".
-- Assumes nothing.
use Rattle.std.specs.Prelude.{◌≡◌, ℕ, ◌*◌, ◌≤◌, ◌<◌, eqb, length, take}
use mathlib.Core.List.{List, [], ◌++◌, flatten}
use Rattle.common.specs.Choice.{pick}
use Rattle.common.specs.Lists.{Entries, rest_of}
use Rattle.receiver.specs.Receive.{fresh_receiver}
use Rattle.recording.specs.Recording.{Recording}
use Rattle.receiver_stream.specs.Feed.{holding, FeedsReceiver}
use Rattle.receiver_stream.specs.declared.ReceiverStream.{ReceiverStream}

-- A history of calls, each with the stream receiver that the one before it left: the bytes that came and their marks, those of pieces that were not
-- refused, and what the calls wrote, one after the other.
pub data ReceiverFeedings : ReceiverStream → List ℕ → List ℕ → List ℕ → ReceiverStream → Type 0 where
  none : {i : ReceiverStream} → ReceiverFeedings i [] [] [] i
  feeding : {i next last : ReceiverStream} {bytes marks written : List ℕ} (piece own output exit : List ℕ) (number count : ℕ)
      → FeedsReceiver i piece own output number count next exit → ReceiverFeedings next bytes marks written last
      → ReceiverFeedings i (pick (eqb number 0) piece [] ++ bytes) (pick (eqb number 0) own [] ++ marks) (take count exit ++ written) last

-- What bytes with their marks come to, from a fresh stream receiver: what a fresh receiver makes of them as one recording. The packets one after the
-- other were written, and the bytes after the last whole block are held, with their marks. There are no more bytes than those of the blocks that can
-- be counted, and a mark for each, 0 or 1.
pub record Reception (bytes marks written : List ℕ) (i : ReceiverStream) : Type 0 where
  pub packets : List (List ℕ)
  pub recording : Recording fresh_receiver bytes marks packets i.receiver
  pub given : written ≡ flatten packets
  pub kept : i ≡ holding i.receiver (rest_of 204 bytes) (rest_of 204 marks)
  pub each : length marks ≡ length bytes
  pub marked : Entries (λ m. m < 2) marks
  pub few : length bytes ≤ 204 * 4294967295

-- some bytes came to it
pub record ReceiverCame (i : ReceiverStream) : Type 0 where
  pub bytes : List ℕ
  pub marks : List ℕ
  pub written : List ℕ
  pub reception : Reception bytes marks written i
