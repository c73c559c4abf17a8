-- Laws of what bytes come to: none, one piece after another, and that it is decided.
-- Assumes nothing.
use mathlib.Core.Path.{◌≡◌, refl, sym, ap, ap₂, subst₂, ◌∙◌}
use mathlib.Core.Bool.{true}
use mathlib.Core.List.{List, [], ◌++◌, flatten}
use Prim.Native.Nat.{ℕ, zero, ◌+◌, ◌-◌, ◌*◌, ◌/◌, ◌%◌, ◌≤◌, ◌<◌}
use native.Mathlib.Omega.{arith}
use borrow.Author.Tests.{lt-ltb}
use lib.ListN.{length, take, drop, replicate, length-append}
use lib.Seq.{take_at}
use Rattle.common.specs.Lists.{Entries, padded, rest_of}
use Rattle.common.proofs.Entries.{entries_append}
use Rattle.common.proofs.Chunks.{length_rest, cut}
use Rattle.interleaver.proofs.BlockLists.{flatten_join}
use Rattle.receiver.specs.Receive.{fresh_receiver}
use Rattle.receiver.specs.declared.Receiver.{Receiver}
use Rattle.receiver.proofs.Reached.{Sound, sound_range, sound_fresh}
use Rattle.recording.specs.Recording.{Recording, TakesRecording, over}
use Rattle.recording.proofs.Joins.{recording_join}
use Rattle.recording.proofs.Decided.{recording_taken}
use Rattle.receiver_stream.specs.Feed.{holding, bytes_held, held_marks, fresh_receiver_stream, receiver_stream_in_range, capacity_of, ReceivesPiece}
use Rattle.receiver_stream.specs.History.{Reception}
use Rattle.receiver_stream.specs.declared.ReceiverStream.{ReceiverStream}

-- ---- the bytes held

held_padded : (rest : List ℕ) (n : ℕ) → length rest ≡ n → take n (padded 204 rest) ≡ rest
held_padded rest n e = take_at rest (replicate (204 - length rest) zero) n e

rest_each : (bytes marks : List ℕ) → length marks ≡ length bytes → length (rest_of 204 marks) ≡ length (rest_of 204 bytes)
rest_each bytes marks e = length_rest 204 marks ∙ ap (λ (n : ℕ). n % 204) e ∙ sym (length_rest 204 bytes)

module _ {bytes marks written : List ℕ} {i : ReceiverStream} (r : Reception bytes marks written i) where
  pub reception_held : i.held ≡ length bytes % 204
  reception_held = ap (λ (j : ReceiverStream). j.held) r.kept ∙ length_rest 204 bytes

  reception_bytes : bytes_held i ≡ rest_of 204 bytes
  reception_bytes = ap bytes_held r.kept ∙ held_padded (rest_of 204 bytes) (length (rest_of 204 bytes)) refl

  reception_marks : held_marks i ≡ rest_of 204 marks
  reception_marks = ap held_marks r.kept ∙ held_padded (rest_of 204 marks) (length (rest_of 204 bytes)) (rest_each bytes marks r.each)

  sound_taken : Sound i.receiver × (i.receiver.counts.taken ≡ length bytes / 204)
  unfolding fresh_receiver
  sound_taken =
      let t = recording_taken sound_fresh r.marked r.recording (omega (arith, r.few)) in
      (t.0, omega (arith, t.1))

  -- the count of document 01: the whole blocks
  pub reception_taken : i.receiver.counts.taken ≡ length bytes / 204
  reception_taken = sound_taken.1

  pub reception_range : receiver_stream_in_range i ≡ true
  reception_range =
      let h : i.held < 204 = omega (arith, reception_held) in
      simp (sound_range i.receiver sound_taken.0, lt-ltb _ _ h)

  -- how many bytes more can come
  pub reception_capacity : capacity_of i ≡ 204 * 4294967295 - length bytes
  reception_capacity = omega (arith, reception_taken, reception_held, r.few)

-- At the last block that can be counted there is no rest, and no byte more can come.
pub reception_full : {bytes marks written : List ℕ} {i : ReceiverStream} → Reception bytes marks written i → i.receiver.counts.taken ≡ 4294967295
    → (i.held ≡ 0) × (capacity_of i ≡ 0)
reception_full r e = (omega (arith, reception_held r, reception_taken r, r.few, e), omega (arith, reception_capacity r, reception_taken r, r.few, e))

-- ---- none

pub reception_none : Reception [] [] [] fresh_receiver_stream
unfolding fresh_receiver_stream flatten rest_of
reception_none = record {
  packets = [];
  recording = over {bytes = []} (omega arith);
  given = refl;
  kept = refl;
  each = refl;
  marked = λ i. omega arith;
  few = omega arith;
}

-- ---- one piece more

takes_out : {s last : Receiver} {bytes marks output exit : List ℕ} {count : ℕ} (t : TakesRecording s bytes marks output count last exit) → take count exit ≡ flatten t.packets
takes_out {s} {last} {bytes} {marks} {output} {exit} {count} t = ap (take count) t.written ∙ take_at (flatten t.packets) (drop count output) count (sym t.counted)

module _ {bytes marks written : List ℕ} {i : ReceiverStream} (r : Reception bytes marks written i) {piece own output exit : List ℕ} {count : ℕ} {next : ReceiverStream} where
  pub reception_taken_piece : ReceivesPiece i piece own output count next exit → length own ≡ length piece → Entries (λ m. m < 2) own
      → length bytes + length piece ≤ 204 * 4294967295 → Reception (bytes ++ piece) (marks ++ own) (written ++ take count exit) next
  reception_taken_piece t e m h =
      let k = t.takes in
      let g : Recording i.receiver (rest_of 204 bytes ++ piece) (rest_of 204 marks ++ own) k.packets next.receiver
      = subst₂ (λ (x y : List ℕ). Recording i.receiver (x ++ piece) (y ++ own) k.packets next.receiver) (reception_bytes r) (reception_marks r) k.recording in
      record {
        packets = r.packets ++ k.packets;
        recording = recording_join piece own r.each r.recording g;
        given = ap₂ (λ (x y : List ℕ). x ++ y) r.given (takes_out k) ∙ sym (flatten_join r.packets k.packets);
        kept =
            t.kept
            ∙ ap₂ (holding next.receiver) (ap (λ (x : List ℕ). rest_of 204 (x ++ piece)) (reception_bytes r) ∙ sym (cut 204 (omega arith) bytes piece).rest_is)
            (ap (λ (x : List ℕ). rest_of 204 (x ++ own)) (reception_marks r) ∙ sym (cut 204 (omega arith) marks own).rest_is);
        each = omega (arith, length-append bytes piece, length-append marks own, r.each, e);
        marked = entries_append (λ m. m < 2) (omega arith) marks own r.marked m;
        few = omega (arith, length-append bytes piece);
      }
