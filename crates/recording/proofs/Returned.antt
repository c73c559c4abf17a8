-- A run over the interleaved blocks of a sender gives its packets back. The history of calls that demand 2 speaks of exists.
-- Assumes nothing.
use mathlib.Core.Path.{◌≡◌, ap, subst, ◌∙◌}
use mathlib.Core.List.{List, [], ◌++◌, flatten}
use Prim.Native.Nat.{ℕ, ◌-◌, ◌*◌, ◌/◌, ◌≤◌}
use native.Mathlib.Omega.{arith}
use borrow.Author.Tests.{le-ltb}
use lib.ListN.{length, take, drop}
use lib.Seq.{length-take-le}
use Rattle.common.specs.Lists.{All, Length}
use Rattle.common.proofs.Chunks.{chunks_joined}
use Rattle.randomizer.specs.Stream.{Packet}
use Rattle.randomizer.proofs.Whole.{packet_lengths}
use Rattle.interleaver.proofs.BlockLists.{length-flatten, All-take}
use Rattle.receiver.specs.Receive.{fresh_receiver}
use Rattle.receiver.specs.Run.{Call, DecodedCalls, lent_blocks, Plain, OutputFits}
use Rattle.receiver.specs.declared.Receiver.{Receiver}
use Rattle.receiver.proofs.Reached.{sound_range, sound_fresh}
use Rattle.receiver.proofs.Reception.{stream_received}
use Rattle.sent_blocks.specs.Blocks.{interleaved_blocks, sent_bytes}
use Rattle.sent_blocks.proofs.Lengths.{interleaved_whole, sent_count_lem}
use Rattle.recording.specs.Recording.{recording_number, ReceivesRecording, refused, taken}
use Rattle.recording.specs.Returned.{Returns}
use Rattle.recording.proofs.Decided.{recording_total}
use Rattle.recording.proofs.Recordings.{RecordedCalls, recorded_calls, none_marked}

module _ (packets : List (List ℕ)) (ws : All Packet packets) where
  recorded_blocks : {s last : Receiver} {given : List (List ℕ)} (r : RecordedCalls s (sent_bytes packets) [] given last)
      → lent_blocks r.calls ≡ interleaved_blocks packets
  recorded_blocks r = r.blocks ∙ chunks_joined 204 (omega arith) (interleaved_blocks packets) (interleaved_whole packets)

  -- ---- the run

  module _ (few : length packets ≤ 4294967295) (output : List ℕ) (fits : 188 * length packets ≤ length output) where
    none_refuses : recording_number fresh_receiver (sent_bytes packets) output ≡ 0
    unfolding fresh_receiver
    none_refuses =
        let n : length (sent_bytes packets) / 204 ≡ length packets = omega (arith, sent_count_lem packets) in
        let p : 188 * (length (sent_bytes packets) / 204) ≤ length output = omega arith in
        let q : length (sent_bytes packets) / 204 ≤ 4294967295 - 0 = omega arith in
        simp (sound_range fresh_receiver sound_fresh, le-ltb _ _ p, le-ltb _ _ q)

    arrived_length : length (flatten (take (length packets - 11) packets)) ≡ 188 * (length packets - 11)
    arrived_length =
        length-flatten 188 (take (length packets - 11) packets) (All-take (Length 188) (length packets - 11) packets (packet_lengths packets ws))
        ∙ ap (λ (n : ℕ). 188 * n) (length-take-le (length packets - 11) packets (omega arith))

    given_back : {number count : ℕ} {last : Receiver} {exit : List ℕ} → ReceivesRecording fresh_receiver (sent_bytes packets) output number count last exit
        → (number ≡ 0) × (count ≡ 188 * (length packets - 11)) × (exit ≡ flatten (take (length packets - 11) packets) ++ drop count output)
    given_back (refused e h c l x) = absurd (omega (arith, e, none_refuses))
    given_back {count = count} (taken h e t) =
        let r = recorded_calls t.recording in
        let g = r.given ∙ (stream_received packets ws few r.calls (recorded_blocks r) (none_marked r.calls r.marked) r.output_fits r.decodes).1 in (
          e,
          t.counted ∙ ap (λ (l : List (List ℕ)). length (flatten l)) g ∙ arrived_length,
          t.written ∙ ap (λ (l : List (List ℕ)). flatten l ++ drop count output) g,
        )

pub returned : (bytes output : List ℕ) (number count : ℕ) (last : Receiver) (exit : List ℕ) → ReceivesRecording fresh_receiver bytes output number count last exit
    → Returns bytes output number count exit
returned bytes output number count last exit p = record {
  back = λ packets ws few e fits.
      given_back packets ws few output fits (subst (λ (b : List ℕ). ReceivesRecording fresh_receiver b output number count last exit) e p);
}

-- ---- the history exists

-- calls of a fresh receiver on the blocks of a sender, as `stream-received` asks for them
pub record History (packets : List (List ℕ)) : Type 0 where
  pub calls : List Call
  pub lent : lent_blocks calls ≡ interleaved_blocks packets
  pub plain : All Plain calls
  pub output_fits : All OutputFits calls
  pub decodes : DecodedCalls fresh_receiver calls

pub history_exists : (packets : List (List ℕ)) → All Packet packets → History packets
history_exists packets ws =
    let r = recorded_calls (recording_total fresh_receiver (sent_bytes packets) []).recording in
    record { calls = r.calls; lent = recorded_blocks packets ws r; plain = none_marked r.calls r.marked; output_fits = r.output_fits; decodes = r.decodes }
