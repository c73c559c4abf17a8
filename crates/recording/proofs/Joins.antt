-- A recording after another, with a mark for each byte of the first: what both come to together.
-- Assumes nothing.
use mathlib.Core.Path.{◌≡◌, refl, sym, ap, ap₂, subst, subst₂, ◌∙◌}
use mathlib.Core.Bool.{Bool, true, false}
use mathlib.Core.List.{List, [], ◌∷◌, ◌++◌, append_assoc, flatten}
use Prim.Native.Nat.{ℕ, ◌+◌, ◌*◌, ◌/◌, ◌≤◌, ◌<◌}
use native.Mathlib.Nat.{min-le_left}
use native.Mathlib.Omega.{arith}
use lib.Dec.{eqb}
use lib.ListN.{length, take, drop, length-append, length-drop, length-take}
use lib.Seq.{take_at, drop_at, drop-drop, take-append-le, drop-append-le}
use Rattle.common.specs.Choice.{pick}
use Rattle.common.specs.Lists.{rest_of}
use Rattle.common.proofs.Chunks.{length-chunks, rest_few, rest_more}
use Rattle.interleaver.proofs.BlockLists.{flatten_join}
use Rattle.receiver.specs.Run.{Call, answer_of, output_of, after_call, packets_given}
use Rattle.receiver.specs.declared.Receiver.{Receiver}
use Rattle.receiver.proofs.Reception.{blocks_count}
use Rattle.receiver.specs.Receive.{ReceivesMarked}
use Rattle.recording.specs.Recording.{block_marks, Recording, over, call, TakesRecording}
use Rattle.recording.proofs.Recordings.{RecordedCalls, recorded_calls, marks_front_lem}

-- ---- the join

-- a call for each whole block
pub calls_count : {s last : Receiver} {bytes marks : List ℕ} {packets : List (List ℕ)} (r : RecordedCalls s bytes marks packets last) → length r.calls ≡ length bytes / 204
calls_count {bytes = bytes} r = sym (blocks_count r.calls) ∙ ap length r.blocks ∙ length-chunks 204 bytes

pub recording_join : {s middle last : Receiver} {a m : List ℕ} (b k : List ℕ) {p q : List (List ℕ)} → length m ≡ length a → Recording s a m p middle
    → Recording middle (rest_of 204 a ++ b) (rest_of 204 m ++ k) q last → Recording s (a ++ b) (m ++ k) (p ++ q) last
recording_join {s} {last = last} {a} {m} b k {q = q} each (over h) g =
    subst₂ (λ (x y : List ℕ). Recording s (x ++ b) (y ++ k) q last) (rest_few 204 (omega arith) a h) (rest_few 204 (omega arith) m (omega (arith, each))) g
recording_join {s} {middle} {last} {a} {m} b k {q = q} each (call {packets = packets} output exit number next h o v t) g =
    let l : 204 ≤ length m = omega (arith, each) in
    let given = pick (eqb number 0) (take 188 exit ∷ []) [] in
    let own : block_marks m ≡ block_marks (m ++ k) = marks_front_lem m l ∙ sym (marks_front_lem (m ++ k) (omega (arith, length-append m k)) ∙ take-append-le 204 m k l) in
    let w : ReceivesMarked s (take 204 (a ++ b)) (block_marks (m ++ k)) output number next exit
    = subst₂ (λ (x y : List ℕ). ReceivesMarked s x y output number next exit) (sym (take-append-le 204 a b h)) own v in
    let f : Recording middle (rest_of 204 (drop 204 a) ++ b) (rest_of 204 (drop 204 m) ++ k) q last
    = subst₂ (λ (x y : List ℕ). Recording middle (x ++ b) (y ++ k) q last) (rest_more 204 (omega arith) a h) (rest_more 204 (omega arith) m l) g in
    let u = recording_join b k (omega (arith, length-drop 204 a, length-drop 204 m, each)) t f in
    let n : Recording next (drop 204 (a ++ b)) (drop 204 (m ++ k)) (packets ++ q) last
    = subst₂ (λ (x y : List ℕ). Recording next x y (packets ++ q) last) (sym (drop-append-le 204 a b h)) (sym (drop-append-le 204 m k l)) u in
    subst (λ (x : List (List ℕ)). Recording s (a ++ b) (m ++ k) x last) (sym (append_assoc given packets q))
    (call output exit number next (omega (arith, length-append a b)) o w n)

-- fewer bytes than a block
pub takes_few : (s : Receiver) (bytes marks output : List ℕ) → length bytes < 204 → TakesRecording s bytes marks output 0 s output
unfolding flatten
takes_few s bytes marks output h = record { packets = []; recording = over h; counted = refl; written = refl }

-- the output after two: the second is lent what the packets of the first leave of it
module _ {s middle last : Receiver} {a u : List ℕ} (b v : List ℕ) {output exit exit' : List ℕ} {m n : ℕ} where
  pub takes_join : length u ≡ length a → TakesRecording s a u output m middle exit → TakesRecording middle (rest_of 204 a ++ b) (rest_of 204 u ++ v) (drop m exit) n last exit'
      → TakesRecording s (a ++ b) (u ++ v) output (m + n) last (take m exit ++ exit')
  takes_join each f g =
      let x = flatten f.packets in
      let y = flatten g.packets in
      let front : take m exit ≡ x = ap (take m) f.written ∙ take_at x (drop m output) m (sym f.counted) in
      let back : drop m exit ≡ drop m output = ap (drop m) f.written ∙ drop_at x (drop m output) m (sym f.counted) in
      record {
        packets = f.packets ++ g.packets;
        recording = recording_join b v each f.recording g.recording;
        counted =
            ap₂ (λ (i j : ℕ). i + j) f.counted g.counted ∙ sym (length-append x y) ∙ ap length (sym (flatten_join f.packets g.packets));
        written =
            ap₂ (λ (u v : List ℕ). u ++ v) front
            (g.written ∙ ap (λ (l : List ℕ). y ++ drop n l) back ∙ ap (λ (l : List ℕ). y ++ l) (drop-drop n m output))
            ∙ sym (append_assoc x y (drop (m + n) output))
            ∙ ap (λ (l : List ℕ). l ++ drop (m + n) output) (sym (flatten_join f.packets g.packets));
      }

-- ---- how many bytes of packets

length_take_most : (n : ℕ) (l : List ℕ) → length (take n l) ≤ n
length_take_most n l = subst (λ (k : ℕ). k ≤ n) (sym (length-take n l)) (min-le_left n (length l))

given_few : (s : Receiver) (cs : List Call) → length (flatten (packets_given s cs)) ≤ 188 * length cs
unfolding flatten
given_few s [] = omega arith
given_few s (c ∷ cs) =
    let g = pick (eqb (answer_of s c) 0) (take 188 (output_of s c) ∷ []) [] in
    let j = ap length (flatten_join g (packets_given (after_call s c) cs)) ∙ length-append (flatten g) (flatten (packets_given (after_call s c) cs)) in
    omega (arith, j, one (eqb (answer_of s c) 0), given_few (after_call s c) cs)
  where
    one : (t : Bool) → length (flatten (pick t (take 188 (output_of s c) ∷ []) [])) ≤ 188
    one true = let l = length-append (take 188 (output_of s c)) [] in omega (arith, l, length_take_most 188 (output_of s c))
    one false = omega arith

-- at most a packet for each of them
pub takes_count : {s last : Receiver} {bytes marks output exit : List ℕ} {count : ℕ} → TakesRecording s bytes marks output count last exit → count ≤ 188 * (length bytes / 204)
takes_count {s} t =
    let r = recorded_calls t.recording in
    let g : length (flatten t.packets) ≤ 188 * length r.calls = subst (λ (p : List (List ℕ)). length (flatten p) ≤ 188 * length r.calls) (sym r.given) (given_few s r.calls) in
    omega (arith, t.counted, calls_count r, g)

pub takes_length : {s last : Receiver} {bytes marks output exit : List ℕ} {count : ℕ} → TakesRecording s bytes marks output count last exit → 188 * (length bytes / 204) ≤ length output
    → length exit ≡ length output
takes_length {s} {last} {bytes} {marks} {output} {exit} {count} t h =
    omega (arith, takes_count t, ap length t.written, length-append (flatten t.packets) (drop count output), length-drop count output, t.counted)
