-- Idle programs do not fit the promises of `receive` and `receive_run`: each is a contradiction from the promise itself.
-- Runs are refuted on the blocks of more than k packets, whatever k is.
-- Assumes nothing.
use mathlib.Core.Path.{◌≡◌, refl, sym, ap, ap₂, ◌∙◌}
use mathlib.Core.List.{List, [], ◌∷◌, ◌++◌, append_assoc, flatten}
use Prim.Native.Nat.{ℕ, zero, suc, ◌+◌, ◌-◌, ◌*◌, ◌≤◌, ◌<◌}
use Prim.{tt}
use native.Mathlib.Omega.{arith}
use Rattle.std.proofs.Common.{Ok}
use borrow.Author.Tests.{le-ltb}
use lib.ListN.{length, get_or, take, drop, replicate, length-append, length-replicate, get_or-replicate, get_or-append}
use lib.Seq.{take_at, length-take-le, get_or-append-add}
use Rattle.common.specs.Lists.{All}
use Rattle.common.proofs.Lists.{All-append}
use Rattle.reed_solomon.specs.Code.{Codeword, differ, differ_bits, changes, no_change}
use Rattle.reed_solomon.specs.Decode.{Decoded, changed_by}
use Rattle.reed_solomon.specs.declared.Changed.{Changed}
use Rattle.reed_solomon.specs.Marks.{no_marks, cost, DecodesMarked}
use Rattle.reed_solomon.proofs.Laws.{Same, decodes_near_marked}
use Rattle.reed_solomon.proofs.Marks.{are_marks_none, marks_of_lem}
use Rattle.randomizer.specs.Stream.{Packet}
use Rattle.randomizer.proofs.Whole.{packet_lengths}
use Rattle.interleaver.proofs.BlockLists.{length-flatten, flatten_join}
use Rattle.interleaver.specs.declared.branches.Side.TheVariants.{Receiving}
use Rattle.interleaver.proofs.Blocks.{length_out}
use Rattle.receiver.specs.Receive.{fresh_receiver, marks_in, delayed_block, delayed_marks, of_accepted, step_of, state_after, Ready, ReceivesMarked, Receives}
use Rattle.receiver.specs.Kept.{Kept}
use Rattle.receiver.specs.declared.Receiver.{Receiver}
use Rattle.receiver.proofs.Calls.{state_range, ready_number, ready_state, ready_refusal, changed_is}
use Rattle.receiver.proofs.MarkDelays.{leave_marks}
use Rattle.receiver.proofs.Reached.{sound_range, sound_fresh}
use Rattle.receiver.proofs.Promised.{promised_received}
use Rattle.recording.specs.Returned.{Returns}
use Rattle.sent_blocks.specs.Blocks.{interleaved_blocks, sent_bytes}
use Rattle.evidence.proofs.Samples.{sample, sample_packet, samples, samples_packets, samples_length}
use Rattle.evidence.proofs.Sending.{Left}

-- one that refuses everything: a fresh receiver, a block of zeros and room for a packet is no refusal
pub refusing : (number : ℕ) (next : Receiver) (exit : List ℕ) → Receives fresh_receiver (replicate 204 0) (replicate 188 0) number next exit
    → 0 < number → number < 8 → ⊥
unfolding fresh_receiver
refusing number next exit p h l =
    let y : Ready fresh_receiver (replicate 204 0) no_marks (replicate 188 0) = record {
      range = sound_range fresh_receiver sound_fresh;
      size = refl;
      marked = are_marks_none;
      enough = omega arith;
      more = omega arith;
    } in
    let e : number ≡ 9 = p.number ∙ ready_number fresh_receiver (replicate 204 0) no_marks (replicate 188 0) y p.left p.decoded in
    omega arith

-- Invented counts of changed bytes and bits: where 2 e + f is at most 16 for some codeword and the block and marks that the branches give,
-- the counts grow by the bytes and bits in which they differ, and by nothing else.
pub invented_changes : (s : Receiver) (block marks output : List ℕ) (number : ℕ) (next : Receiver) (exit : List ℕ) → ReceivesMarked s block marks output number next exit → Ready s block marks output
    → 11 ≤ s.counts.taken → (c : List ℕ) → Codeword c → cost (delayed_marks s marks) (delayed_block s block) c ≤ 16
    → ((next.counts.changed ≡ s.counts.changed + differ (delayed_block s block) c)
    × (next.counts.bits ≡ s.counts.bits + differ_bits (delayed_block s block) c) → ⊥) → ⊥
unfolding state_after
invented_changes s block marks output number next exit p y h c w l n =
    n (
      ap (λ (x : Receiver). x.counts.changed) state ∙ ap (λ (k : ℕ). s.counts.changed + k) (added (λ x. x.bytes) refl),
      ap (λ (x : Receiver). x.counts.bits) state ∙ ap (λ (k : ℕ). s.counts.bits + k) (added (λ x. x.bits) refl),
    )
  where
    state : next ≡ state_after s block marks p.left p.decoded
    state = p.state ∙ ready_state s block marks output y p.left p.decoded

    decodes : DecodesMarked (delayed_marks s marks) (delayed_block s block) p.left p.decoded
    decodes = p.decodes (ready_refusal s block marks output y) h

    same : Same p.left c p.decoded (Ok (changes (delayed_block s block) c))
    same =
        decodes_near_marked (delayed_marks s marks) (delayed_block s block) c p.left p.decoded (length_out Receiving s.deinterleaver.branches block)
        (leave_marks (marks_in s) marks (state_range s y.range).marks (marks_of_lem marks y.marked)) w l decodes

    added : (f : Changed → ℕ) → f no_change ≡ 0
        → of_accepted (step_of s p.left p.decoded).outcome (f (changes (delayed_block s block) p.left)) ≡ f (changes (delayed_block s block) c)
    added f z =
        simp (le-ltb _ _ h) (sym (changed_is s block marks output y f z p.left p.decoded decodes) ∙ ap (λ (x : Decoded). f (changed_by x)) same.answer)

-- A receiver that never gives a packet, whatever its answers are (8, 9 or 10 for all, say): of twelve packets that were sent the first is given.
pub giving_none : (packets : List (List ℕ)) → All Packet packets → 11 < length packets → length packets ≤ 4294967295 → (numbers : List ℕ) (last : Receiver)
    → Kept fresh_receiver (interleaved_blocks packets) numbers [] last → ⊥
giving_none packets ws h l numbers last k =
    omega (arith, ap length (promised_received packets ws l numbers [] last k).1, length-take-le (length packets - 11) packets (omega arith))

-- ---- programs for a run

-- a program: what it leaves for the bytes of a recording and an output
abbrev pub Program : Type 0
Program = List ℕ → List ℕ → Left

-- it gives packets back as `receive_run` promises
abbrev pub Keeps : Program → Type 0
Keeps f = (bytes output : List ℕ) → Returns bytes output (f bytes output).number (f bytes output).count (f bytes output).output

-- k + 12 packets, of which k + 1 are given back
sent : ℕ → ℕ → List (List ℕ)
sent k v = samples k v ++ replicate 11 (sample 0)

sent_packets : (k v : ℕ) → v < 256 → All Packet (sent k v)
unfolding sent
sent_packets k v h =
    let z = sample_packet 0 (omega arith) in
    All-append Packet (samples k v) (replicate 11 (sample 0)) (samples_packets k v h) (z, (z, (z, (z, (z, (z, (z, (z, (z, (z, (z, tt)))))))))))

sent_length : (k v : ℕ) → length (sent k v) ≡ k + 12
unfolding sent
sent_length k v = length-append (samples k v) (replicate 11 (sample 0)) ∙ ap (λ (n : ℕ). n + 11) (samples_length k v) ∙ sums k
  where
    sums : (k : ℕ) → k + 1 + 11 ≡ k + 12
    sums k = omega arith

sent_given : (k v : ℕ) → take (length (sent k v) - 11) (sent k v) ≡ samples k v
unfolding sent
sent_given k v = take_at (samples k v) (replicate 11 (sample 0)) (length (sent k v) - 11) (omega (arith, samples_length k v, sent_length k v))

output_of_lem : ℕ → ℕ → List ℕ
output_of_lem k w = replicate (188 * (k + 12)) w

module _ (f : Program) (keeps : Keeps f) (k : ℕ) (few : k + 12 ≤ 4294967294) where
  given : (n v w : ℕ) → n ≤ k + 1 → v < 256
      → ((f (sent_bytes (sent n v)) (output_of_lem n w)).count ≡ 188 * (n + 1))
      × ((f (sent_bytes (sent n v)) (output_of_lem n w)).output ≡ flatten (samples n v) ++ drop (188 * (n + 1)) (output_of_lem n w))
  unfolding output_of_lem
  given n v w h l =
      let e = sent_length n v in
      let r = (keeps (sent_bytes (sent n v)) (output_of_lem n w)).back (sent n v) (sent_packets n v l) (omega arith) refl (omega (arith, length-replicate {A = ℕ} (188 * (n + 12)) w)) in
      let c : (f (sent_bytes (sent n v)) (output_of_lem n w)).count ≡ 188 * (n + 1) = omega (arith, r.1) in
      (c, r.2 ∙ ap₂ (λ (a : List (List ℕ)) (m : ℕ). flatten a ++ drop m (output_of_lem n w)) (sent_given n v) c)

  -- one answer for all recordings of more than k packets
  pub one_answer : (left : Left) → ((ps : List (List ℕ)) → All Packet ps → k < length ps → (output : List ℕ) → f (sent_bytes ps) output ≡ left) → ⊥
  one_answer left same = omega (arith, count k (omega arith) (omega arith), count (k + 1) (omega arith) (omega arith))
    where
      count : (n : ℕ) → k ≤ n → n ≤ k + 1 → left.count ≡ 188 * (n + 1)
      count n h m =
          sym (ap (λ (x : Left). x.count) (same (sent n 0) (sent_packets n 0 (omega arith)) (omega (arith, sent_length n 0)) (output_of_lem n 0)))
          ∙ (given n 0 0 m (omega arith)).0

  first_byte : (w : ℕ) → get_or (f (sent_bytes (sent k 0)) (output_of_lem k w)).output 0 0 ≡ get_or (flatten (samples k 0)) 0 0
  first_byte w =
      ap (λ (l : List ℕ). get_or l 0 0) (given k 0 w (omega arith) (omega arith)).1
      ∙ get_or-append (flatten (samples k 0)) (drop (188 * (k + 1)) (output_of_lem k w)) 0 0
      (omega (arith, length-flatten 188 (samples k 0) (packet_lengths (samples k 0) (samples_packets k 0 (omega arith))), samples_length k 0))

  -- nothing is written for recordings of more than k packets
  pub writes_nothing : ((ps : List (List ℕ)) → All Packet ps → k < length ps → (output : List ℕ) → (f (sent_bytes ps) output).output ≡ output) → ⊥
  unfolding output_of_lem
  writes_nothing same = let z : ◌≡◌ {A = ℕ} 0 1 = sym (first 0) ∙ first 1 in omega arith
    where
      first : (w : ℕ) → get_or (flatten (samples k 0)) 0 0 ≡ w
      first w =
          sym (first_byte w)
          ∙ ap (λ (l : List ℕ). get_or l 0 0) (same (sent k 0) (sent_packets k 0 (omega arith)) (omega (arith, sent_length k 0)) (output_of_lem k w))
          ∙ get_or-replicate (188 * (k + 12)) 0 w 0 (omega arith)

  -- The first k packets, and how many there are, decide what is written: a program that gives the first ones and pretends after.
  pub pretends_after : ((ps qs : List (List ℕ)) → All Packet ps → All Packet qs → take k ps ≡ take k qs → length ps ≡ length qs → (output : List ℕ)
      → (f (sent_bytes ps) output).output ≡ (f (sent_bytes qs) output).output) → ⊥
  unfolding sent samples sample flatten
  pretends_after same =
      let e =
      same (sent k 0) (sent k 1) (sent_packets k 0 (omega arith)) (sent_packets k 1 (omega arith)) (front 0 ∙ sym (front 1)) (sent_length k 0 ∙ sym (sent_length k 1)) (output_of_lem k 0) in
      let d = sym (given k 0 0 (omega arith) (omega arith)).1 ∙ e ∙ (given k 1 0 (omega arith) (omega arith)).1 in
      let z : ◌≡◌ {A = ℕ} 0 1 = sym (last 0 (omega arith)) ∙ ap (λ (l : List ℕ). get_or l (188 * k + 12) 0) d ∙ last 1 (omega arith) in
      omega arith
    where
      front : (v : ℕ) → take k (sent k v) ≡ replicate k (sample 0)
      front v =
          ap (take k) (append_assoc (replicate k (sample 0)) (sample v ∷ []) (replicate 11 (sample 0)))
          ∙ take_at (replicate k (sample 0)) ((sample v ∷ []) ++ replicate 11 (sample 0)) k (length-replicate {A = List ℕ} k (sample 0))

      -- byte 12 of the last packet given
      last : (v : ℕ) → v < 256 → get_or (flatten (samples k v) ++ drop (188 * (k + 1)) (output_of_lem k 0)) (188 * k + 12) 0 ≡ v
      last v h =
          let a = flatten (replicate k (sample 0)) in
          let rest = drop (188 * (k + 1)) (output_of_lem k 0) in
          let n : length a ≡ 188 * k =
          length-flatten 188 (replicate k (sample 0)) (packet_lengths (replicate k (sample 0)) (zeros k))
          ∙ ap (λ (m : ℕ). 188 * m) (length-replicate {A = List ℕ} k (sample 0)) in
          ap (λ (l : List ℕ). get_or (l ++ rest) (188 * k + 12) 0) (flatten_join (replicate k (sample 0)) (sample v ∷ []))
          ∙ ap (λ (l : List ℕ). get_or l (188 * k + 12) 0) (append_assoc a (sample v ++ []) rest)
          ∙ ap (λ (i : ℕ). get_or (a ++ ((sample v ++ []) ++ rest)) (i + 12) 0) (sym n)
          ∙ get_or-append-add a ((sample v ++ []) ++ rest) 12 0
        where
          zeros : (k : ℕ) → All Packet (replicate k (sample 0))
          zeros zero = tt
          zeros (suc k) = (sample_packet 0 (omega arith), zeros k)
