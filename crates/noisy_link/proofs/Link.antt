-- Packets over a noisy channel come back: sent, harmed sparsely, read as a stream in any pieces, packed, received.
-- Assumes nothing.
use mathlib.Core.Path.{◌≡◌, refl, sym, ap, ◌∙◌, subst}
use mathlib.Core.Bool.{true}
use mathlib.Core.List.{List, [], ◌∷◌, ◌++◌, map, append_assoc}
use Prim.Native.Nat.{ℕ, zero, suc, ◌-◌, ◌≤◌, ◌<◌}
use native.Mathlib.Omega.{arith}
use lib.Dec.{eqb, leb, leb→le}
use lib.ListN.{length, take, drop, replicate, length-map, take-append-drop}
use lib.Seq.{length-take-le, take_at}
use Rattle.common.specs.Choice.{pick}
use Rattle.common.specs.Lists.{All, Bytes, chunks_of, rest_of}
use Rattle.common.proofs.Chunks.{cut, length-chunks}
use Rattle.common.proofs.Computed.{below_at}
use Rattle.convolutional_code.specs.Bits.{bits_of}
use Rattle.convolutional_code.proofs.Bits.{bits_bits}
use Rattle.puncturing.specs.Mode.{mode_of, qpsk_count}
use Rattle.branch_metrics.specs.Cost.{softly}
use Rattle.reader.specs.Cost.{differing}
use Rattle.reader.specs.Read.{run_bits}
use Rattle.bit_packing.specs.Packing.{packed_bytes}
use Rattle.bit_packing.proofs.Bytes.{packed_pieces, length_bytes}
use Rattle.sender.specs.Input.{Input, packet_for, packets_for}
use Rattle.receiver.specs.Receive.{fresh_receiver}
use Rattle.receiver.specs.Kept.{Kept, none, call}
use Rattle.receiver.specs.declared.Receiver.{Receiver}
use Rattle.sent_blocks.specs.Blocks.{interleaved_blocks, sent_bytes}
use Rattle.link.specs.Link.{StreamLink, StreamArrived, read_bytes, bit_count, blocks_in_bits}
use Rattle.reader_stream.specs.History.{SymbolsEnded}
use Rattle.link.proofs.Link.{brought_back, coded, read_ended, bit_count_lem, all_arrived}
use Rattle.noise_tolerance.specs.Noise.{QuietEnd, soft_doubt, NoisyStream, StreamBack}
use Rattle.noise_tolerance.specs.Table.{Limits, table, at_rate, hard_limits, soft_limits}
use Rattle.noise_tolerance.proofs.Noise.{noisy_stream, noisy_stream_whole, noisy_soft_stream, noisy_soft_stream_whole}
use Rattle.noisy_link.specs.Link.{Sparsely, FrontArrived}

-- ---- the first calls of a receiver

-- the first n calls, and their packets
pub record KeptFront (n : ℕ) (s : Receiver) (blocks : List (List ℕ)) (numbers : List ℕ) (given : List (List ℕ)) : Type 0 where
  pub middle : Receiver
  pub front : List (List ℕ)
  pub later : List (List ℕ)
  pub kept : Kept s (take n blocks) (take n numbers) front middle
  pub packets_are : given ≡ front ++ later

pub kept_front : (n : ℕ) {s last : Receiver} {blocks : List (List ℕ)} {numbers : List ℕ} {given : List (List ℕ)} → Kept s blocks numbers given last
    → KeptFront n s blocks numbers given
kept_front zero {s} {given = given} k = record { middle = s; front = []; later = given; kept = none; packets_are = refl }
kept_front (suc n) {s} none = record { middle = s; front = []; later = []; kept = none; packets_are = refl }
kept_front (suc n) (call block output exit number next h p k) =
    let f = kept_front n k in
    let one : List (List ℕ) = pick (eqb number 0) (take 188 exit ∷ []) [] in
    record {
      middle = f.middle;
      front = one ++ f.front;
      later = f.later;
      kept = call block output exit number next h p f.kept;
      packets_are = ap (λ (x : List (List ℕ)). one ++ x) f.packets_are ∙ sym (append_assoc one f.front f.later);
    }

-- ---- the first bits

-- the blocks that are whole in the first n bits are the first ones of all
front_blocks : (n : ℕ) (bits : List ℕ) → n ≤ length bits → chunks_of 204 (packed_bytes (take n bits)) ≡ take (blocks_in_bits n) (chunks_of 204 (packed_bytes bits))
front_blocks n bits h =
    let a : List ℕ = packed_bytes (take n bits) in
    let b : List ℕ = packed_bytes (rest_of 8 (take n bits) ++ drop n bits) in
    let e : packed_bytes bits ≡ a ++ b = ap packed_bytes (sym (take-append-drop n bits)) ∙ packed_pieces (take n bits) (drop n bits) in
    let l : length (chunks_of 204 a) ≡ blocks_in_bits n = omega (arith, length-chunks 204 a, length_bytes (take n bits), length-take-le n bits h) in
    sym (ap (λ (x : List ℕ). take (blocks_in_bits n) (chunks_of 204 x)) e
    ∙ (ap (take (blocks_in_bits n)) (cut 204 (omega arith) a b).chunks_are ∙ take_at (chunks_of 204 a) (chunks_of 204 (rest_of 204 a ++ b)) (blocks_in_bits n) l))

-- ---- the theorem

module _ (inputs : List (List ℕ)) (g : All Input inputs) (bs : All Bytes inputs) (limit : length inputs ≤ 4294967295) (rate : ℕ) (hr : rate < qpsk_count) (sent : (mode_of rate).sent ≡ true) where
  abbrev packets : List (List ℕ)
  packets = packets_for inputs

  abbrev all : List ℕ
  all = bits_of (sent_bytes packets)

  module _ {R : Type 0} {cost : R → ℕ → ℕ} {SymbolCame : List R → List ℕ → Type 0} (k : StreamLink cost SymbolCame rate inputs) where
    abbrev pub read_of : SymbolsEnded cost rate k.points (read_bytes k) k.finished.rest k.finished.bits
    read_of = read_ended inputs g bs limit rate hr sent k

    abbrev bits : List ℕ
    bits = read_of.bits

    bytes_are : packed_bytes bits ≡ read_bytes k
    bytes_are = sym read_of.bytes_are

    count_is : length bits ≡ bit_count k
    count_is = bit_count_lem inputs g bs limit rate hr sent k

    -- where all but the last bits is
    front_arrived : (unsure : ℕ) → unsure ≤ 1632 → StreamBack rate unsure all (length k.points) bits k.finished.rest → FrontArrived unsure k
    front_arrived unsure few w =
        let f : ℕ = length bits - unsure in
        let n : ℕ = blocks_in_bits f in
        let far : run_bits rate (length k.points) - unsure ≡ f = ap (λ (i : ℕ). i - unsure) (sym w.size) in
        let front : take f bits ≡ take f all = rw far at w.given in
        let size : length (take f bits) ≡ f = length-take-le f bits (omega arith) in
        let c = kept_front n k.received in
        let blocks : chunks_of 204 (packed_bytes (take f bits)) ≡ take n (chunks_of 204 (read_bytes k)) =
        front_blocks f bits (omega arith) ∙ ap (λ (x : List ℕ). take n (chunks_of 204 x)) bytes_are in
        let b = brought_back inputs g bs limit (take f bits) f front (omega (arith, w.size, w.within))
        (subst (λ (x : List (List ℕ)). Kept fresh_receiver x (take n k.numbers) c.front c.middle) (sym blocks) c.kept) in
        let m : blocks_in_bits (length (take f bits)) ≡ n = ap blocks_in_bits size in
        let lf : length c.front ≡ n - 11 =
        ap length b.packets ∙ length-take-le (blocks_in_bits (length (take f bits)) - 11) packets (omega (arith, b.within, length_packets)) ∙ ap (λ (i : ℕ). i - 11) m in
        record {
          front =
              record {
                surely = n;
                surely_is = ap (λ (i : ℕ). blocks_in_bits (i - unsure)) count_is;
                all_but_one = omega (arith, length-chunks 204 (read_bytes k), ap length bytes_are, length_bytes bits);
                answered = b.answered ∙ ap (λ (i : ℕ). take i (replicate 11 9 ++ replicate i 0)) m;
                packets =
                    ap (take (n - 11)) c.packets_are ∙ take_at c.front c.later (n - 11) lf ∙ b.packets ∙ ap (λ (i : ℕ). take (i - 11) packets) m;
              };
          blocks_sent = sym blocks ∙ b.blocks_sent ∙ ap (λ (i : ℕ). take i (interleaved_blocks packets)) m;
        }
      where
        length_packets : length packets ≡ length inputs
        length_packets = length-map inputs packet_for

  module _ {R : Type 0} {cost : R → ℕ → ℕ} (doubt : R → ℕ → ℕ) (l : Limits) (k : StreamLink cost (Sparsely doubt l) rate inputs) where
    stream : NoisyStream doubt l rate all k.points k.came k.unread
    stream = record { binary = bits_bits (sent_bytes packets); coded = coded inputs g bs limit rate hr sent k; as_long = k.as_long; sparse = k.assumed }

  -- By hard decisions: where any 48, 42, 56 or 48 symbols in a row have at most 4, 2, 2 or 1 wrong I and Q bits, and the last 22, 21, 28 or 21 have none.
  pub noisy_arrived : (k : StreamLink differing (Sparsely differing (hard_limits rate)) rate inputs) → QuietEnd (hard_limits rate).quiet_stream (map differing k.points) k.came
      → StreamArrived k
  noisy_arrived k quiet = all_arrived inputs g bs limit rate hr sent k (noisy_stream_whole (stream differing (hard_limits rate) k) (read_of k).read quiet)

  -- By soft decisions: where any 55, 54, 56 or 75 points in a row leave a doubt of at most 63, 35, 28 or 21, and the last 26, 27, 28 or 33 none.
  pub noisy_soft_arrived : (k : StreamLink softly (Sparsely soft_doubt (soft_limits rate)) rate inputs) → QuietEnd (soft_limits rate).quiet_stream (map soft_doubt k.points) k.came
      → StreamArrived k
  noisy_soft_arrived k quiet = all_arrived inputs g bs limit rate hr sent k (noisy_soft_stream_whole (stream soft_doubt (soft_limits rate) k) (read_of k).read quiet)

  -- ---- whatever the end

  pub hard_few : (hard_limits rate).unsure ≤ 1632
  unfolding table at_rate
  hard_few = leb→le _ _ (below_at (λ r. leb (hard_limits r).unsure 1632) qpsk_count tt rate hr)

  pub soft_few : (soft_limits rate).unsure ≤ 1632
  unfolding table at_rate
  soft_few = leb→le _ _ (below_at (λ r. leb (soft_limits r).unsure 1632) qpsk_count tt rate hr)

  pub noisy_front : (k : StreamLink differing (Sparsely differing (hard_limits rate)) rate inputs) → FrontArrived (hard_limits rate).unsure k
  noisy_front k = front_arrived k (hard_limits rate).unsure hard_few (noisy_stream (stream differing (hard_limits rate) k) (read_of k).read)

  pub noisy_soft_front : (k : StreamLink softly (Sparsely soft_doubt (soft_limits rate)) rate inputs) → FrontArrived (soft_limits rate).unsure k
  noisy_soft_front k = front_arrived k (soft_limits rate).unsure soft_few (noisy_soft_stream (stream soft_doubt (soft_limits rate) k) (read_of k).read)
