-- Rain on symbols from packets to packets: symbols struck, by hard and by soft decisions, and symbols lost.
-- Assumes nothing.
use mathlib.Core.Path.{◌≡◌, sym, ap, ◌∙◌, subst}
use mathlib.Core.Bool.{Bool, true}
use mathlib.Core.List.{List, [], ◌∷◌, ◌++◌}
use Prim.{tt}
use Prim.Native.Nat.{ℕ, ◌+◌, ◌-◌, ◌*◌, ◌/◌, ◌≤◌, ◌<◌}
use native.Mathlib.Decide.{dec_le}
use native.Mathlib.Omega.{arith}
use lib.Dec.{T, leb, leb→le, ltb, ltb→lt}
use lib.ListN.{length, take, replicate, length-map}
use lib.Seq.{take_at, length-take-le}
use Rattle.common.specs.Choice.{pick}
use Rattle.common.specs.Lists.{All, Bytes, chunks_of}
use Rattle.common.proofs.Chunks.{length-chunks}
use Rattle.common.proofs.Computed.{below_at}
use Rattle.randomizer.specs.Stream.{Packet}
use Rattle.convolutional_code.specs.Bits.{bits_of}
use Rattle.convolutional_code.proofs.Bits.{bits_bits}
use Rattle.bit_packing.specs.Packing.{packed_bytes}
use Rattle.bit_packing.proofs.Bytes.{length_bytes}
use Rattle.puncturing.specs.Mode.{mode_of, qpsk_count}
use Rattle.puncturing.specs.Step.{pattern_length}
use Rattle.branch_metrics.specs.Cost.{softly}
use Rattle.reader.specs.Cost.{differing}
use Rattle.reader.specs.Read.{symbols_per_pattern}
use Rattle.sender.specs.Input.{Input, packet_for, packets_for}
use Rattle.sender.proofs.Inputs.{packets_sent_lem}
use Rattle.receiver.specs.Receive.{fresh_receiver}
use Rattle.receiver.specs.Kept.{Kept}
use Rattle.sent_blocks.specs.Blocks.{sent_bytes}
use Rattle.sent_blocks.proofs.Packets.{bytes_sent}
use Rattle.link.proofs.Bursts.{burst_promised}
use Rattle.link.specs.Link.{StreamLink, read_bytes, bit_count, blocks_in_bits}
use Rattle.link.proofs.Link.{sent_length_is, coded, bit_count_lem}
use Rattle.noise_tolerance.specs.Noise.{soft_doubt}
use Rattle.noise_tolerance.specs.Table.{hard_limits, soft_limits}
use Rattle.noise_tolerance.specs.Harm.{is_struck, cost_of, doubt_of, was_lost, doubt_unlost, Spoils, harm_table, harm_at, HarmedStream, Recovered}
use Rattle.noise_tolerance.proofs.Numbers.{all_pass, pass}
use Rattle.noise_tolerance.proofs.Recovered.{hard_recovered, soft_recovered, lost_recovered}
use Rattle.noisy_link.specs.Link.{Rained, FrontGiven}
use Rattle.noisy_link.proofs.Link.{kept_front, read_of, hard_few, soft_few}
use Rattle.noisy_link.proofs.Rain.{Close, blocks_whole, blocks_count, within_bursts}

-- ---- the numbers

-- harm and what it spoils, in bits, at a rate that is sent
module _ (r : ℕ) (l : Spoils) where
  abbrev span : ℕ
  span = (l.longest + 2 * symbols_per_pattern r - 2) / symbols_per_pattern r

  abbrev tests : List Bool
  tests =
      leb (l.longest + symbols_per_pattern r) (symbols_per_pattern r * span + 1)
      ∷ leb (pattern_length r * span + (l.ahead + l.behind)) 761
      ∷ ltb 0 (symbols_per_pattern r)
      ∷ ltb 0 (pattern_length r)
      ∷ leb (pattern_length r) 7
      ∷ []

  unfoldable near : Bool
  near = all_pass tests

  nearly : T near → Close r l
  unfolding near
  nearly h = record {
    span = span;
    spans = leb→le _ _ (pass tests h 0);
    close = leb→le _ _ (pass tests h 1);
    some_symbols = ltb→lt _ _ (pass tests h 2);
    some_bits = ltb→lt _ _ (pass tests h 3);
    few_bits = leb→le _ _ (pass tests h 4);
  }

-- at each rate that is sent
if_sent : (rate : ℕ) (l : Spoils) → (mode_of rate).sent ≡ true → T (pick (mode_of rate).sent (near rate l) true) → Close rate l
if_sent rate l e h = nearly rate l (subst (λ (t : Bool). T (pick t (near rate l) true)) e h)

hard_close : (rate : ℕ) → rate < qpsk_count → (mode_of rate).sent ≡ true → Close rate (harm_at rate).hard_struck
unfolding near harm_table harm_at mode_of symbols_per_pattern
hard_close rate h e = if_sent rate (harm_at rate).hard_struck e (below_at (λ r. pick (mode_of r).sent (near r (harm_at r).hard_struck) true) qpsk_count tt rate h)

soft_close : (rate : ℕ) → rate < qpsk_count → (mode_of rate).sent ≡ true → Close rate (harm_at rate).soft_struck
unfolding near harm_table harm_at mode_of symbols_per_pattern
soft_close rate h e = if_sent rate (harm_at rate).soft_struck e (below_at (λ r. pick (mode_of r).sent (near r (harm_at r).soft_struck) true) qpsk_count tt rate h)

lost_close : (rate : ℕ) → rate < qpsk_count → (mode_of rate).sent ≡ true → Close rate (harm_at rate).soft_lost
unfolding near harm_table harm_at mode_of symbols_per_pattern
lost_close rate h e = if_sent rate (harm_at rate).soft_lost e (below_at (λ r. pick (mode_of r).sent (near r (harm_at r).soft_lost) true) qpsk_count tt rate h)

-- ---- the theorem

module _ (inputs : List (List ℕ)) (g : All Input inputs) (bs : All Bytes inputs) (limit : length inputs ≤ 4294967295) (rate : ℕ) (hr : rate < qpsk_count) (sent : (mode_of rate).sent ≡ true) where
  abbrev packets : List (List ℕ)
  packets = packets_for inputs

  abbrev all : List ℕ
  all = bits_of (sent_bytes packets)

  ws : All Packet packets
  ws = packets_sent_lem inputs g bs

  module _ {R : Type 0} {cost doubt : R → ℕ → ℕ} {harmed : R → Bool} {l : Spoils} (k : StreamLink cost (Rained doubt harmed l rate) rate inputs) where
    harmed_stream : HarmedStream doubt harmed l rate all k.points k.came k.unread
    harmed_stream = record {
      binary = bits_bits (sent_bytes packets);
      coded = coded inputs g bs limit rate hr sent k;
      as_long = k.as_long;
      sparse = k.assumed.sparse;
      gathered = k.assumed.gathered;
    }

    abbrev bits : List ℕ
    bits = (read_of inputs g bs limit rate hr sent k).bits

    bytes_read : packed_bytes bits ≡ read_bytes k
    bytes_read = sym (read_of inputs g bs limit rate hr sent k).bytes_are

    count_is : length bits ≡ bit_count k
    count_is = bit_count_lem inputs g bs limit rate hr sent k

    rained : Close rate l → (unsure : ℕ) → unsure ≤ 1632 → Recovered harmed l rate unsure all k.points bits k.finished.rest → FrontGiven unsure k
    rained c unsure few r = by (dec_le unsure (length bits))
      where
        n : ℕ
        n = blocks_in_bits (length bits - unsure)

        most : length (chunks_of 204 (read_bytes k)) ≤ n + 1
        most = omega (arith, length-chunks 204 (read_bytes k), ap length bytes_read, length_bytes bits)

        given : 1632 * n + unsure ≤ length bits → FrontGiven unsure k
        given whole =
            let b = k.received in
            let f = kept_front n b in
            let e : take n (chunks_of 204 (packed_bytes bits)) ≡ take n (chunks_of 204 (read_bytes k)) = ap (λ (x : List ℕ). take n (chunks_of 204 x)) bytes_read in
            let q : length (take n (chunks_of 204 (packed_bytes bits))) ≡ n =
            blocks_count harmed rate l c k.points k.assumed.gathered (sent_bytes packets) bits (bytes_sent packets ws) unsure n r.within whole r.wrong in
            let m : length packets ≡ length inputs = length-map inputs packet_for in
            let p = burst_promised packets ws 0 (take n (chunks_of 204 (packed_bytes bits))) (omega (arith, q, m, whole, r.within, sent_length_is inputs g bs limit)) (omega (arith, q, m, whole, r.within, sent_length_is inputs g bs limit, limit))
            (blocks_whole harmed rate l c k.points k.assumed.gathered (sent_bytes packets) bits (bytes_sent packets ws) unsure n r.within whole r.wrong)
            (within_bursts harmed rate l c k.points k.assumed.gathered (sent_bytes packets) bits (bytes_sent packets ws) unsure n r.within whole r.wrong)
            (take n k.numbers) f.front f.middle
            (subst (λ (x : List (List ℕ)). Kept fresh_receiver x (take n k.numbers) f.front f.middle) (sym e) f.kept) in
            let z : length (take n (chunks_of 204 (packed_bytes bits))) - 11 - 0 ≡ n - 11 = omega (arith, q) in
            let front : f.front ≡ take (n - 11) packets = p.gave ∙ ap (λ (i : ℕ). take i packets) z in
            let lf : length f.front ≡ n - 11 = ap length front ∙ length-take-le (n - 11) packets (omega (arith, m, whole, r.within, sent_length_is inputs g bs limit)) in
            record {
              surely = n;
              surely_is = ap (λ (i : ℕ). blocks_in_bits (i - unsure)) count_is;
              all_but_one = most;
              answered = p.answered ∙ ap (λ (i : ℕ). take i (replicate 11 9 ++ replicate i 0)) q;
              packets = ap (take (n - 11)) f.packets_are ∙ take_at f.front f.later (n - 11) lf ∙ front;
            }

        none : n ≡ 0 → FrontGiven unsure k
        none z =
            let y : n - 11 ≡ 0 = omega arith in
            record {
              surely = n;
              surely_is = ap (λ (i : ℕ). blocks_in_bits (i - unsure)) count_is;
              all_but_one = most;
              answered = ap (λ (i : ℕ). take i k.numbers) z ∙ sym (ap (λ (i : ℕ). take i (replicate 11 9 ++ replicate n 0)) z);
              packets = ap (λ (i : ℕ). take i k.given) y ∙ sym (ap (λ (i : ℕ). take i packets) y);
            }

        by : Dec (unsure ≤ length bits) → FrontGiven unsure k
        by (yes h) = given (omega arith)
        by (no h) = none (omega arith)

  -- By hard decisions: where harmed symbols that are not as far apart as those of 13 blocks lie within 31, 12, 7 or 3 symbols, and the others have at most 4, 2, 2
  -- or 1 wrong I and Q bits in any 900 symbols, every block that is whole is corrected to what was sent, and the packets of all but the last eleven are given.
  pub rain_hard : (k : StreamLink (cost_of differing) (Rained (doubt_of differing) is_struck (harm_at rate).hard_struck rate) rate inputs) → FrontGiven (hard_limits rate).unsure k
  rain_hard k =
      rained k (hard_close rate hr sent) (hard_limits rate).unsure (hard_few inputs g bs limit rate hr sent) (hard_recovered (harmed_stream k) (read_of inputs g bs limit rate hr sent k).read)

  -- By soft decisions: within 30, 12, 7 or 2 symbols, and a doubt of at most 63, 35, 28 or 21 elsewhere.
  pub rain_soft : (k : StreamLink (cost_of softly) (Rained (doubt_of soft_doubt) is_struck (harm_at rate).soft_struck rate) rate inputs) → FrontGiven (soft_limits rate).unsure k
  rain_soft k =
      rained k (soft_close rate hr sent) (soft_limits rate).unsure (soft_few inputs g bs limit rate hr sent) (soft_recovered (harmed_stream k) (read_of inputs g bs limit rate hr sent k).read)

  -- By soft decisions, where the harmed symbols are lost: within 625, 424, 339 or 223 symbols, and a doubt of at most 63, 35, 28 or 21 elsewhere.
  pub outage_soft : (k : StreamLink softly (Rained doubt_unlost was_lost (harm_at rate).soft_lost rate) rate inputs) → FrontGiven (soft_limits rate).unsure k
  outage_soft k =
      rained k (lost_close rate hr sent) (soft_limits rate).unsure (soft_few inputs g bs limit rate hr sent) (lost_recovered (harmed_stream k) (read_of inputs g bs limit rate hr sent k).read)
