-- Demand 2 from end to end, as one statement: packets, symbols, runs or a stream, bits, bytes, blocks, packets.
-- Assumes nothing.
use mathlib.Core.Path.{◌≡◌, sym, ap, ◌∙◌, subst, subst₂}
use mathlib.Core.Bool.{true}
use mathlib.Core.List.{List, ◌++◌, flatten}
use Prim.Native.Nat.{ℕ, zero, suc, ◌+◌, ◌-◌, ◌*◌, ◌/◌, ◌%◌, ◌≤◌, ◌<◌}
use native.Mathlib.Nat.{div-add-mod, mod-lt}
use native.Mathlib.Omega.{arith}
use lib.ListN.{length, take, replicate, length-map, length-append}
use lib.Seq.{length-take-le}
use Rattle.common.specs.Lists.{All, Bytes, chunks_of}
use Rattle.common.proofs.Chunks.{chunks_back}
use Rattle.randomizer.specs.Stream.{Packet}
use Rattle.convolutional_code.specs.Bits.{bits_of}
use Rattle.convolutional_code.proofs.Bits.{length_bits, bits_bits}
use Rattle.puncturing.specs.Mode.{mode_of, qpsk_count}
use Rattle.puncturing.specs.Step.{pattern_length}
use Rattle.puncturing.proofs.Steps.{some_bits}
use Rattle.puncturing.proofs.Places.{up, length_le}
use Rattle.inner_code.specs.Step.{symbols_of}
use Rattle.inner_code.specs.Encode.{coder_at}
use Rattle.reader.specs.Read.{symbols_per_pattern, run_bits, length_of_run}
use Rattle.reader.specs.Clear.{AllClear}
use Rattle.bit_packing.specs.Packing.{packed_bytes}
use Rattle.reader_stream.specs.History.{SymbolsEnded}
use Rattle.bit_packing.proofs.Bytes.{length_bytes, bytes_back}
use Rattle.reader_stream.proofs.Histories.{every_end}
use Rattle.reader.proofs.Costs.{sent_small}
use Rattle.symbol_turns.specs.Turn.{turned_cost}
use Rattle.symbol_turns.proofs.Turns.{clear_turned}
use Rattle.reader_stream.proofs.Unharmed.{WholeStream, read_whole, all_front, last_pattern}
use Rattle.sender.specs.Input.{Input, packet_for, packets_for}
use Rattle.sender.proofs.Inputs.{packets_sent_lem}
use Rattle.receiver.specs.Receive.{fresh_receiver}
use Rattle.receiver.specs.Kept.{Kept}
use Rattle.receiver.specs.declared.Receiver.{Receiver}
use Rattle.receiver.proofs.Reception.{blocks_count, begun_anywhere}
use Rattle.receiver.proofs.Promised.{kept_calls}
use Rattle.sent_blocks.specs.Blocks.{interleaved_blocks, sent_bytes}
use Rattle.sender.proofs.Counts.{block_bits_lem}
use Rattle.sent_blocks.proofs.Lengths.{interleaved_count, interleaved_whole}
use Rattle.sent_blocks.proofs.Packets.{bytes_sent}
use Rattle.link.specs.Link.{Link, StreamLink, TurnedClear, read_bytes, bit_count, blocks_in_bits, BroughtBack, Arrived, StreamArrived}
use Rattle.link.proofs.Sent.{sent_coded, sent_front, front_within, front_last}

module _ (packets : List (List ℕ)) (ws : All Packet packets) where
  abbrev sent : List (List ℕ)
  sent = interleaved_blocks packets

  -- the first n bits that are sent make the blocks that are whole in them
  front_blocks : (n : ℕ) → n ≤ length (bits_of (sent_bytes packets)) → chunks_of 204 (packed_bytes (take n (bits_of (sent_bytes packets)))) ≡ take (blocks_in_bits n) sent
  front_blocks n h =
      let e : n / 8 / 204 ≡ n / 1632 = omega arith in
      ap (chunks_of 204) (bytes_back (flatten sent) (bytes_sent packets ws) n h)
      ∙ chunks_back 204 (omega arith) sent (interleaved_whole packets) (n / 8) (omega (arith, length_bits (flatten sent)))
      ∙ ap (λ (k : ℕ). take k sent) e

-- ---- the theorem

-- whatever was read, where it is the bits that were sent as far as it goes
module _ (inputs : List (List ℕ)) (g : All Input inputs) (bs : All Bytes inputs) (limit : length inputs ≤ 4294967295) where
  abbrev packets : List (List ℕ)
  packets = packets_for inputs

  ws : All Packet packets
  ws = packets_sent_lem inputs g bs

  pub sent_length_is : length (bits_of (sent_bytes packets)) ≡ 1632 * length inputs
  sent_length_is = block_bits_lem packets ∙ ap (λ (k : ℕ). 1632 * k) (length-map inputs packet_for)

  pub brought_back : (bits : List ℕ) (far : ℕ) → bits ≡ take far (bits_of (sent_bytes packets)) → far ≤ length (bits_of (sent_bytes packets)) → {numbers : List ℕ} {given : List (List ℕ)} {receiver : Receiver}
      → Kept fresh_receiver (chunks_of 204 (packed_bytes bits)) numbers given receiver → BroughtBack inputs (length bits) (chunks_of 204 (packed_bytes bits)) numbers given
  brought_back bits far front within received =
      let count : length packets ≡ length inputs = length-map inputs packet_for in
      let read : length bits ≡ far = ap length front ∙ length-take-le far (bits_of (sent_bytes packets)) within in
      let n = blocks_in_bits (length bits) in
      let blocks : chunks_of 204 (packed_bytes bits) ≡ take n (interleaved_blocks packets) =
      ap (λ (x : List ℕ). chunks_of 204 (packed_bytes x)) front ∙ front_blocks packets ws far within
      ∙ ap (λ (k : ℕ). take (blocks_in_bits k) (interleaved_blocks packets)) (sym read) in
      let few : n ≤ length packets = omega (arith, read, within, block_bits_lem packets) in
      let m = kept_calls received in
      let calls : length m.calls ≡ n =
      sym (blocks_count m.calls) ∙ ap length (m.lent ∙ blocks) ∙ length-take-le n (interleaved_blocks packets) (omega (arith, interleaved_count packets)) in
      let r = begun_anywhere packets ws 0 m.calls (omega arith) (omega arith)
      (m.lent ∙ blocks ∙ ap (λ (k : ℕ). take k (interleaved_blocks packets)) (sym calls)) m.plain m.output_fits m.decodes in
      let e : length m.calls - 11 - 0 ≡ n - 11 = omega arith in
      record {
        blocks_sent = blocks;
        within = omega arith;
        answered = sym m.answered ∙ r.answered ∙ ap (λ (k : ℕ). take k (replicate 11 9 ++ replicate k 0)) calls;
        packets = sym m.given ∙ r.given ∙ ap (λ (k : ℕ). take k packets) e;
      }

  module _ (rate : ℕ) (hr : rate < qpsk_count) (q : (mode_of rate).sent ≡ true) where
    -- by runs
    pub arrived : (l : Link rate inputs) → Arrived rate inputs l
    arrived l =
        let far = length_of_run rate (flatten l.runs) in
        let front = sent_front rate hr q g l.sent l.runs l.whole l.unread l.cut l.read in
        let within = front_within rate hr q g l.sent l.runs l.whole l.unread l.cut in
        record {
          no_cost = front.1;
          back = brought_back l.bits far front.0 within l.received;
          to_the_last = λ short.
              ap length front.0 ∙ length-take-le far (bits_of (sent_bytes packets)) within
              ∙ front_last rate hr q g l.sent l.runs l.whole l.unread l.cut short
              ∙ ap (λ (k : ℕ). pattern_length rate * (k / pattern_length rate)) sent_length_is;
        }

    -- by a stream
    module _ {R : Type 0} {cost : R → ℕ → ℕ} {Came : List R → List ℕ → Type 0} (l : StreamLink cost Came rate inputs) where
      abbrev all : List ℕ
      all = bits_of (sent_bytes packets)

      pub coded : l.came ++ l.unread ≡ symbols_of (coder_at rate 0) all
      coded = l.cut ∙ sent_coded rate hr q g l.sent

      pub read_ended : SymbolsEnded cost rate l.points (read_bytes l) l.finished.rest l.finished.bits
      read_ended = every_end cost l.fed l.points l.costed l.ended

      pub bit_count_lem : length read_ended.bits ≡ bit_count l
      bit_count_lem = omega (arith, read_ended.bits_left, ap length read_ended.bytes_are, length_bytes read_ended.bits)

      -- where all that was read is what was sent
      pub all_arrived : WholeStream rate all (length l.points) read_ended.bits l.finished.rest → StreamArrived l
      all_arrived w =
          let bits : List ℕ = read_ended.bits in
          let p : packed_bytes bits ≡ read_bytes l = sym read_ended.bytes_are in
          let far = run_bits rate (length l.points) in
          record {
            back =
                subst₂ (λ (n : ℕ) (x : List ℕ). BroughtBack inputs n (chunks_of 204 x) l.numbers l.given) bit_count_lem p
                (brought_back bits far w.given w.within
                (subst (λ (x : List ℕ). Kept fresh_receiver (chunks_of 204 x) l.numbers l.given l.receiver) (sym p) l.received));
            behind = w.behind ∙ ap (λ (n : ℕ). n % symbols_per_pattern rate) l.as_long;
            to_the_last = λ all-came.
                let whole : length l.came ≡ length (symbols_of (coder_at rate 0) all) = omega (arith, length-append l.came l.unread, ap length coded) in
                sym bit_count_lem ∙ ap length w.given ∙ length-take-le far all w.within
                ∙ ap (run_bits rate) (l.as_long ∙ whole) ∙ last_pattern rate hr all (bits_bits (sent_bytes packets))
                ∙ ap (λ (k : ℕ). pattern_length rate * (k / pattern_length rate)) sent_length_is;
          }

    -- by a stream of symbols that are clear about those that were sent
    pub stream_arrived : {R : Type 0} (cost : R → ℕ → ℕ) (l : StreamLink cost (AllClear cost) rate inputs) → StreamArrived l
    stream_arrived cost l =
        all_arrived l (read_whole cost rate (bits_of (sent_bytes packets)) (bits_bits (sent_bytes packets)) l.points l.came l.unread l.assumed (coded l) (read_ended l).read)

    -- by a stream of symbols that came turned in one of the eight ways and are clear about the turned ones, where the decisions are turned back before they are
    -- read: `costed_turned` gives what those cost
    pub turned_arrived : {R : Type 0} (cost : R → ℕ → ℕ) (turn : ℕ) → turn < 8 → (l : StreamLink (turned_cost cost turn) (TurnedClear cost turn) rate inputs) → StreamArrived l
    turned_arrived cost turn h l =
        let small : All (λ s. s < 4) l.came =
        all_front l.came l.unread (subst (All (λ s. s < 4)) (sym (coded l)) (sent_small rate 0 hr (omega arith) (bits_bits (sent_bytes packets)))) in
        all_arrived l
        (read_whole (turned_cost cost turn) rate (bits_of (sent_bytes packets)) (bits_bits (sent_bytes packets)) l.points l.came l.unread (clear_turned cost turn h l.came small l.assumed) (coded l) (read_ended l).read)

-- ---- how many blocks that is

-- where less than a pattern is left unread, at most one block is not whole
pub all_but_one : (rate n : ℕ) → rate < qpsk_count → n ≤ blocks_in_bits (pattern_length rate * (1632 * n / pattern_length rate)) + 1
all_but_one rate n hr =
    let p = pattern_length rate in
    omega (arith, div-add-mod (1632 * n) p, mod-lt (1632 * n) (some_bits rate hr), length_le rate (up rate hr))

-- and at rates 1/2, 2/3 and 3/4, whose patterns fill a block, every one is
pub every_block : (rate n : ℕ) → rate < 3 → blocks_in_bits (pattern_length rate * (1632 * n / pattern_length rate)) ≡ n
unfolding mode_of
every_block zero n h = omega arith
every_block (suc zero) n h = omega arith
every_block (suc (suc zero)) n h = omega arith
every_block (suc (suc (suc rate))) n h = absurd (omega arith)
