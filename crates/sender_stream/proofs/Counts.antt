-- How many symbols a piece gives: those that the coded bits of its packets complete, from the place where the sender stands in the pattern.
-- Assumes nothing.
use mathlib.Core.Path.{◌≡◌, ap, ap₂, sym, ◌∙◌}
use mathlib.Core.List.{List, [], ◌∷◌, ◌++◌, flatten}
use Prim.Native.Nat.{ℕ, ◌+◌, ◌*◌, ◌/◌, ◌≤◌, ◌<◌}
use native.Mathlib.Nat.{add_comm, mul-zero, mul-suc}
use native.Mathlib.Omega.{arith}
use lib.ListN.{length, length-append, length-map, length-take}
use lib.Seq.{length-take-le}
use Rattle.common.specs.Lists.{All, Length}
use Rattle.common.proofs.Chunks.{length-chunks}
use Rattle.interleaver.proofs.Blocks.{length_out}
use Rattle.interleaver.specs.declared.branches.Side.TheVariants.{Sending}
use Rattle.puncturing.specs.Mode.{mode_of, block_bits}
use Rattle.puncturing.specs.Step.{symbols_in, count_by}
use Rattle.puncturing.specs.Run.{pattern_place_after}
use Rattle.puncturing.proofs.Parts.{symbols_in_append}
use Rattle.inner_code.specs.Converter.{encoded_bits}
use Rattle.inner_code.proofs.Converter.{length_block_encoded}
use Rattle.inner_code.proofs.Coder.{range_test_by, coder_place}
use Rattle.sender.specs.Input.{packet_for, packets_for}
use Rattle.sender.specs.Send.{coded_packet, sent_block, sent_symbols, sender_after}
use Rattle.sender.specs.Calls.{calls_symbols}
use Rattle.sender.specs.declared.Sender.{Sender}
use Rattle.sender.proofs.Inputs.{packet_lengths, packets_inputs}
use Rattle.sender.proofs.Stages.{symbol_count_lem}
use Rattle.sender.proofs.Ready.{Ready, ready_range, rate_after, ready_after}
use Rattle.sender.proofs.Counts.{most_symbols}
use Rattle.sender_stream.specs.Feed.{bytes_held, whole_packets, whole_count, fed_symbols}
use Rattle.sender_stream.specs.declared.SenderStream as declared

module _ (s : Sender) (packet : List ℕ) (g : Ready mode_of s) where
  -- the place in the pattern after a packet
  place_next_lem : (sender_after mode_of s packet).coder.place ≡ pattern_place_after s.coder.rate s.coder.place (block_bits s.coder.rate)
  unfolding sender_after sent_block
  place_next_lem =
      let block = sent_block s packet in
      coder_place s.coder (encoded_bits (mode_of s.coder.rate) block)
      ∙ ap (pattern_place_after s.coder.rate s.coder.place)
      (length_block_encoded (mode_of s.coder.rate) block (length_out Sending s.interleaver.branches (coded_packet s packet)))

  count_is : length packet ≡ 188 → length (sent_symbols mode_of s packet) ≡ symbols_in s.coder.rate s.coder.place (block_bits s.coder.rate)
  count_is n = symbol_count_lem s packet (ready_range s g) n g.formed ∙ simp (range_test_by (mode_of s.coder.rate) s.coder g.coder)

-- the symbols of a list of packets
length_calls : (s : Sender) (packets : List (List ℕ)) → Ready mode_of s → All (Length 188) packets
    → length (flatten (calls_symbols mode_of s packets)) ≡ symbols_in s.coder.rate s.coder.place (block_bits s.coder.rate * length packets)
unfolding calls_symbols flatten count_by
length_calls s [] g l = sym (ap (symbols_in s.coder.rate s.coder.place) (mul-zero (block_bits s.coder.rate)))
length_calls s (p ∷ ps) g l =
    let r = s.coder.rate in
    let b = block_bits r in
    let n = length ps in
    let rest = flatten (calls_symbols mode_of (sender_after mode_of s p) ps) in
    let later : length rest ≡ symbols_in r (pattern_place_after r s.coder.place b) (b * n)
    = length_calls (sender_after mode_of s p) ps (ready_after s p g) l.1
    ∙ ap₂ (λ (q k : ℕ). symbols_in q k (block_bits q * n)) (rate_after mode_of s p) (place_next_lem s p g) in
    length-append (sent_symbols mode_of s p) rest
    ∙ ap₂ (λ (x y : ℕ). x + y) (count_is s p g l.0) later
    ∙ sym (symbols_in_append r s.coder.place b (b * n))
    ∙ ap (symbols_in r s.coder.place) (add_comm b (b * n) ∙ sym (mul-suc b n))

-- at most 1,632 for each
most_calls : (s : Sender) (packets : List (List ℕ)) → Ready mode_of s → All (Length 188) packets → length (flatten (calls_symbols mode_of s packets)) ≤ 1632 * length packets
unfolding calls_symbols flatten
most_calls s [] g l = omega arith
most_calls s (p ∷ ps) g l =
    omega (
      arith,
      length-append (sent_symbols mode_of s p) (flatten (calls_symbols mode_of (sender_after mode_of s p) ps)),
      symbol_count_lem s p (ready_range s g) l.0 g.formed,
      most_symbols s.coder g.coder,
      most_calls (sender_after mode_of s p) ps (ready_after s p g) l.1,
    )

module _ (w : declared.SenderStream) (piece : List ℕ) (g : Ready mode_of w.sender) where
  packets : List (List ℕ)
  packets = packets_for (whole_packets w piece)

  sizes : All (Length 188) packets
  unfolding packets
  sizes = packet_lengths (whole_packets w piece) (packets_inputs (bytes_held w ++ piece))

  how_many_lem : length packets ≡ (length (bytes_held w) + length piece) / 188
  unfolding packets
  how_many_lem =
      length-map (whole_packets w piece) packet_for
      ∙ length-chunks 188 (bytes_held w ++ piece)
      ∙ ap (λ (n : ℕ). n / 188) (length-append (bytes_held w) piece)

  -- the symbols of the packets that are whole with a piece
  pub length_fed : length w.pending ≡ 188 → w.held < 188
      → length (fed_symbols w piece) ≡ symbols_in w.sender.coder.rate w.sender.coder.place (block_bits w.sender.coder.rate * whole_count w piece)
  unfolding packets
  length_fed size h =
      let whole : length packets ≡ whole_count w piece
      = how_many_lem ∙ ap (λ (n : ℕ). (n + length piece) / 188) (length-take-le w.held w.pending (omega arith)) in
      length_calls w.sender packets g sizes
      ∙ ap (λ (n : ℕ). symbols_in w.sender.coder.rate w.sender.coder.place (block_bits w.sender.coder.rate * n)) whole

  pub most_fed : length (fed_symbols w piece) ≤ 1632 * whole_count w piece
  unfolding packets
  most_fed = omega (arith, most_calls w.sender packets g sizes, how_many_lem, length-take w.held w.pending)
