-- A loop that sends the packets of a buffer: what is in the output, and what is left to send.
-- Assumes nothing.
use mathlib.Core.Path.{◌≡◌, refl, ap, ap₂, sym, subst, subst₂, ◌∙◌}
use mathlib.Core.Bool.{Bool, true, false}
use mathlib.Core.Logic.{inr}
use mathlib.Core.List.{List, [], ◌++◌, append_assoc, append-nil, flatten}
use Prim.Native.Nat.{ℕ, ◌+◌, ◌-◌, ◌%◌, ◌≤◌, ◌<◌}
use native.Mathlib.Omega.{arith}
use borrow.Rule.Slice.PartMut.{put_mid, mid_of}
use lib.ListN.{length, take, drop, length-append, length-drop, drop_of_length-le}
use lib.Seq.{take_all, take_at, drop_at, drop-drop}
use Rattle.common.specs.Choice.{pick}
use Rattle.common.specs.Lists.{chunks_of}
use Rattle.puncturing.specs.Mode.{mode_of}
use Rattle.puncturing.proofs.Places.{sent_known}
use Rattle.puncturing.proofs.WellFormed.{well_formed_lem}
use Rattle.sender.specs.Input.{is_input, is_synced, packet_for, packets_for}
use Rattle.sender.specs.Send.{fresh_sender, sent_symbols, sent_count, sender_after, Sends}
use Rattle.sender.specs.Calls.{calls_symbols}
use Rattle.sender.specs.declared.Sender.{Sender}
use Rattle.sender.proofs.Inputs.{input_test, packet_size, packet_lengths, packets_inputs}
use Rattle.sender.proofs.Stages.{symbol_count_lem}
use Rattle.sender.proofs.Ready.{Ready, ready_range, ready_fresh, ready_after}
use Rattle.sender.proofs.Stream.{calls_on_air}
use Rattle.sender.proofs.History.{Answered, input_sent}
use Rattle.sender_stream.specs.Run.{run_symbols, Sendable}
use Rattle.sender_stream.proofs.Buffers.{Scanning, scanning_start, scanning_end, scanning_packet, scanning_size, scanning_more}

-- the symbols in front are in the output, those of the packets from at on are still to be sent, and together they are those of the run
pub record Progress (rate : ℕ) (bytes output₀ output : List ℕ) (s : Sender) (at count : ℕ) : Type 0 where
  pub ready : Ready mode_of s
  pub scanning : Scanning bytes at
  pub front : List ℕ
  pub counted : length front ≡ count
  pub written : output ≡ front ++ drop count output₀
  pub symbols : front ++ flatten (calls_symbols mode_of s (packets_for (chunks_of 188 (drop at bytes)))) ≡ run_symbols rate bytes

pub progress_start : (rate : ℕ) (bytes output : List ℕ) (s : Sender) → (mode_of rate).sent ≡ true → length bytes % 188 ≡ 0 → s ≡ fresh_sender rate
    → Progress rate bytes output output s 0 0
progress_start rate bytes output s h w e = record {
  ready = subst (Ready mode_of) (sym e) (ready_fresh rate (well_formed_lem rate (sent_known rate h)) h);
  scanning = scanning_start bytes w;
  front = [];
  counted = refl;
  written = refl;
  symbols =
      ap (λ (x : Sender). flatten (calls_symbols mode_of x (packets_for (chunks_of 188 bytes)))) e
      ∙ calls_on_air (packets_for (chunks_of 188 bytes)) (packet_lengths (chunks_of 188 bytes) (packets_inputs bytes)) mode_of rate (well_formed_lem rate (sent_known rate h));
}

module _ {rate : ℕ} {bytes output₀ output : List ℕ} {s : Sender} {at count : ℕ} (g : Sendable rate bytes output₀) (p : Progress rate bytes output₀ output s at count) where
  pub progress_end : length bytes ≤ at → (count ≡ length (run_symbols rate bytes)) × (output ≡ run_symbols rate bytes ++ drop (length (run_symbols rate bytes)) output₀)
  unfolding calls_symbols flatten
  progress_end h =
      let e : p.front ≡ run_symbols rate bytes =
      sym (append-nil p.front)
      ∙ ap (λ (l : List (List ℕ)). p.front ++ flatten (calls_symbols mode_of s (packets_for l))) (sym (scanning_end p.scanning h))
      ∙ p.symbols in
      let n : count ≡ length (run_symbols rate bytes) = sym p.counted ∙ ap length e in
      (n, p.written ∙ ap₂ (λ (a : List ℕ) (k : ℕ). a ++ drop k output₀) e n)

  pub progress_length : length output ≡ length output₀
  progress_length =
      let rest = flatten (calls_symbols mode_of s (packets_for (chunks_of 188 (drop at bytes)))) in
      omega (arith, ap length p.written, length-append p.front (drop count output₀), length-drop count output₀, ap length p.symbols, length-append p.front rest, p.counted, g.fits)

  pub progress_fits : count ≤ length output
  progress_fits = omega (arith, ap length p.written, length-append p.front (drop count output₀), p.counted)

  front_output : take count output ≡ p.front
  front_output = ap (take count) p.written ∙ take_at p.front (drop count output₀) count p.counted

  back_output : drop count output ≡ drop count output₀
  back_output = ap (drop count) p.written ∙ drop_at p.front (drop count output₀) count p.counted

  module _ (h : at < length bytes) where
    input : List ℕ
    input = take 188 (drop at bytes)

    packet : List ℕ
    packet = packet_for input

    -- the symbols of this packet, and those of the packets after it
    next_symbols : p.front ++ (sent_symbols mode_of s packet ++ flatten (calls_symbols mode_of (sender_after mode_of s packet) (packets_for (chunks_of 188 (drop (at + 188) bytes))))) ≡ run_symbols rate bytes
    unfolding input packet calls_symbols flatten
    next_symbols =
        ap (λ (l : List (List ℕ)). p.front ++ flatten (calls_symbols mode_of s (packets_for l))) (sym (scanning_packet p.scanning h)) ∙ p.symbols

    is_input_lem : is_input input ≡ true
    unfolding input
    is_input_lem = input_test input (inr (scanning_size p.scanning h))

    packet_sized : length packet ≡ 188
    unfolding packet
    packet_sized = packet_size input is_input_lem

    count_is : length (sent_symbols mode_of s packet) ≡ sent_count mode_of s
    count_is = symbol_count_lem s packet (ready_range s p.ready) packet_sized p.ready.formed

    fits_next : count + sent_count mode_of s ≤ length output₀
    fits_next =
        let rest = flatten (calls_symbols mode_of (sender_after mode_of s packet) (packets_for (chunks_of 188 (drop (at + 188) bytes)))) in
        omega (arith, ap length next_symbols, length-append p.front (sent_symbols mode_of s packet ++ rest), length-append (sent_symbols mode_of s packet) rest, count_is, p.counted, g.fits)

    answered : Answered mode_of s input (drop count output)
    answered =
        input_sent s input (drop count output) p.ready is_input_lem
        (omega (arith, ap length back_output, length-drop count output₀, fits_next))

    -- a call on this packet and the rest of the output
    module _ {number n : ℕ} {next : Sender} {left : List ℕ} (m : Sends mode_of s (take (at + 188 - at) (drop at bytes)) (mid_of count (length output - count) output) number n next left) where
      kept : Sends mode_of s input (drop count output) number n next left
      unfolding input
      kept =
          let k : at + 188 - at ≡ 188 = omega arith in
          subst₂ (λ (a b : List ℕ). Sends mode_of s a b number n next left) (ap (λ (j : ℕ). take j (drop at bytes)) k)
          (take_all (length output - count) (drop count output) (omega (arith, length-drop count output))) m

      pub progress_count : n ≡ sent_count mode_of s
      progress_count = kept.counted ∙ answered.count

      -- the call was not refused: its number is 0 or 15
      pub progress_sent : 0 < number → number < 15 → ⊥
      progress_sent h l = by (is_synced input) (kept.answered ∙ answered.number)
        where
          by : (b : Bool) → number ≡ pick b 0 15 → ⊥
          by true e = omega arith
          by false e = omega arith

      pub progress_total : count + n ≤ length output₀
      progress_total = omega (arith, progress_count, fits_next)

      pub progress_more : Progress rate bytes output₀ (put_mid count (length output - count) output left) next (at + 188) (count + n)
      unfolding packet
      progress_more =
          let e : next ≡ sender_after mode_of s packet = kept.sender ∙ answered.sender in
          let k : length (sent_symbols mode_of s packet) ≡ n = count_is ∙ sym progress_count in
          record {
            ready = subst (Ready mode_of) (sym e) (ready_after s packet p.ready);
            scanning = scanning_more p.scanning h;
            front = p.front ++ sent_symbols mode_of s packet;
            counted = length-append p.front (sent_symbols mode_of s packet) ∙ ap₂ (λ (a b : ℕ). a + b) p.counted k;
            written =
                ap₂ (λ (a b : List ℕ). a ++ b) front_output
                (ap (λ (l : List ℕ). left ++ l) (drop_of_length-le (drop count output) {i = length output - count} (omega (arith, length-drop count output))) ∙ append-nil left
                ∙ kept.written ∙ answered.written
                ∙ ap₂ (λ (j : ℕ) (l : List ℕ). sent_symbols mode_of s packet ++ drop j l) (sym progress_count) back_output
                ∙ ap (λ (l : List ℕ). sent_symbols mode_of s packet ++ l) (drop-drop n count output₀))
                ∙ sym (append_assoc p.front (sent_symbols mode_of s packet) (drop (count + n) output₀));
            symbols =
                ap (λ (x : Sender). (p.front ++ sent_symbols mode_of s packet) ++ flatten (calls_symbols mode_of x (packets_for (chunks_of 188 (drop (at + 188) bytes))))) e
                ∙ append_assoc p.front (sent_symbols mode_of s packet) _
                ∙ next_symbols;
          }
