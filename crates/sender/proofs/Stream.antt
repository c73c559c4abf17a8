-- A fresh sender, call after call, sends what the standard says for the whole list of packets, in any mode that is well formed.
-- Assumes nothing.
use mathlib.Core.Path.{◌≡◌, refl, ap, sym, subst, ◌∙◌}
use mathlib.Core.List.{List, [], ◌∷◌, ◌++◌, map, flatten}
use Prim.Native.Nat.{ℕ, suc, ◌+◌, ◌%◌}
use native.Mathlib.Nat.{zero-add}
use native.Mathlib.Omega.{arith}
use lib.ListN.{length}
use Rattle.common.specs.Lists.{All, Length}
use Rattle.reed_solomon.specs.Encode.{encoded}
use Rattle.randomizer.specs.Packet.{randomized}
use Rattle.randomizer.specs.Stream.{randomized_from}
use Rattle.randomizer.proofs.Whole.{randomized_stream_lem}
use Rattle.interleaver.specs.Block.{fresh, block_out, branches_after}
use Rattle.interleaver.specs.declared.branches.Side.TheVariants.{Sending}
use Rattle.interleaver.specs.Stream.{interleaved, run, run_after}
use Rattle.interleaver.proofs.Whole.{run_delayed}
use Rattle.interleaver.proofs.Blocks.{length_out}
use Rattle.puncturing.specs.Mode.{Mode}
use Rattle.puncturing.specs.WellFormed.{WellFormed}
use Rattle.inner_code.specs.Step.{InRangeBy, coder_by}
use Rattle.inner_code.specs.Encode as inner
use Rattle.inner_code.proofs.Converter.{encoded_bits_lem, encoded_empty}
use Rattle.inner_code.proofs.Coder.{fresh_in_range_by, coder_in_range_by, block_coder_append}
use Rattle.inner_code.proofs.Stream.{calls_stream}
use Rattle.sent_blocks.specs.Blocks.{coded_blocks, interleaved_blocks}
use Rattle.sent_blocks.proofs.Lengths.{interleaved_whole}
use Rattle.sender.specs.Standard.{on_air}
use Rattle.sender.specs.Send.{fresh_sender, coded_packet, sent_block, sent_symbols, sender_after}
use Rattle.sender.specs.Calls.{calls_symbols, calls_sender, sender_of}
use Rattle.sender.specs.declared.Sender.{Sender}
use Rattle.sender.proofs.Ready.{rate_after}

-- the blocks that enter the interleaver, from packet n of the stream on
blocks : ℕ → List (List ℕ) → List (List ℕ)
blocks n packets = map encoded (randomized_from n packets)

-- the place after packet n
next_place : (place n : ℕ) → place ≡ n % 8 → (place + 1) % 8 ≡ (n + 1) % 8
next_place place n e = omega arith

-- the first block, randomized at the sender's place
first : (s : Sender) (n : ℕ) (p : List ℕ) → s.place ≡ n % 8 → coded_packet s p ≡ encoded (randomized (n % 8) p)
first s n p e = ap (λ (k : ℕ). encoded (randomized k p)) e

-- The stages one by one: each takes the whole list before the next one does. The mode is that of the number that the coder holds, which stays.
module _ {m : Mode} (w : WellFormed m) (t : ℕ → Mode) where
  by_stages : (s : Sender) (n : ℕ) (packets : List (List ℕ)) → t s.coder.rate ≡ m → s.place ≡ n % 8
      → flatten (calls_symbols t s packets) ≡ inner.calls_by m s.coder (run Sending s.interleaver.branches (blocks n packets))
  unfolding calls_symbols flatten inner.calls_by run randomized_from sent_symbols sent_block sender_after blocks
  by_stages s n [] f e = refl
  by_stages s n (p ∷ ps) f e =
      ap (λ (l : List ℕ). sent_symbols t s p ++ l)
      (by_stages (sender_after t s p) (n + 1) ps (ap t (rate_after t s p) ∙ f) (next_place s.place n e))
      ∙ (λ i.
      let b = first s n p e i in
      let o = block_out Sending s.interleaver.branches b in
      inner.block_symbols_by (f i) s.coder o
      ++ inner.calls_by m (inner.block_coder_by (f i) s.coder o) (run Sending (branches_after Sending s.interleaver.branches b) (blocks (n + 1) ps)))

  -- the state of each stage
  state_by_stages : (s : Sender) (n : ℕ) (packets : List (List ℕ)) → t s.coder.rate ≡ m → InRangeBy m s.coder → s.place ≡ n % 8
      → calls_sender t s packets
      ≡ record {
        place = (n + length packets) % 8;
        interleaver = record { branches = run_after Sending s.interleaver.branches (blocks n packets) };
        coder = inner.block_coder_by m s.coder (flatten (run Sending s.interleaver.branches (blocks n packets)));
      }
  unfolding calls_sender flatten run run_after randomized_from sent_block sender_after blocks coder_by
  state_by_stages s n [] f g e =
      let k : s.place ≡ (n + 0) % 8 = omega arith in
      λ i. record { place = k i; interleaver = s.interleaver; coder = coder_by m s.coder (sym (encoded_empty m) i) }
  state_by_stages s n (p ∷ ps) f g e =
      let k : (n + 1 + length ps) % 8 ≡ (n + suc (length ps)) % 8 = omega arith in
      state_by_stages (sender_after t s p) (n + 1) ps (ap t (rate_after t s p) ∙ f)
      (subst (λ (x : Mode). InRangeBy m (inner.block_coder_by x s.coder (sent_block s p))) (sym f) (coder_in_range_by w s.coder g (encoded_bits_lem m (sent_block s p))))
      (next_place s.place n e)
      ∙ (λ i.
      let b = first s n p e i in
      let o = block_out Sending s.interleaver.branches b in
      let a = branches_after Sending s.interleaver.branches b in
      record {
        place = k i;
        interleaver = record { branches = run_after Sending a (blocks (n + 1) ps) };
        coder = inner.block_coder_by m (inner.block_coder_by (f i) s.coder o) (flatten (run Sending a (blocks (n + 1) ps)));
      })
      ∙ (λ i.
      let b = encoded (randomized (n % 8) p) in
      let a = branches_after Sending s.interleaver.branches b in
      record {
        place = (n + suc (length ps)) % 8;
        interleaver = record { branches = run_after Sending a (blocks (n + 1) ps) };
        coder =
            sym
            (block_coder_append w s.coder g (block_out Sending s.interleaver.branches b) (flatten (run Sending a (blocks (n + 1) ps)))
            (ap (λ (j : ℕ). j % m.group) (length_out Sending s.interleaver.branches b) ∙ w.whole_groups))
            i;
      })

module _ (packets : List (List ℕ)) (g : All (Length 188) packets) where
  -- the blocks of the standard
  blocks_are : blocks 0 packets ≡ coded_blocks packets
  unfolding blocks
  blocks_are = ap (map encoded) (randomized_stream_lem packets g)

  interleaved_are : run Sending fresh (blocks 0 packets) ≡ interleaved_blocks packets
  interleaved_are = run_delayed Sending (blocks 0 packets) ∙ ap interleaved blocks_are

  -- Demand 2, of the sending side, in any mode that is well formed, at whatever number of whatever table: the symbols of the calls are those of the
  -- standard
  module _ (t : ℕ → Mode) (rate : ℕ) (w : WellFormed (t rate)) where
    pub calls_on_air : flatten (calls_symbols t (fresh_sender rate) packets) ≡ on_air (t rate) packets
    unfolding fresh_sender on_air
    calls_on_air =
        by_stages w t (fresh_sender rate) 0 packets refl refl
        ∙ ap (inner.calls_by (t rate) (inner.fresh_coder rate)) interleaved_are
        ∙ calls_stream (t rate) w rate (interleaved_blocks packets) (interleaved_whole packets)

    -- and the sender after them
    pub calls_sender_lem : calls_sender t (fresh_sender rate) packets ≡ sender_of t rate packets
    unfolding fresh_sender sender_of
    calls_sender_lem =
        state_by_stages w t (fresh_sender rate) 0 packets refl (fresh_in_range_by w rate) refl
        ∙ (λ i. record {
          place = ap (λ (k : ℕ). k % 8) (zero-add (length packets)) i;
          interleaver = record { branches = run_after Sending fresh (blocks_are i) };
          coder = inner.block_coder_by (t rate) (inner.fresh_coder rate) (flatten (interleaved_are i));
        })
