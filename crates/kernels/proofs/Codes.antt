-- A loop that codes the blocks of a buffer: what is in the output, and what is left to code.
-- Assumes nothing.
use Rattle.std.specs.Prelude.{Option, None, Some}
use mathlib.Core.Path.{◌≡◌, refl, ap, ap₂, sym, subst, ◌∙◌}
use mathlib.Core.Bool.{true}
use mathlib.Core.List.{List, [], ◌∷◌, ◌++◌, append_assoc, append-nil}
use Prim.Native.Nat.{ℕ, ◌+◌, ◌-◌, ◌*◌, ◌≤◌, ◌<◌}
use lib.Dec.{leb, leb→le}
use native.Mathlib.Omega.{arith}
use borrow.Author.Tests.{eq-eqb, le-ltb}
use borrow.Rule.Slice.PartMut.{put_mid, mid_of}
use lib.ListN.{length, take, drop, length-append, length-drop}
use lib.Seq.{length-take-le}
use Rattle.puncturing.specs.Step.{symbol_list}
use Rattle.inner_code.specs.Step.{CoderInRange, step_by, symbol_by, symbols_by, symbols_of}
use Rattle.common.specs.Lists.{chunks_of}
use Rattle.common.proofs.Computed as computed
use Rattle.common.proofs.Chunks.{chunks_whole}
use Rattle.puncturing.specs.Mode.{mode_of, block_bits, block_bits_by, mode_count}
use Rattle.inner_code.specs.Converter.{encoded_bits}
use Rattle.inner_code.specs.Encode.{fresh_coder, block_symbols_by, block_coder_by, calls_by, block_symbols, block_coder, encode_coder, encode_count, inner_encode_output}
use Rattle.inner_code.specs.declared.InnerCoder.{InnerCoder}
use Rattle.puncturing.proofs.Places.{sent_known}
use Rattle.puncturing.proofs.WellFormed.{well_formed_lem}
use Rattle.inner_code.proofs.Converter.{encoded_bits_lem, length_block_encoded}
use Rattle.inner_code.proofs.Coder.{range_test, rate_known, formed, fresh_in_range, coder_in_range_lem, coder_rate, length_symbols, length_coded}
use Rattle.inner_code.proofs.Stream.{calls_stream}
use Rattle.kernels.specs.Code.{coded_symbols}
use Rattle.kernels.proofs.Blocks.{blocks_from, blocks_end, blocks_more, put_next}

-- ---- a bit gives at most one symbol

at_most_one : (s : Option ℕ) → length (symbol_list s) ≤ 1
at_most_one None = omega arith
at_most_one (Some s) = omega arith

symbols_few : (c : InnerCoder) (bits : List ℕ) → length (symbols_of c bits) ≤ length bits
unfolding symbols_by
symbols_few c [] = omega arith
symbols_few c (b ∷ bs) =
    let r = symbols_few (step_by (mode_of c.rate) c b) bs in
    omega (arith, at_most_one (symbol_by (mode_of c.rate) c b), length-append (symbol_list (symbol_by (mode_of c.rate) c b)) (symbols_of (step_by (mode_of c.rate) c b) bs))

bits_few : (r : ℕ) → r < mode_count → block_bits r ≤ 1632
unfolding block_bits_by mode_of
bits_few r h = leb→le _ _ (computed.below_at (λ r. leb (block_bits r) 1632) mode_count tt r h)

block_few : (c : InnerCoder) → CoderInRange c → (block : List ℕ) → length block ≡ 204 → length (block_symbols c block) ≤ 1632
block_few c g block n =
    let m = mode_of c.rate in
    let bits = encoded_bits m block in
    let e : length (block_symbols c block) ≡ length (symbols_of c bits) = length_coded (formed c g) c g block ∙ sym (length_symbols c g (encoded_bits_lem m block)) in
    omega (arith, symbols_few c bits, length_block_encoded m block n, bits_few c.rate (rate_known c g))

-- ---- a call on a coder in range, with a block and room enough, is answered

encode_done : (c : InnerCoder) (block output : List ℕ) → CoderInRange c → (mode_of c.rate).sent ≡ true → length block ≡ 204 → length (block_symbols c block) ≤ length output
    → (encode_coder c block output ≡ block_coder c block)
    × (encode_count c block output ≡ length (block_symbols c block))
    × (inner_encode_output c block output ≡ block_symbols c block ++ drop (length (block_symbols c block)) output)
encode_done c block output g q n l = simp (range_test c g, q, eq-eqb _ _ n, le-ltb _ _ l) (refl, refl, refl)

-- ---- the loop

-- the symbols so far are in the output, and with those that the rest gives they are those of the whole buffer
pub record Coding (rate : ℕ) (bytes output₀ output : List ℕ) (c : InnerCoder) (at count : ℕ) : Type 0 where
  pub within : at ≤ length bytes
  pub few : count ≤ 8 * at
  pub sent : (mode_of rate).sent ≡ true
  pub rate_kept : c.rate ≡ rate
  pub range : CoderInRange c
  pub front : List ℕ
  pub counted : length front ≡ count
  pub written : output ≡ front ++ drop count output₀
  pub symbols : front ++ calls_by (mode_of rate) c (blocks_from bytes at) ≡ coded_symbols rate bytes

pub coding_start : (rate : ℕ) (bytes output : List ℕ) (c : InnerCoder) → (mode_of rate).sent ≡ true → c ≡ fresh_coder rate → Coding rate bytes output output c 0 0
unfolding coded_symbols
coding_start rate bytes output c q e = let h = sent_known rate q in record {
  sent = q;
  within = omega arith;
  few = omega arith;
  rate_kept = ap (λ (x : InnerCoder). x.rate) e;
  range = subst CoderInRange (sym e) (fresh_in_range rate h);
  front = [];
  counted = refl;
  written = refl;
  symbols =
      ap (λ (x : InnerCoder). calls_by (mode_of rate) x (chunks_of 204 bytes)) e
      ∙ calls_stream (mode_of rate) (well_formed_lem rate h) rate (chunks_of 204 bytes) (chunks_whole 204 bytes);
}

module _ {rate : ℕ} {bytes output₀ output : List ℕ} {c : InnerCoder} {at count : ℕ} (fits : 8 * length bytes ≤ length output₀) (p : Coding rate bytes output₀ output c at count) where
  pub coding_length : length output ≡ length output₀
  coding_length =
      omega (arith, ap length p.written, length-append p.front (drop count output₀), length-drop count output₀, p.counted, p.few, p.within)

  pub coding_fits : count ≤ length output
  coding_fits = omega (arith, coding_length, p.few, p.within)

  pub coding_end : length bytes - at < 204
      → (count ≡ length (coded_symbols rate bytes)) × (output ≡ coded_symbols rate bytes ++ drop (length (coded_symbols rate bytes)) output₀)
  unfolding calls_by
  coding_end h =
      let e : p.front ≡ coded_symbols rate bytes
      = sym (append-nil p.front) ∙ ap (λ (l : List (List ℕ)). p.front ++ calls_by (mode_of rate) c l) (sym (blocks_end bytes at h)) ∙ p.symbols in
      let n : count ≡ length (coded_symbols rate bytes) = sym p.counted ∙ ap length e in
      (n, p.written ∙ ap₂ (λ (a : List ℕ) (k : ℕ). a ++ drop k output₀) e n)

  module _ (h : 204 ≤ length bytes - at) where
    is : at + 204 - at ≡ 204
    is = omega arith

    -- a call on this block and the rest of the output
    module _ {next : InnerCoder} {n : ℕ} {exit : List ℕ}
        (s : next ≡ encode_coder c (take (at + 204 - at) (drop at bytes)) (mid_of count (length output - count) output))
        (m : n ≡ encode_count c (take (at + 204 - at) (drop at bytes)) (mid_of count (length output - count) output))
        (w : exit ≡ inner_encode_output c (take (at + 204 - at) (drop at bytes)) (mid_of count (length output - count) output)) where
      block : List ℕ
      block = take (at + 204 - at) (drop at bytes)

      part : List ℕ
      part = mid_of count (length output - count) output

      size : length block ≡ 204
      unfolding block
      size = length-take-le (at + 204 - at) (drop at bytes) (omega (arith, length-drop at bytes)) ∙ is

      part_size : length part ≡ length output - count
      unfolding part
      part_size = length-take-le (length output - count) (drop count output) (omega (arith, length-drop count output))

      enough : length (block_symbols c block) ≤ length part
      enough = omega (arith, block_few c p.range block size, part_size, coding_length, p.few, p.within, h)

      done : (next ≡ block_coder c block) × (n ≡ length (block_symbols c block)) × (exit ≡ block_symbols c block ++ drop (length (block_symbols c block)) part)
      unfolding block part
      done =
          let d = encode_done c block part p.range (ap (λ (r : ℕ). (mode_of r).sent) p.rate_kept ∙ p.sent) size enough in
          (s ∙ d.0, m ∙ d.1, w ∙ d.2)

      pub coding_total : count + n ≤ length output₀
      coding_total = omega (arith, done.1, enough, part_size, coding_length, coding_fits)

      pub coding_more : Coding rate bytes output₀ (put_mid count (length output - count) output exit) next (at + 204) (count + n)
      unfolding block part calls_by
      coding_more =
          let symbols : List ℕ = block_symbols c block in
          record {
            within = omega (arith, h, p.within);
            few = omega (arith, p.few, done.1, block_few c p.range block size);
            sent = p.sent;
            rate_kept = ap (λ (x : InnerCoder). x.rate) done.0 ∙ coder_rate c (encoded_bits (mode_of c.rate) block) ∙ p.rate_kept;
            range = subst CoderInRange (sym done.0) (coder_in_range_lem c p.range (encoded_bits_lem (mode_of c.rate) block));
            front = p.front ++ symbols;
            counted = length-append p.front symbols ∙ ap₂ (λ (i j : ℕ). i + j) p.counted (sym done.1);
            written =
                ap (put_mid count (length output - count) output) done.2
                ∙ put_next p.front output₀ output count p.counted p.written symbols (length output - count) enough
                ∙ ap (λ (j : ℕ). (p.front ++ symbols) ++ drop (count + j) output₀) (sym done.1);
            symbols =
                ap (λ (x : InnerCoder). (p.front ++ symbols) ++ calls_by (mode_of rate) x (blocks_from bytes (at + 204))) done.0
                ∙ append_assoc p.front symbols _
                ∙ (λ i.
                let m = mode_of (p.rate_kept i) in
                let b : List ℕ = take (is i) (drop at bytes) in
                p.front ++ (block_symbols_by m c b ++ calls_by (mode_of rate) (block_coder_by m c b) (blocks_from bytes (at + 204))))
                ∙ ap (λ (l : List (List ℕ)). p.front ++ calls_by (mode_of rate) c l) (sym (blocks_more bytes at h))
                ∙ p.symbols;
          }
