-- How many symbols packets give: in all, and in each call.
-- Assumes nothing.
use mathlib.Core.Path.{◌≡◌, ap, ap₂, sym, ◌∙◌}
use mathlib.Core.Bool.{Bool}
use mathlib.Core.List.{List}
use Prim.Native.Nat.{ℕ, ◌+◌, ◌*◌, ◌/◌, ◌%◌, ◌≤◌, ◌<◌}
use native.Mathlib.Nat.{add-zero, zero-add, mod-lt, div-add-mod', mul_right_comm, mul-div_cancel}
use native.Mathlib.Omega.{arith}
use lib.Dec.{T, leb, leb→le}
use lib.ListN.{length, get_or}
use Rattle.common.proofs.Computed.{both, both_left, both_right}
use Rattle.convolutional_code.specs.Bits.{bits_of}
use Rattle.convolutional_code.proofs.Bits.{length_bits}
use Rattle.puncturing.specs.Mode.{Mode, mode_of, block_bits, block_bits_by, mode_count, longest_pattern}
use Rattle.puncturing.specs.WellFormed.{WellFormed}
use Rattle.puncturing.specs.Step.{pattern_length, symbols_in}
use Rattle.puncturing.proofs.Places.{tested_of_lem}
use Rattle.puncturing.proofs.BlockCounts.{table, block_symbols_lem}
use Rattle.puncturing.proofs.Parts.{place_after}
use Rattle.puncturing.proofs.WellFormed.{well_formed_lem}
use Rattle.inner_code.specs.Converter.{encoded_bits}
use Rattle.inner_code.specs.Step.{CoderInRange}
use Rattle.inner_code.specs.Encode.{fresh_coder, block_coder, symbol_count}
use Rattle.inner_code.specs.declared.InnerCoder.{InnerCoder}
use Rattle.inner_code.proofs.Converter.{encoded_bits_lem, length_encoded}
use Rattle.inner_code.proofs.Coder.{range_test_by, rate_known, fresh_in_range, coder_in_range_lem, coder_rate, coder_place, length_coded}
use Rattle.inner_code.proofs.Stream.{bytes_fresh}
use Rattle.sent_blocks.specs.Blocks.{sent_bytes}
use Rattle.sent_blocks.proofs.Lengths.{sent_count_lem}
use Rattle.sender.specs.Standard.{on_air}
use Rattle.sender.specs.Calls.{sender_of, fewest, most}

-- ---- in all

pub block_bits_lem : (packets : List (List ℕ)) → length (bits_of (sent_bytes packets)) ≡ 1632 * length packets
block_bits_lem packets = length_bits (sent_bytes packets) ∙ omega (arith, sent_count_lem packets)

-- the bits of them that a mode codes
coded_bits_lem : {m : Mode} → WellFormed m → (packets : List (List ℕ)) → length (encoded_bits m (sent_bytes packets)) ≡ block_bits_by m * length packets
unfolding block_bits_by
coded_bits_lem {m} w packets =
    let k = 204 / m.group in
    let n = length packets in
    let c = length m.columns in
    let groups : 204 ≡ k * m.group = sym (div-add-mod' 204 m.group) ∙ ap (λ (j : ℕ). k * m.group + j) w.whole_groups ∙ add-zero _ in
    let whole : length (sent_bytes packets) ≡ k * n * m.group
    = sent_count_lem packets ∙ ap (λ (j : ℕ). j * n) groups ∙ mul_right_comm k m.group n in
    length_encoded m (sent_bytes packets)
    ∙ ap (λ (j : ℕ). j / m.group * c) whole
    ∙ ap (λ (j : ℕ). j * c) (mul-div_cancel (k * n) w.some_group)
    ∙ mul_right_comm k n c

pub length_on_air : (rate : ℕ) → rate < mode_count → (packets : List (List ℕ)) → length (on_air (mode_of rate) packets) ≡ symbols_in rate 0 (block_bits rate * length packets)
unfolding on_air
length_on_air rate h packets =
    let w = well_formed_lem rate h in
    let bytes = sent_bytes packets in
    ap length (sym (bytes_fresh w rate bytes))
    ∙ length_coded w (fresh_coder rate) (fresh_in_range rate h) bytes
    ∙ ap (symbols_in rate 0) (coded_bits_lem w packets)

-- ---- in each call

-- the call after some packets sends the symbols that the coded bits of the next block complete, from the place in the pattern where the packets left it
call_count : (rate : ℕ) → rate < mode_count → (packets : List (List ℕ))
    → symbol_count (sender_of mode_of rate packets).coder ≡ symbols_in rate (block_bits rate * length packets % pattern_length rate) (block_bits rate)
unfolding sender_of
call_count rate h packets =
    let w = well_formed_lem rate h in
    let bytes = sent_bytes packets in
    let bits = encoded_bits (mode_of rate) bytes in
    let c = block_coder (fresh_coder rate) bytes in
    simp (range_test_by (mode_of c.rate) c (coder_in_range_lem (fresh_coder rate) (fresh_in_range rate h) (encoded_bits_lem (mode_of rate) bytes)))
    (ap₂ (λ (r p : ℕ). symbols_in r p (block_bits r)) (coder_rate (fresh_coder rate) bits)
    (coder_place (fresh_coder rate) bits
    ∙ place_after rate 0 (length bits) w.some_bits
    ∙ ap (λ (n : ℕ). n % pattern_length rate) (zero-add _ ∙ coded_bits_lem w packets)))

-- a packet gives at most a symbol for each bit
most_at : (r p : ℕ) → r < mode_count → p < pattern_length r → T (leb (get_or table (r * longest_pattern + p) 0) 1632)
unfolding table mode_of
most_at r p h k = tested_of_lem mode_count (λ r p. leb (get_or table (r * longest_pattern + p) 0) 1632) tt r p h k

pub most_symbols : (c : InnerCoder) → CoderInRange c → symbol_count c ≤ 1632
most_symbols c g =
    let h = rate_known c g in
    let e : symbol_count c ≡ symbols_in c.rate c.place (block_bits c.rate) = simp (range_test_by (mode_of c.rate) c g) in
    let b = block_symbols_lem c.rate c.place h g.place in
    let m = leb→le (get_or table (c.rate * longest_pattern + c.place) 0) 1632 (most_at c.rate c.place h g.place) in
    omega arith

-- at every place of a pattern the number is one of document 01's
within : ℕ → ℕ → Bool
within r p = both (leb (get_or fewest r 0) (get_or table (r * longest_pattern + p) 0)) (leb (get_or table (r * longest_pattern + p) 0) (get_or most r 0))

counts_within : (r p : ℕ) → r < mode_count → p < pattern_length r → T (within r p)
unfolding within table mode_of
counts_within r p h k = tested_of_lem mode_count within tt r p h k

-- so each call sends as many symbols as documents 01 and 02 say
pub call_bounds : (rate : ℕ) → rate < mode_count → (packets : List (List ℕ))
    → (get_or fewest rate 0 ≤ symbol_count (sender_of mode_of rate packets).coder) × (symbol_count (sender_of mode_of rate packets).coder ≤ get_or most rate 0)
unfolding within
call_bounds rate h packets =
    let p = block_bits rate * length packets % pattern_length rate in
    let n = get_or table (rate * longest_pattern + p) 0 in
    let in_pattern : p < pattern_length rate = mod-lt (block_bits rate * length packets) (well_formed_lem rate h).some_bits in
    let t = counts_within rate p h in_pattern in
    rw (call_count rate h packets, ← block_symbols_lem rate p h in_pattern) (
      leb→le _ _ (both_left (leb (get_or fewest rate 0) n) (leb n (get_or most rate 0)) t),
      leb→le _ _ (both_right (leb (get_or fewest rate 0) n) (leb n (get_or most rate 0)) t),
    )
