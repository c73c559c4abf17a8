-- Runs of whole patterns: how many symbols they have, and the coder after them.
-- Assumes nothing.
use mathlib.Core.Path.{◌≡◌, refl, ◌∙◌, ap, sym}
use mathlib.Core.List.{List, flatten}
use Prim.Native.Nat.{ℕ, zero, suc, ◌+◌, ◌/◌, ◌%◌, ◌≤◌, ◌<◌, ◌*◌}
use native.Mathlib.Omega.{arith}
use native.Mathlib.Nat.{zero-add, add-zero, add-suc, mul-zero, mul-suc, mul-mod_right, mul-add-mod_self_left, mul-le-mul_right, mul-div_right, div-add-mod}
use lib.Dec.{leb, leb→le, ltb, ltb→lt}
use lib.ListN.{length}
use Rattle.common.proofs.Computed as computed
use Rattle.convolutional_code.specs.Bits.{Bits}
use Rattle.convolutional_code.specs.Code.{memory_after}
use Rattle.puncturing.specs.Mode.{mode_of, qpsk_count}
use Rattle.puncturing.specs.Step.{pattern_length, held_count, symbols_in}
use Rattle.puncturing.proofs.Steps.{some_bits}
use Rattle.puncturing.proofs.Parts.{place_after, none_held, whole_count_lem}
use Rattle.inner_code.specs.Step.{CoderInRange, symbols_of, coder_after}
use Rattle.inner_code.specs.declared.InnerCoder.{InnerCoder}
use Rattle.inner_code.proofs.Coder.{coder_rate, coder_memory, coder_place, coder_in_range_lem, length_symbols}
use Rattle.branch_metrics.specs.Steps.{kind, first}
use Rattle.inner_code.specs.Encode.{coder_at}
use Rattle.reader.specs.Read.{symbols_per_pattern, run_bits, length_of_run}

pub at_start : (rate m : ℕ) → rate < qpsk_count → m < 64 → CoderInRange (coder_at rate m)
at_start rate m hr hm = record { memory = hm; place = some_bits rate hr; held = omega arith }

-- a pattern has symbols, and no more than bits
pub some_symbols : (rate : ℕ) → rate < qpsk_count → 0 < symbols_per_pattern rate
unfolding symbols_per_pattern mode_of
some_symbols rate h = ltb→lt _ _ (computed.below_at (λ r. ltb 0 (symbols_per_pattern r)) qpsk_count tt rate h)

symbols_le : (rate : ℕ) → rate < qpsk_count → symbols_per_pattern rate ≤ pattern_length rate
unfolding symbols_per_pattern mode_of
symbols_le rate h = leb→le _ _ (computed.below_at (λ r. leb (symbols_per_pattern r) (pattern_length r)) qpsk_count tt rate h)

-- ---- the coded bits of whole patterns

first_shift : (rate q j : ℕ) → first rate (pattern_length rate * q + j) ≡ first rate (pattern_length rate * q) + first rate j
unfolding first
first_shift rate q zero = rw add-zero (omega arith)
first_shift rate q (suc j) =
    let p = pattern_length rate in
    let e : (p * q + j) % p ≡ j % p = mul-add-mod_self_left p q j in
    rw (add-suc, e) (omega (arith, first_shift rate q j))

first_pattern : (rate : ℕ) → rate < qpsk_count → first rate (pattern_length rate) ≡ 2 * symbols_per_pattern rate
unfolding first kind symbols_per_pattern mode_of flatten
first_pattern rate h = computed.agree_at (λ r. first r (pattern_length r)) (λ r. 2 * symbols_per_pattern r) qpsk_count tt rate h

first_whole : (rate : ℕ) → rate < qpsk_count → (q : ℕ) → first rate (pattern_length rate * q) ≡ 2 * (symbols_per_pattern rate * q)
unfolding first
first_whole rate hr zero = rw (mul-zero (pattern_length rate), mul-zero (symbols_per_pattern rate)) refl
first_whole rate hr (suc q) =
    let p = pattern_length rate in
    ap (first rate) (mul-suc p q) ∙ (first_shift rate q p ∙ omega (arith, first_whole rate hr q, first_pattern rate hr, mul-suc (symbols_per_pattern rate) q))

-- ---- the coder

-- the coder after whole patterns stands at the start of one, with the memory of the bits
pub coder_whole : (rate m : ℕ) {bits : List ℕ} → rate < qpsk_count → m < 64 → Bits bits → length bits % pattern_length rate ≡ 0
    → coder_after (coder_at rate m) bits ≡ coder_at rate (memory_after m bits)
coder_whole rate m {bits} hr hm w e =
    let c : InnerCoder = coder_at rate m in
    let p : (coder_after c bits).place ≡ 0 = coder_place c bits ∙ (place_after rate 0 (length bits) (some_bits rate hr) ∙ (ap (λ (n : ℕ). n % pattern_length rate) (zero-add (length bits)) ∙ e)) in
    let g = (coder_in_range_lem c (at_start rate m hr hm) w).held in
    let z : held_count (coder_after c bits).rate (coder_after c bits).place ≡ 0 =
    (λ i. held_count (coder_rate c bits i) (p i)) ∙ none_held rate hr in
    let q : (coder_after c bits).held ≡ 0 = omega arith in
    λ i. record { rate = coder_rate c bits i; memory = coder_memory c bits i; place = p i; held = q i }

pub memory_in_range : (rate m : ℕ) {bits : List ℕ} → rate < qpsk_count → m < 64 → Bits bits → memory_after m bits < 64
memory_in_range rate m {bits} hr hm w = rw (← coder_memory (coder_at rate m) bits) (coder_in_range_lem (coder_at rate m) (at_start rate m hr hm) w).memory

-- so many symbols as k are
module _ (rate : ℕ) (hr : rate < qpsk_count) (k : ℕ) where
  abbrev n : ℕ
  n = run_bits rate k

  pub run_whole : n % pattern_length rate ≡ 0
  run_whole = mul-mod_right (pattern_length rate) (k / symbols_per_pattern rate)

  module _ (whole : k % symbols_per_pattern rate ≡ 0) where
    patterns : symbols_per_pattern rate * (k / symbols_per_pattern rate) ≡ k
    patterns = omega (arith, div-add-mod k (symbols_per_pattern rate))

    counted : symbols_in rate 0 n ≡ k
    unfolding symbols_per_pattern
    counted = whole_count_lem rate (k / symbols_per_pattern rate) hr ∙ patterns

    -- every sequence of that length is coded to as many symbols
    pub run_symbols_lem : (m : ℕ) → m < 64 → (bits : List ℕ) → Bits bits → length bits ≡ n → length (symbols_of (coder_at rate m) bits) ≡ k
    run_symbols_lem m hm bits w l = length_symbols (coder_at rate m) (at_start rate m hr hm) w ∙ (ap (symbols_in rate 0) l ∙ counted)

    -- which are no more than the bits
    pub symbols_few : k ≤ n
    symbols_few = omega (arith, div-add-mod k (symbols_per_pattern rate), mul-le-mul_right (k / symbols_per_pattern rate) (symbols_le rate hr))

    -- and have two coded bits each
    pub coded_bits_lem : first rate n ≡ 2 * k
    coded_bits_lem = first_whole rate hr (k / symbols_per_pattern rate) ∙ ap (λ (j : ℕ). 2 * j) patterns

-- the symbols of whole patterns of bits are whole patterns, of as many bits
pub sent_whole : (rate m : ℕ) → rate < qpsk_count → m < 64 → (bits : List ℕ) → Bits bits → length bits % pattern_length rate ≡ 0 → (ss : List ℕ) → ss ≡ symbols_of (coder_at rate m) bits
    → (length ss % symbols_per_pattern rate ≡ 0) × (length bits ≡ length_of_run rate ss)
unfolding symbols_per_pattern
sent_whole rate m hr hm bits w e ss es =
    let p = pattern_length rate in
    let s = symbols_per_pattern rate in
    let q = length bits / p in
    let b : length bits ≡ p * q = omega (arith, div-add-mod (length bits) p) in
    let l : length ss ≡ s * q = ap length es ∙ (length_symbols (coder_at rate m) (at_start rate m hr hm) w ∙ (ap (symbols_in rate 0) b ∙ whole_count_lem rate q hr)) in (
      ap (λ (k : ℕ). k % s) l ∙ mul-mod_right s q,
      b ∙ ap (λ (k : ℕ). p * k) (sym (ap (λ (k : ℕ). k / s) l ∙ mul-div_right q (some_symbols rate hr))),
    )
