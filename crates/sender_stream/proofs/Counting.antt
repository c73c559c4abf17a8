-- A loop that takes from the space what each packet needs.
-- Assumes nothing.
use mathlib.Core.Path.{◌≡◌, ap, sym, ◌∙◌}
use mathlib.Core.List.{List}
use Prim.Native.Nat.{ℕ, suc, ◌+◌, ◌-◌, ◌*◌, ◌/◌, ◌%◌, ◌≤◌, ◌<◌}
use native.Mathlib.Nat.{add_comm, mod-lt, mul-zero, mul-suc}
use native.Mathlib.Omega.{arith}
use lib.ListN.{length, length-map}
use Rattle.common.specs.Lists.{chunks_of}
use Rattle.common.proofs.Chunks.{length-chunks}
use Rattle.puncturing.specs.Mode.{mode_of, block_bits, block_bits_by, mode_count}
use Rattle.puncturing.specs.Step.{pattern_length, symbols_in, count_by}
use Rattle.puncturing.proofs.Places.{agreed_of_lem}
use Rattle.puncturing.proofs.Parts.{symbols_in_append, place_after}
use Rattle.inner_code.specs.Encode.{symbol_count}
use Rattle.inner_code.proofs.Coder.{range_test_by}
use Rattle.sender.specs.Input.{packet_for, packets_for}
use Rattle.sender.proofs.Counts.{length_on_air}
use Rattle.sender_stream.specs.Run.{run_symbols}

-- the symbols of a buffer of packets
pub length_run : (rate : ℕ) → rate < mode_count → (bytes : List ℕ) → length (run_symbols rate bytes) ≡ symbols_in rate 0 (block_bits rate * (length bytes / 188))
length_run rate h bytes =
    length_on_air rate h (packets_for (chunks_of 188 bytes))
    ∙ ap (λ (n : ℕ). symbols_in rate 0 (block_bits rate * n)) (length-map (chunks_of 188 bytes) packet_for ∙ length-chunks 188 bytes)

-- a block leaves the pattern where 1,632 bits leave it
same_place : (rate place : ℕ) → rate < mode_count → place < pattern_length rate → (place + 1632) % pattern_length rate ≡ (place + block_bits rate) % pattern_length rate
unfolding block_bits_by mode_of
same_place rate place h k = agreed_of_lem mode_count (λ r p. (p + 1632) % pattern_length r) (λ r p. (p + block_bits r) % pattern_length r) tt rate place h k

-- k of n packets have been counted, from the place where the first begins and from the space, and left is what they leave
pub record Counting (rate start n space : ℕ) (place left k : ℕ) : Type 0 where
  pub known : rate < mode_count
  pub within : k ≤ n
  pub in_pattern : place < pattern_length rate
  pub balance : symbols_in rate start (block_bits rate * n) + left ≡ space + symbols_in rate place (block_bits rate * (n - k))

pub counting_start : (rate start n space : ℕ) → rate < mode_count → start < pattern_length rate → Counting rate start n space start space 0
counting_start rate start n space h p = record { known = h; within = omega arith; in_pattern = p; balance = ap (λ (m : ℕ). symbols_in rate start (block_bits rate * m) + space) (sym none) ∙ add_comm _ _ }
  where
    none : n - 0 ≡ n
    none = omega arith

module _ {rate start n space place left k : ℕ} (c : Counting rate start n space place left k) where
  pub counting_end : n ≤ k → symbols_in rate start (block_bits rate * n) ≤ space
  unfolding count_by
  counting_end h =
      let z : n - k ≡ 0 = omega (arith, c.within) in
      let e : block_bits rate * (n - k) ≡ 0 = ap (λ (j : ℕ). block_bits rate * j) z ∙ mul-zero (block_bits rate) in
      omega (arith, c.balance, ap (symbols_in rate place) e)

  module _ (h : k < n) where
    -- one packet, and those after it
    split : symbols_in rate place (block_bits rate * (n - k)) ≡ symbols_in rate place (block_bits rate) + symbols_in rate ((place + 1632) % pattern_length rate) (block_bits rate * (n - (k + 1)))
    split =
        let b = block_bits rate in
        let rest = n - (k + 1) in
        let j : n - k ≡ suc rest = omega arith in
        let e : b * (n - k) ≡ b + b * rest = ap (λ (i : ℕ). b * i) j ∙ mul-suc b rest ∙ add_comm (b * rest) b in
        ap (symbols_in rate place) e
        ∙ symbols_in_append rate place b (b * rest)
        ∙ ap (λ (p : ℕ). symbols_in rate place b + symbols_in rate p (b * rest))
        (place_after rate place b c.in_pattern ∙ sym (same_place rate place c.known c.in_pattern))

    pub counting_short : left < symbols_in rate place (block_bits rate) → space < symbols_in rate start (block_bits rate * n)
    counting_short l = omega (arith, c.balance, split)

    pub counting_more : {length needed : ℕ} → length ≡ pattern_length rate → needed ≡ symbols_in rate place (block_bits rate) → needed ≤ left
        → Counting rate start n space ((place + 1632) % length) (left - needed) (k + 1)
    counting_more {length} {needed} e f l =
        let p : (place + 1632) % pattern_length rate ≡ (place + 1632) % length = ap (λ (m : ℕ). (place + 1632) % m) (sym e) in
        record {
          known = c.known;
          within = omega arith;
          in_pattern = rw (← p) (mod-lt (place + 1632) (omega (arith, c.in_pattern)));
          balance = rw (← p) (omega (arith, c.balance, split, f));
        }

-- the need of one packet, by a coder at that place
pub needed_is : (rate place : ℕ) → rate < mode_count → place < pattern_length rate
    → symbol_count (record { rate = rate; memory = 0; place = place; held = 0 }) ≡ symbols_in rate place (block_bits rate)
needed_is rate place h p =
    simp (range_test_by (mode_of rate) (record { rate = rate; memory = 0; place = place; held = 0 }) (record { memory = omega arith; place = p; held = omega arith }))
