-- One wrong bit more than a run is promised to survive, and all of it is not given back: the numbers are best possible.
-- Assumes nothing.
use mathlib.Core.Path.{◌≡◌, refl, sym, ◌∙◌, ap}
use mathlib.Core.Bool.{Bool, true}
use mathlib.Core.List.{List, [], ◌∷◌, ◌++◌, map}
use Prim.Native.Nat.{ℕ, zero, suc, ◌+◌, ◌-◌, ◌%◌, ◌<◌, ◌≤◌}
use native.Mathlib.Omega.{arith}
use lib.Dec.{T, leb, leb→le, ltb, ltb→lt}
use lib.ListN.{length, get_or, drop, replicate, length-append, length-replicate}
use lib.Seq.{drop_at}
use Rattle.common.proofs.Lists.{zeros_at}
use Rattle.common.proofs.Computed.{both, both_left, both_right, below_at, agree_at}
use Rattle.convolutional_code.specs.Bits.{Bits, none, more}
use Rattle.convolutional_code.proofs.Bits.{bits_append, zero_bits}
use Rattle.viterbi_decoder.specs.Best.{Best, ZeroAtLast}
use Rattle.puncturing.specs.Mode.{modes, mode_of, qpsk_count}
use Rattle.puncturing.specs.Step.{pattern_length, punctured_by, held_by}
use Rattle.inner_code.specs.Step.{symbols_of, symbols_by}
use Rattle.inner_code.specs.Encode.{coder_at}
use Rattle.reader.specs.Cost.{differing, total_cost, hard_cost}
use Rattle.reader.specs.Read.{symbols_per_pattern, length_of_run, BestRead}
use Rattle.noise_tolerance.specs.Noise.{QuietEnd}
use Rattle.noise_tolerance.specs.Table.{table, at_rate, hard_limits}

-- ---- the cases

-- a path of least weight, and then so many zeros
unfoldable pub front : ℕ → List ℕ
front zero = 1 ∷ []
front (suc zero) = 0 ∷ 1 ∷ 1 ∷ 1 ∷ []
front (suc (suc zero)) = 0 ∷ 1 ∷ 1 ∷ []
front (suc (suc (suc zero))) = 0 ∷ 0 ∷ 1 ∷ 1 ∷ []
front (suc (suc (suc (suc r)))) = 0 ∷ 0 ∷ 0 ∷ 1 ∷ 1 ∷ 1 ∷ []

unfoldable pub zeros : ℕ → ℕ
zeros zero = 27
zeros (suc zero) = 32
zeros (suc (suc zero)) = 45
zeros (suc (suc (suc zero))) = 36
zeros (suc (suc (suc (suc r)))) = 64

-- so many bits were sent
abbrev pub sent_bits : ℕ → List ℕ
sent_bits rate = front rate ++ replicate (zeros rate) 0

-- the symbols that came: of the coded bits of 1, the first ones are 0
unfoldable pub harmed_front : ℕ → List ℕ
harmed_front zero = 0 ∷ 0 ∷ 0 ∷ 3 ∷ 0 ∷ 1 ∷ 3 ∷ []
harmed_front (suc zero) = 0 ∷ 0 ∷ 0 ∷ 0 ∷ 1 ∷ 0 ∷ 2 ∷ 2 ∷ []
harmed_front (suc (suc zero)) = 0 ∷ 0 ∷ 0 ∷ 0 ∷ 1 ∷ 1 ∷ []
harmed_front (suc (suc (suc zero))) = 0 ∷ 0 ∷ 0 ∷ 0 ∷ 2 ∷ 1 ∷ []
harmed_front (suc (suc (suc (suc r)))) = 0 ∷ 0 ∷ 0 ∷ 0 ∷ 0 ∷ 0 ∷ 1 ∷ []

unfoldable pub harmed_zeros : ℕ → ℕ
harmed_zeros zero = 21
harmed_zeros (suc zero) = 19
harmed_zeros (suc (suc zero)) = 26
harmed_zeros (suc (suc (suc zero))) = 18
harmed_zeros (suc (suc (suc (suc r)))) = 33

abbrev pub harmed : ℕ → List ℕ
harmed rate = harmed_front rate ++ replicate (harmed_zeros rate) 0

-- no bit is 1: as near
abbrev pub silence : ℕ → List ℕ
silence rate = replicate (length (front rate) + zeros rate) 0

-- the place of the last bit that is 1
unfoldable pub last_one : ℕ → ℕ
last_one zero = 0
last_one (suc zero) = 3
last_one (suc (suc zero)) = 2
last_one (suc (suc (suc zero))) = 3
last_one (suc (suc (suc (suc r)))) = 5

-- ---- what is computed of them

pub whole_is : (r : ℕ) → r < qpsk_count → length (sent_bits r) % pattern_length r ≡ 0
unfolding front zeros mode_of modes
whole_is = agree_at (λ r. length (sent_bits r) % pattern_length r) (λ r. 0) qpsk_count tt

size_is : (r : ℕ) → r < qpsk_count → length (harmed r) ≡ length (symbols_of (coder_at r 0) (sent_bits r))
unfolding front zeros harmed_front harmed_zeros mode_of modes symbols_by punctured_by held_by
size_is = agree_at (λ r. length (harmed r)) (λ r. length (symbols_of (coder_at r 0) (sent_bits r))) qpsk_count tt

run_is : (r : ℕ) → r < qpsk_count → length (sent_bits r) ≡ length_of_run r (harmed r)
unfolding front zeros harmed_front harmed_zeros mode_of modes symbols_per_pattern
run_is = agree_at (λ r. length (sent_bits r)) (λ r. length_of_run r (harmed r)) qpsk_count tt

wrong_is : (r : ℕ) → r < qpsk_count → hard_cost (harmed r) r 0 (sent_bits r) ≡ suc (hard_limits r).tolerated
unfolding front zeros harmed_front harmed_zeros mode_of modes symbols_by punctured_by held_by total_cost table at_rate
wrong_is = agree_at (λ r. hard_cost (harmed r) r 0 (sent_bits r)) (λ r. suc (hard_limits r).tolerated) qpsk_count tt

near_is : (r : ℕ) → r < qpsk_count → hard_cost (harmed r) r 0 (silence r) ≤ suc (hard_limits r).tolerated
unfolding front zeros harmed_front harmed_zeros mode_of modes symbols_by punctured_by held_by total_cost table at_rate
near_is r h = leb→le _ _ (below_at (λ r. leb (hard_cost (harmed r) r 0 (silence r)) (suc (hard_limits r).tolerated)) qpsk_count tt r h)

abbrev end_cost : ℕ → ℕ
end_cost r =
    total_cost (drop (length (symbols_of (coder_at r 0) (sent_bits r)) - (hard_limits r).quiet) (map differing (harmed r)))
    (drop (length (symbols_of (coder_at r 0) (sent_bits r)) - (hard_limits r).quiet) (symbols_of (coder_at r 0) (sent_bits r)))

quiet_is : (r : ℕ) → r < qpsk_count → QuietEnd (hard_limits r).quiet (map differing (harmed r)) (symbols_of (coder_at r 0) (sent_bits r))
unfolding QuietEnd front zeros harmed_front harmed_zeros mode_of modes symbols_by punctured_by held_by total_cost table at_rate
quiet_is = agree_at end_cost (λ r. 0) qpsk_count tt

last_is : (r : ℕ) → r < qpsk_count → length (front r) ≡ suc (last_one r)
unfolding front last_one
last_is = agree_at (λ r. length (front r)) (λ r. suc (last_one r)) qpsk_count tt

pub one_is : (r : ℕ) → r < qpsk_count → get_or (sent_bits r) (last_one r) 0 ≡ 1
unfolding front zeros last_one
one_is = agree_at (λ r. get_or (sent_bits r) (last_one r) 0) (λ r. 1) qpsk_count tt

abbrev all_bits : List ℕ → Bool
all_bits [] = true
all_bits (b ∷ l) = both (ltb b 2) (all_bits l)

bits_if : (l : List ℕ) → T (all_bits l) → Bits l
bits_if [] t = none
bits_if (b ∷ l) t = more (ltb→lt b 2 (both_left (ltb b 2) (all_bits l) t)) (bits_if l (both_right (ltb b 2) (all_bits l) t))

front_bits : (r : ℕ) → r < qpsk_count → Bits (front r)
unfolding front
front_bits r h = bits_if (front r) (below_at (λ r. all_bits (front r)) qpsk_count tt r h)

-- ---- not given back

drop_zeros : (a b : ℕ) → drop a (replicate {A = ℕ} (a + b) 0) ≡ replicate b 0
drop_zeros zero b = let e : 0 + b ≡ b = omega arith in rw e refl
drop_zeros (suc a) b = let e : suc a + b ≡ suc (a + b) = omega arith in rw e (drop_zeros a b)

module _ (r : ℕ) (hr : r < qpsk_count) where
  pub binary : Bits (sent_bits r)
  binary = bits_append (front_bits r hr) (zero_bits (zeros r))

  silent_size : length (silence r) ≡ length_of_run r (harmed r)
  silent_size = length-replicate (length (front r) + zeros r) 0 ∙ (sym (length-append (front r) (replicate (zeros r) 0) ∙ ap (λ (k : ℕ). length (front r) + k) (length-replicate (zeros r) 0)) ∙ run_is r hr)

  behind : drop (suc (last_one r)) (sent_bits r) ≡ drop (suc (last_one r)) (silence r)
  behind =
      ap (λ (k : ℕ). drop k (sent_bits r)) (sym (last_is r hr))
      ∙ (drop_at (front r) (replicate (zeros r) 0) (length (front r)) refl
      ∙ (sym (drop_zeros (length (front r)) (zeros r)) ∙ ap (λ (k : ℕ). drop k (silence r)) (last_is r hr)))

  never_given : {best : List ℕ} → Best (hard_cost (harmed r) r 0) (length_of_run r (harmed r)) best → best ≡ sent_bits r → ⊥
  unfolding ZeroAtLast
  never_given {best} b e =
      let c : hard_cost (harmed r) r 0 best ≡ suc (hard_limits r).tolerated = ap (hard_cost (harmed r) r 0) e ∙ wrong_is r hr in
      let v = zero_bits (length (front r) + zeros r) in
      let l = b.least (silence r) v silent_size in
      let same : hard_cost (harmed r) r 0 best ≡ hard_cost (harmed r) r 0 (silence r) = omega (arith, c, l, near_is r hr) in
      let one : get_or best (last_one r) 0 ≡ 1 = ap (λ (x : List ℕ). get_or x (last_one r) 0) e ∙ one_is r hr in
      let zero' : get_or (silence r) (last_one r) 0 ≡ 0 = zeros_at (length (front r) + zeros r) (last_one r) in
      let q : get_or best (last_one r) 0 ≡ 0 =
      b.ties (silence r) v silent_size same (last_one r) (ap (drop (suc (last_one r))) e ∙ behind) (λ p. omega (arith, one, zero', p)) in
      omega (arith, one, q)

-- A run with one wrong bit more than is promised, all of them at its start and its end unharmed, that no call gives back.
pub record OneMore (rate : ℕ) : Type 0 where
  pub bits : List ℕ
  pub binary_bits : Bits bits
  pub whole : length bits % pattern_length rate ≡ 0
  pub received : List ℕ
  pub size : length received ≡ length (symbols_of (coder_at rate 0) bits)
  pub wrong : hard_cost received rate 0 bits ≡ suc (hard_limits rate).tolerated
  pub quiet : QuietEnd (hard_limits rate).quiet (map differing received) (symbols_of (coder_at rate 0) bits)
  pub lost : {output : List ℕ} {after total count : ℕ} {left : List ℕ} → (o : BestRead (hard_cost received rate 0) (length_of_run rate received) 0 output after total count left)
      → o.bits ≡ bits → ⊥

pub one_more : (rate : ℕ) → rate < qpsk_count → OneMore rate
one_more r hr = record {
  bits = sent_bits r;
  binary_bits = binary r hr;
  whole = whole_is r hr;
  received = harmed r;
  size = size_is r hr;
  wrong = wrong_is r hr;
  quiet = quiet_is r hr;
  lost = λ o. never_given r hr o.decoded.best;
}
