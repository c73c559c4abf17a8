-- The free distance of the code, at each rate: no two sequences that lead from one memory to one are nearer, and two are as near.
-- Assumes nothing.
use mathlib.Core.Path.{◌≡◌, refl, sym, ◌∙◌, ap}
use mathlib.Core.List.{List, [], ◌∷◌, map}
use Prim.Native.Nat.{ℕ, ◌+◌, ◌*◌, ◌/◌, ◌%◌, ◌≤◌, ◌<◌}
use native.Mathlib.Omega.{arith}
use borrow.Author.Tests.{eq-eqb}
use lib.ListN.{length, get_or, replicate, length-map, length-append, length-replicate}
use Rattle.common.specs.Choice.{unequal}
use Rattle.common.proofs.Computed.{agree_at}
use Rattle.common.proofs.Lists.{zeros_at}
use Rattle.convolutional_code.specs.Bits.{Bits}
use Rattle.convolutional_code.specs.Code.{memory_after}
use Rattle.convolutional_code.proofs.Bits.{zero_bits}
use Rattle.puncturing.specs.Mode.{modes, mode_of, qpsk_count}
use Rattle.puncturing.specs.Step.{pattern_length, punctured_by, held_by}
use Rattle.inner_code.specs.Step.{symbols_of, symbols_by}
use Rattle.inner_code.specs.Encode.{coder_at}
use Rattle.branch_metrics.specs.Steps.{punctured_costs}
use Rattle.reader.specs.Cost.{differing, total_cost, hard_cost}
use Rattle.reader.proofs.Costs.{run_is}
use Rattle.reader.proofs.Patterns.{sent_whole, run_symbols_lem}
use Rattle.noise_tolerance.proofs.Difference.{weight}
use Rattle.noise_tolerance.specs.Table.{table, at_rate, free_distance}
use Rattle.noise_tolerance.proofs.Exchange.{distant}
use Rattle.noise_tolerance.proofs.Tables.{free, slope, rise, lead, lag}
use Rattle.noise_tolerance.proofs.Weights.{home, growth, potentials}
use Rattle.noise_tolerance.proofs.Runs.{steps_tell}
use Rattle.noise_tolerance.proofs.Received.{spread, spread_splits, hard_doubt, hard_kind}
use Rattle.noise_tolerance.proofs.Noise.{twice, hard_twice}
use Rattle.noise_tolerance.proofs.Sharp.{front, zeros, sent_bits, silence, last_one, binary, whole_is, one_is}

free_is : (rate : ℕ) → rate < qpsk_count → free_distance rate ≡ free rate
unfolding table at_rate free
free_is = agree_at free_distance free qpsk_count tt

equal_none : (a : ℕ) → unequal a a ≡ 0
equal_none a = rw (eq-eqb a a refl)

own_free : (ss : List ℕ) → total_cost (map differing ss) ss ≡ 0
unfolding total_cost
own_free [] = refl
own_free (s ∷ ss) = omega (arith, equal_none (s / 2), equal_none (s % 2), own_free ss)

-- two different sequences of whole patterns that lead from one memory to one have codings that differ in at least so many I and Q bits
pub free_distance_lem : (rate m : ℕ) → rate < qpsk_count → m < 64 → (xs ys : List ℕ) → Bits xs → Bits ys → length xs ≡ length ys → length xs % pattern_length rate ≡ 0
    → memory_after m xs ≡ memory_after m ys → (xs ≡ ys → ⊥) → free_distance rate ≤ hard_cost (symbols_of (coder_at rate m) xs) rate m ys
free_distance_lem rate m hr hm xs ys vx vy l whole one n =
    let ss = symbols_of (coder_at rate m) xs in
    let k = hard_kind in
    let c = spread k.part k.some ss in
    let g = spread k.part_doubt k.some ss in
    let q = sent_whole rate m hr hm xs vx whole ss refl in
    let wy : length ys % pattern_length rate ≡ 0 = ap (λ (i : ℕ). i % pattern_length rate) (sym l) ∙ whole in
    let ly : length (symbols_of (coder_at rate m) ys) ≡ length ss = run_symbols_lem rate hr (length ss) q.0 m hm ys vy (sym l ∙ q.1) in
    let a = run_is (map differing ss) c (spread_splits differing k.part k.some k.splits ss) rate m hr hm vx whole (sym (length-map ss differing)) in
    let b = run_is (map differing ss) c (spread_splits differing k.part k.some k.splits ss) rate m hr hm vy wy (ly ∙ sym (length-map ss differing)) in
    let d = run_is (map hard_doubt ss) g (spread_splits hard_doubt k.part_doubt k.some k.doubt_splits ss) rate m hr hm vx whole (sym (length-map ss hard_doubt)) in
    let f = distant (punctured_costs rate c) (punctured_costs rate g) (λ k d z. 1 * weight rate k d z)
    (steps_tell 1 c g (λ j v o hv ho. k.tells (get_or ss (j / 2) k.some) (j % 2) v o hv ho) rate) (λ k d. 1 * home rate k d) (λ k d. 1 * growth rate k d)
    (1 * free rate) (slope rate) (λ k. 1 * rise rate) (1 * lead rate) (1 * lag rate) (potentials 1 rate hr) 0 m xs ys hm vx vy l one n in
    omega (arith, f, a, b, d, twice hard_doubt differing hard_twice ss ss, own_free ss, free_is rate hr)

-- and two are as near as that
pub record AsNear (rate : ℕ) : Type 0 where
  pub one : List ℕ
  pub other : List ℕ
  pub one_bits : Bits one
  pub other_bits : Bits other
  pub as_long : length one ≡ length other
  pub whole : length one % pattern_length rate ≡ 0
  pub same_end : memory_after 0 one ≡ memory_after 0 other
  pub distinct : one ≡ other → ⊥
  pub near : hard_cost (symbols_of (coder_at rate 0) one) rate 0 other ≡ free_distance rate

near_is : (r : ℕ) → r < qpsk_count → hard_cost (symbols_of (coder_at r 0) (sent_bits r)) r 0 (silence r) ≡ free_distance r
unfolding front zeros mode_of modes symbols_by punctured_by held_by total_cost table at_rate
near_is = agree_at (λ r. hard_cost (symbols_of (coder_at r 0) (sent_bits r)) r 0 (silence r)) free_distance qpsk_count tt

end_is : (r : ℕ) → r < qpsk_count → memory_after 0 (sent_bits r) ≡ memory_after 0 (silence r)
unfolding front zeros memory_after
end_is = agree_at (λ r. memory_after 0 (sent_bits r)) (λ r. memory_after 0 (silence r)) qpsk_count tt

pub as_near : (rate : ℕ) → rate < qpsk_count → AsNear rate
as_near r hr = record {
  one = sent_bits r;
  other = silence r;
  one_bits = binary r hr;
  other_bits = zero_bits (length (front r) + zeros r);
  as_long = length-append (front r) (replicate (zeros r) 0) ∙ (ap (λ (k : ℕ). length (front r) + k) (length-replicate (zeros r) 0) ∙ sym (length-replicate (length (front r) + zeros r) 0));
  whole = whole_is r hr;
  same_end = end_is r hr;
  distinct = λ e. omega (arith, one_is r hr, ap (λ (x : List ℕ). get_or x (last_one r) 0) e, zeros_at (length (front r) + zeros r) (last_one r));
  near = near_is r hr;
}
