-- Whatever was received, a run has a best sequence.
-- Assumes nothing.
use mathlib.Core.Path.{◌≡◌, sym, ◌∙◌, ap}
use mathlib.Core.List.{List}
use Prim.Native.Nat.{ℕ, zero, suc, ◌+◌, ◌%◌, ◌≤◌, ◌<◌}
use native.Mathlib.Omega.{arith}
use lib.ListN.{length}
use Rattle.convolutional_code.specs.Bits.{Bits}
use Rattle.convolutional_code.specs.Code.{taps_x, taps_y, coded}
use Rattle.convolutional_code.specs.Costs.{cost_from}
use Rattle.viterbi_decoder.proofs.Ends.{SomeDecoded, some_decoded}
use Rattle.viterbi_decoder.proofs.Laws.{decoded_same}
use Rattle.puncturing.specs.Mode.{qpsk_count}
use Rattle.puncturing.specs.Step.{pattern_length}
use Rattle.branch_metrics.specs.Steps.{kind_cost, kind_at, first, punctured_costs}
use Rattle.reader.specs.Cost.{run_cost}
use Rattle.reader.specs.Read.{symbols_per_pattern, run_bits}
use Rattle.reader.proofs.Patterns.{run_whole, run_symbols_lem}
use Rattle.reader.proofs.Costs.{Splits, run_is}

-- each received symbol costs what its I and its Q do, where `c j v` is what deciding place j as v costs
module _ (costs : List (ℕ → ℕ)) (c : ℕ → ℕ → ℕ) (splits : Splits costs c 0) (rate m : ℕ) (hr : rate < qpsk_count) (hm : m < 64) (k : ℕ) (size : k ≡ length costs)
    (whole : k % symbols_per_pattern rate ≡ 0) where
  pub steps_cost : (ys : List ℕ) → Bits ys → length ys ≡ run_bits rate k → cost_from (punctured_costs rate c) 0 m ys ≡ run_cost costs rate m ys
  steps_cost ys v l =
      sym (run_is costs c splits rate m hr hm v (ap (λ (j : ℕ). j % pattern_length rate) l ∙ run_whole rate hr k) (run_symbols_lem rate hr k whole m hm ys v l ∙ size))

  module _ (small : (j v : ℕ) → c j v ≤ 7) where
    kind_le : (q j x y : ℕ) → kind_cost c q j x y ≤ 14
    kind_le zero j x y = omega arith
    kind_le (suc zero) j x y = omega (arith, small j y)
    kind_le (suc (suc zero)) j x y = omega (arith, small j x)
    kind_le (suc (suc (suc q))) j x y = omega (arith, small j x, small (j + 1) y)

    pub some_best : SomeDecoded (run_cost costs rate m) (run_bits rate k) m
    unfolding punctured_costs
    some_best =
        let d = some_decoded (punctured_costs rate c) (λ j s b. kind_le (kind_at rate j) (first rate j) (coded taps_x s b) (coded taps_y s b)) m (run_bits rate k) hm in
        record { bits = d.bits; total = d.total; after = d.after; decoded = decoded_same (run_bits rate k) m steps_cost d.decoded }
