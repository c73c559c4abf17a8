-- What the decoder gives of the spread decisions is what reading the run means.
-- Assumes nothing.
use mathlib.Core.Path.{◌≡◌, sym, ◌∙◌, ap}
use mathlib.Core.List.{List}
use Prim.Native.Nat.{ℕ, ◌%◌, ◌<◌}
use native.Mathlib.Omega.{arith}
use lib.ListN.{length, get_or}
use Rattle.convolutional_code.specs.Bits.{Bits}
use Rattle.convolutional_code.specs.Costs.{cost_from, step_costs, Pairs}
use Rattle.viterbi_decoder.specs.Best.{Decoded}
use Rattle.viterbi_decoder.proofs.Laws.{decoded_same}
use Rattle.puncturing.specs.Mode.{qpsk_count}
use Rattle.puncturing.specs.Step.{pattern_length}
use Rattle.branch_metrics.specs.Steps.{punctured_costs, coded_cost, run_step}
use Rattle.branch_metrics.proofs.Facts.{steps_are, cost_same}
use Rattle.inner_code.specs.Step.{symbols_of}
use Rattle.inner_code.specs.Encode.{coder_at}
use Rattle.reader.specs.Cost.{run_cost}
use Rattle.reader.proofs.Costs.{Splits, run_is}

pub read : (costs : List (ℕ → ℕ)) (l steps : List ℕ) (rate m n : ℕ) → Splits costs (coded_cost l) 0 → Pairs l → rate < qpsk_count → m < 64 → n % pattern_length rate ≡ 0
    → ((ys : List ℕ) → Bits ys → length ys ≡ n → length (symbols_of (coder_at rate m) ys) ≡ length costs)
    → ((t : ℕ) → t < n → get_or steps t 0 ≡ run_step l rate t)
    → {bits : List ℕ} {total after : ℕ} → Decoded (cost_from (step_costs steps) 0 m) n m bits total after → Decoded (run_cost costs rate m) n m bits total after
read costs l steps rate m n sp pairs hr hm whole sized spread =
    decoded_same n m
    (λ ys w e.
    cost_same (step_costs steps) (punctured_costs rate (coded_cost l)) 0 m ys (λ j s b h. steps_are l pairs steps rate n spread j s b (omega arith))
    ∙ sym (run_is costs (coded_cost l) sp rate m hr hm w (ap (λ (k : ℕ). k % pattern_length rate) e ∙ whole) (sized ys w e)))
