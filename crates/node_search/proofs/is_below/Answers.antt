-- `node_search::is_below` meets its contract.
-- Assumes nothing.
use mathlib.Core.Path.{refl, ◌∙◌, ap₂}
use Prim.Native.Nat.{ℕ, ◌+◌, ◌*◌}
use native.Mathlib.Omega.{arith}
use lib.Dec.{ltb}
use Rattle.node_search.proofs.Numbers.{numbers, product}
use Rattle.node_search.proofs.Tables.{cheaper_small, apart_small, cheaper_total, apart_total}
use Rattle.node_search.proofs.is_below.Goals as goal

pub total_of-floor-requires : goal.total_of-floor-requires
total_of-floor-requires c = (cheaper_small, refl, c.requires.3, omega (arith, c.requires.2, (numbers c.args.h.rate c.requires.0).tried_most))

pub total_of-weight-requires : goal.total_of-weight-requires
total_of-weight-requires c = (apart_small, refl, c.requires.3, omega (arith, c.requires.2, (numbers c.args.h.rate c.requires.0).tried_most))

pub overflow_mul-result-2 : goal.overflow_mul-result-2
overflow_mul-result-2 c = omega (arith, c.total_of-floor.ensures.1, c.requires.2, (numbers c.args.h.rate c.requires.0).tried_most)

pub overflow_mul-result-3 : goal.overflow_mul-result-3
overflow_mul-result-3 c = omega (arith, product c.threshold_of.result c.total_of-weight.result (omega (arith, c.threshold_of.ensures, (numbers c.args.h.rate c.requires.0).threshold_most)) (omega (arith, c.total_of-weight.ensures.1, c.requires.2, (numbers c.args.h.rate c.requires.0).tried_most)))

pub overflow_add-result : goal.overflow_add-result
overflow_add-result c = omega (arith, c.total_of-floor.ensures.1, c.requires.2, (numbers c.args.h.rate c.requires.0).tried_most, product c.threshold_of.result c.total_of-weight.result (omega (arith, c.threshold_of.ensures, (numbers c.args.h.rate c.requires.0).threshold_most)) (omega (arith, c.total_of-weight.ensures.1, c.requires.2, (numbers c.args.h.rate c.requires.0).tried_most)))

pub returns : goal.returns
returns c =
    record {
      cost = c.least_cost-cost.result;
      least = c.least_cost-cost.ensures.0;
      below_is =
          ap₂ (λ (x y : ℕ). ltb (10000 * c.least_cost-cost.result) (10000 * x + y)) (c.total_of-floor.ensures.0 ∙ cheaper_total c.args.pairs.now c.requires.3)
          (ap₂ (λ (t w : ℕ). t * w) c.threshold_of.ensures (c.total_of-weight.ensures.0 ∙ apart_total c.args.pairs.now c.requires.3));
    }
