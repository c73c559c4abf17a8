-- `branch_metrics::soft_decision::sixteen_pairs` meets its contract.
-- Assumes nothing.
use mathlib.Core.Path.{◌∙◌, ap₂}
use Prim.Native.Nat.{ℕ, ◌+◌, ◌*◌}
use lib.Ieee.{nan}
use lib.ListN.{get_or}
use Rattle.branch_metrics.proofs.Runs.{place_pair}
use Rattle.branch_metrics.proofs.soft_decision.sixteen_pairs.Goals as goal

pub returns : goal.returns
returns c =
    λ k h.
    c.paired.ensures k h
    ∙ ap₂ (λ (i q : ℕ). 9 * i + q) (c.sixteen_decisions-a.ensures k h).0 (c.sixteen_decisions-b.ensures k h).0
    ∙ place_pair (get_or c.args.is.now (c.args.at + k) nan) (get_or c.args.qs.now (c.args.at + k) nan) (get_or c.args.lost.now (c.args.at + k) 0)
