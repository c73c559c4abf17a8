-- `reed_solomon::division::delayed_sum` meets its contract: after k turns the first k delays are taken.
-- Assumes nothing.
use Prim.Native.Nat.{ℕ, ◌≤◌, ◌<◌}
use native.Mathlib.Omega.{arith}
use lib.ListN.{get_or}
use Rattle.common.proofs.Lists.{All-at}
use Rattle.reed_solomon.specs.Steps.{delays}
use Rattle.reed_solomon.proofs.SparseDivision.{short, sums_none, sums_more}
use Rattle.reed_solomon.proofs.division.delayed_sum.Goals as goal

small : (k : ℕ) → k < 25 → get_or delays k 0 ≤ 84
small k h = All-at (λ d. d ≤ 84) delays 0 k short h

pub loop-delay-init : goal.loop-delay-init
loop-delay-init c = (c.well_formed.0.1.0.1, sums_none _ _ _)

pub loop-delay-preserved : goal.loop-delay-preserved
loop-delay-preserved c =
    let l = c.loop-delay in
    let k = l.delay-index in (
      c.sum-q.type_inv.1.0.1,
      sums_more delays c.args.quotient.now _ l.r c.array_at.result _ c.args.at k (omega arith) (omega (arith, small k (omega arith), c.requires.1)) l.invariant.0 c.array_at.type_inv.1.0.1 c.array_at.ensures c.sum-q.ensures l.invariant.1,
    )
