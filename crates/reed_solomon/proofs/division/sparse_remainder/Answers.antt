-- `reed_solomon::division::sparse_remainder` meets its contract: the first i elements are written.
-- Assumes nothing.
use mathlib.Core.Path.{◌≡◌, subst, ◌∙◌}
use mathlib.Core.List.{List}
use Prim.Native.Nat.{ℕ, ◌+◌, ◌*◌}
use native.Mathlib.Omega.{arith}
use Rattle.reed_solomon.specs.Steps.{delays, DelayedSums}
use Rattle.reed_solomon.proofs.SparseDivision.{remainder_more}
use Rattle.reed_solomon.proofs.division.sparse_remainder.Goals as goal

pub loop-turn-preserved : goal.loop-turn-preserved
loop-turn-preserved c =
    let l = c.loop-turn in
    let i = 16 * l.turn in
    let e : i + 16 ≡ 16 * (l.turn + 1) = omega arith in (
      c.put.auto.output ∙ l.invariant.0,
      rw (← e) (remainder_more _ c.args.quotient.now l.r _ _ i (omega arith) l.invariant.0 c.delayed_sum-v.type_inv.1.0.1
          (subst (λ (w : List ℕ). DelayedSums delays c.args.quotient.now (i + 212) w c.delayed_sum-v.result) c.array_at.ensures c.delayed_sum-v.ensures) c.put.ensures l.invariant.1),
    )
