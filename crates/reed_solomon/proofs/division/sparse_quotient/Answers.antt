-- `reed_solomon::division::sparse_quotient` meets its contract: the first i coefficients are written.
-- Assumes nothing.
use mathlib.Core.Path.{◌≡◌, refl, subst, ◌∙◌}
use mathlib.Core.List.{List}
use Prim.Native.Nat.{ℕ, ◌+◌, ◌*◌}
use native.Mathlib.Omega.{arith}
use Rattle.reed_solomon.specs.Steps.{delays, DelayedSums}
use Rattle.reed_solomon.proofs.SparseDivision.{quotient_none, quotient_more}
use Rattle.reed_solomon.proofs.division.sparse_quotient.Goals as goal

pub loop-turn-init : goal.loop-turn-init
loop-turn-init c = (refl, quotient_none _)

pub loop-turn-preserved : goal.loop-turn-preserved
loop-turn-preserved c =
    let l = c.loop-turn in
    let i = 16 * l.turn in
    let e : i + 16 ≡ 16 * (l.turn + 1) = omega arith in (
      c.put.auto.output ∙ l.invariant.0,
      rw (← e) (quotient_more _ l.quotient _ _ i (omega arith) l.invariant.0 c.delayed_sum-v.type_inv.1.0.1 (c.put.auto.output ∙ l.invariant.0)
          (subst (λ (w : List ℕ). DelayedSums delays l.quotient (i + 84) w c.delayed_sum-v.result) c.array_at.ensures c.delayed_sum-v.ensures) c.put.ensures l.invariant.1),
    )
