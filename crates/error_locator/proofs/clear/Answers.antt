-- `error_locator::clear` meets its contract: the rows below i are cleared in column k.
-- Assumes nothing.
use mathlib.Core.Path.{sym, ap₂, ◌∙◌, subst}
use mathlib.Core.List.{List}
use Prim.Native.Nat.{ℕ, ◌+◌, ◌*◌}
use native.Mathlib.Omega.{arith}
use lib.ListN.{get_or, replicate}
use Rattle.error_locator.specs.Locator.{combined_of, Cleared}
use Rattle.error_locator.proofs.KeyEquations.{combined_row, cleared_step_lem, cleared_skip}
use borrow.Author.Rules.{rules}
use Rattle.error_locator.proofs.clear.Goals as goal
use Rattle.error_locator.proofs.clear.Goals.{then-i-k, else-i-k}

pub loop-i-preserved : goal.loop-i-preserved
loop-i-preserved c =
    let l = c.loop-i in
    let C = l.invariant in
    let o = c.args.m.now in
    let k = c.args.k in
    let n = c.args.size in
    elim c.if-i-k.branch [
      | then-i-k w ↦ subst (λ m. Cleared o m n k (l.i + 1)) (sym w.m-is)
          (cleared_step_lem o l.m _ n k l.i c.requires.0 (omega arith) c.requires.1 w.if-i-k.true c.requires.2 (w.put.auto.output ∙ C.len)
          (combined_row o l.m _ w.combined-w.result l.i k (get_or o (k * 16 + k) 0) (get_or l.m (l.i * 16 + k) 0) (search rules) C.len (omega arith) (omega arith) C.swept.own
          (w.combined-w.ensures ∙ ap₂ (λ (a b : List ℕ). combined_of (replicate 16 (get_or o (k * 16 + k) 0)) a b (replicate 16 (get_or l.m (l.i * 16 + k) 0))) w.array_at.ensures c.array_at-row.ensures)
          w.put.ensures) C)
      | else-i-k w ↦ subst (λ m. Cleared o m n k (l.i + 1)) (sym w.m-is) (cleared_skip o l.m n k l.i (omega arith) w.if-i-k.false C)
    ]
