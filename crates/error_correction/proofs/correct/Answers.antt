-- `error_correction::correct` meets its contract: the errors from l on are left to do.
-- Assumes nothing.
use mathlib.Core.Path.{◌≡◌, sym, subst}
use lib.ListN.{length}
use Prim.Native.Nat.{◌+◌}
use native.Mathlib.Omega.{arith}
use Rattle.error_correction.proofs.CorrectedBlock.{Correcting, changed_fits, fixed, correcting_same, correcting_more, correcting_count, correcting_block}
use borrow.Author.Rules.{rules}
use Rattle.error_correction.proofs.correct.Goals as goal
use Rattle.error_correction.proofs.correct.Goals.{then-e-ne0, else-e-ne0}

pub overflow_add-changed : goal.overflow_add-changed
overflow_add-changed c =
    let l = c.loop-l in
    let n : length c.args.roots.degrees ≡ 16 = search rules in
    let m : length c.args.values ≡ 16 = search rules in
    record { fits = omega (arith, changed_fits _ _ _ _ _ _ _ n m c.requires.1 (omega arith) l.invariant c.if-e-ne0.true) }

pub loop-l-preserved : goal.loop-l-preserved
loop-l-preserved c =
    let l = c.loop-l in
    let n : length c.args.roots.degrees ≡ 16 = search rules in
    let m : length c.args.values ≡ 16 = search rules in
    elim c.if-e-ne0.branch [
      | then-e-ne0 w ↦ subst (λ k. Correcting c.args.block.now (fixed _ _ _ _ _ _ _ n m c.requires.1 (omega arith) l.invariant) c.args.roots.degrees c.args.values c.args.roots.count k (l.l + 1)) (sym w.changed-is)
          (correcting_more _ _ _ _ _ _ _ n m c.requires.1 (omega arith) l.invariant w.if-e-ne0.true)
      | else-e-ne0 w ↦ subst (λ k. Correcting c.args.block.now (fixed _ _ _ _ _ _ _ n m c.requires.1 (omega arith) l.invariant) c.args.roots.degrees c.args.values c.args.roots.count k (l.l + 1)) (sym w.changed-is)
          (correcting_same _ _ _ _ _ _ _ n m c.requires.1 (omega arith) l.invariant w.if-e-ne0.false)
    ]

pub returns : goal.returns
returns c =
    let l = c.loop-l in
    let n : length c.args.roots.degrees ≡ 16 = search rules in
    let m : length c.args.values ≡ 16 = search rules in
    (correcting_count _ _ _ _ _ _ _ n m c.requires.1 (search rules) l.invariant, correcting_block _ _ _ _ _ _ _ n m c.requires.1 (search rules) l.invariant)
