-- `error_locator::eliminate` meets its contract: the first k columns are those of d times the unit matrix.
-- Assumes nothing.
use mathlib.Core.Path.{refl}
use native.Mathlib.Omega.{arith}
use Rattle.error_locator.specs.Locator.{Pivoted}
use Rattle.error_locator.proofs.KeyEquations.{kept_start, kept_more}
use borrow.Author.Rules.{rules}
use mathlib.Core.Path.{subst}
use Rattle.error_locator.proofs.eliminate.Goals as goal

pub loop-k-init : goal.loop-k-init
loop-k-init c = kept_start _ _ (search rules)

pub loop-k-preserved : goal.loop-k-preserved
loop-k-preserved c =
    let P = subst (Pivoted _ _ _ _) c.if-not-pivot.false c.pivot.ensures in
    kept_more _ _ _ _ _ _ _ _ _ (search rules) (omega arith) c.loop-k.invariant P c.clear.ensures (search rules) c.scale_row.ensures refl
