-- `error_locator::modified` meets its contract: the places from l on are done.
-- Assumes nothing.
use mathlib.Core.Path.{◌≡◌, refl, sym, ap, ◌∙◌, subst}
use mathlib.Core.List.{List}
use Prim.Native.Nat.{ℕ, ◌-◌}
use Rattle.algebra.specs.Polynomial.{plus}
use Rattle.galois.specs.Field256.{numbers}
use Rattle.error_locator.proofs.ModifiedSyndromes.{ModifiedTo, modified_none, next, modified_more}
use borrow.Author.Rules.{rules}
use Rattle.error_locator.proofs.modified.Goals as goal

pub loop-l-init : goal.loop-l-init
loop-l-init c = modified_none _ _ _ c.well_formed.0.1.0.1 refl

pub loop-l-preserved : goal.loop-l-preserved
loop-l-preserved c =
    let l = c.loop-l in
    let rs = c.args.places.now in
    let n = c.lowered.type_inv.1.0.1 in
    let e : c.sum-next.result ≡ next c.args.s rs l.t c.lowered.result l.l (search rules) n c.lowered.ensures l.invariant =
    c.sum-next.ensures ∙ ap (λ (a : List ℕ). plus numbers a c.lowered.result) c.scale.ensures in
    subst (λ (q : List ℕ). ModifiedTo c.args.s rs q (l.l - 1)) (sym e) (modified_more c.args.s rs l.t c.lowered.result l.l (search rules) n c.lowered.ensures l.invariant)
