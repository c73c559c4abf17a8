-- `error_correction::root_product` meets its contract: p is the product over the places from l on.
-- Assumes nothing.
use mathlib.Core.Path.{◌≡◌, refl, sym, ap₂, ◌∙◌, subst}
use mathlib.Core.List.{List}
use Prim.Native.Nat.{ℕ, ◌-◌}
use Rattle.algebra.specs.Polynomial.{plus}
use Rattle.galois.specs.Field256.{numbers}
use Rattle.error_correction.proofs.ErrorValues.{Multiplied, multiplied_none, multiplied, multiplied_more}
use borrow.Author.Rules.{rules}
use Rattle.error_correction.proofs.root_product.Goals as goal

pub loop-l-init : goal.loop-l-init
loop-l-init c = multiplied_none _ _ refl

pub loop-l-preserved : goal.loop-l-preserved
loop-l-preserved c =
    let l = c.loop-l in
    let rs = c.args.places.now in
    let e : c.sum-q.result ≡ multiplied rs l.p l.l c.requires l.invariant (search rules) = c.sum-q.ensures ∙ ap₂ (plus numbers) c.scale.ensures c.raised.ensures in
    subst (λ (q : List ℕ). Multiplied rs q (l.l - 1)) (sym e) (multiplied_more rs l.p l.l c.requires l.invariant (search rules))
