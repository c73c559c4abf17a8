-- `error_correction::error_values` meets its contract: the values of the first l errors are stored.
-- Assumes nothing.
use mathlib.Core.Path.{ap, ◌∙◌, subst⁻¹}
use Prim.{tt}
use Prim.Native.Nat.{ℕ, ◌<◌}
use native.Mathlib.Omega.{arith}
use Rattle.common.proofs.Lists.{zeros_at}
use Rattle.galois.proofs.Instance.{byte}
use Rattle.error_correction.specs.Correction.{monic}
use Rattle.error_correction.proofs.ErrorValues.{value_small, value_of, value_alone}
use borrow.Author.Rules.{elem_Fits}
use mir.Syntax.{w8}
use Rattle.error_correction.proofs.error_values.Goals as goal

pub returns-then-roots-eq1 : goal.returns-then-roots-eq1
returns-then-roots-eq1 c =
    value_alone c.args.p c.args.s c.args.roots.places c.args.roots.count c.well_formed.0.1.0.1 (elem_Fits w8 w8 c.args.s _ 0 c.well_formed.1.0.1.1 tt).fits c.if-roots-eq1.true

pub returns : goal.returns
returns c =
    let u = c.loop-l.invariant in
    let f = c.value_fractions-f in
    let a = c.args in
    record {
      own = λ l h.
          ap byte (u.done l (omega arith))
          ∙ value_of (monic a.roots.count a.p) a.s a.roots.places _ _ _ _ f.ensures c.inverses.ensures c.products-values.ensures l (omega (arith, c.requires));
      small = λ l h.
          subst⁻¹ (λ (x : ℕ). x < 256) (u.done l (omega arith))
          (value_small (monic a.roots.count a.p) a.s a.roots.places _ _ _ _ f.ensures c.inverses.ensures c.products-values.ensures l (omega (arith, c.requires)));
      rest = λ l h. u.todo l (omega arith) ∙ zeros_at 16 l;
    }
