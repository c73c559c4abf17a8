-- `season_totals::is_worse` meets its contract.
-- Assumes nothing.
use mathlib.Core.Path.{◌≡◌, refl, sym, ap, ap₂, ◌∙◌}
use Prim.Native.Nat.{ℕ, ◌*◌}
use lib.Dec.{ltb}
use lib.ListN.{get_or}
use borrow.Author.Tests.{eq-eqb, ne_eqb}
use Rattle.season_totals.specs.Totals.{accepted}
use Rattle.season_totals.proofs.is_worse.Goals as goal

pub returns-then-own-eq0 : goal.returns-then-own-eq0
returns-then-own-eq0 c =
    let e : accepted c.args.report ≡ 0 = sym c.accepted_of-own.ensures ∙ c.if-own-eq0.true in
    rw (eq-eqb _ _ e) refl

pub returns-then-worst-eq0 : goal.returns-then-worst-eq0
returns-then-worst-eq0 c =
    let e : accepted c.args.report ≡ 0 → ⊥ = λ z. c.if-own-eq0.false (c.accepted_of-own.ensures ∙ z) in
    rw (ne_eqb _ _ e, eq-eqb _ _ c.if-worst-eq0.true) refl

pub returns : goal.returns
returns c =
    let a = c.args in
    let g = c.accepted_of-own.ensures in
    let e : accepted a.report ≡ 0 → ⊥ = λ z. c.if-own-eq0.false (g ∙ z) in
    rw (ne_eqb _ _ e, ne_eqb _ _ c.if-worst-eq0.false)
    (c.below.ensures ∙ ap₂ (λ (m n : ℕ). ltb m n) (c.product.ensures ∙ ap (λ (n : ℕ). get_or a.totals 5 0 * n) g) c.product-2.ensures)
