-- `season_totals::count_report` meets its contract.
-- Assumes nothing.
use mathlib.Core.Path.{◌≡◌, refl, sym, ◌∙◌}
use mathlib.Core.Bool.{true, false}
use native.Mathlib.Omega.{arith}
use Rattle.season_totals.specs.Totals.{beats}
use Rattle.report.proofs.Counting.{fits_small}
use Rattle.season_totals.proofs.count_report.Goals as goal

pub overflow_add-taken : goal.overflow_add-taken
overflow_add-taken c = omega (arith, c.requires, fits_small _ c.requires.fit)

pub overflow_add-lost : goal.overflow_add-lost
overflow_add-lost c = omega (arith, c.requires, fits_small _ c.requires.fit)

pub overflow_add-changed : goal.overflow_add-changed
overflow_add-changed c = omega (arith, c.requires, fits_small _ c.requires.fit)

pub returns-then-is_worse : goal.returns-then-is_worse
returns-then-is_worse c =
    let a = c.args in
    let e : beats a.totals a.report ≡ true = sym c.is_worse.ensures ∙ c.if-is_worse.true in
    rw (e, c.accepted_of-of.ensures) refl

pub returns : goal.returns
returns c =
    let a = c.args in
    let e : beats a.totals a.report ≡ false = sym c.is_worse.ensures ∙ c.if-is_worse.false in
    rw e refl
