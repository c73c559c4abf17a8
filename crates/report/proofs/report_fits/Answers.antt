-- `report::report_fits` meets its contract.
-- Assumes nothing.
use mathlib.Core.Path.{◌≡◌, sym, ap, ◌∙◌}
use mathlib.Core.Bool.{true, false}
use Rattle.report.specs.Text.{row, numbers_within, fields, bits_within, fits}
use Rattle.report.proofs.report_fits.Goals as goal

pub returns-then-not-counts_fit : goal.returns-then-not-counts_fit
unfolding fits
returns-then-not-counts_fit c =
    let e : numbers_within 8 (fields c.args.report) ≡ false = sym (c.counts_fit.ensures ∙ ap (numbers_within 8) c.numbers.ensures) ∙ c.if-not-counts_fit.true in
    simp e

pub returns-then-not-bits_fit : goal.returns-then-not-bits_fit
unfolding fits
returns-then-not-bits_fit c =
    let e : numbers_within 8 (fields c.args.report) ≡ true = sym (c.counts_fit.ensures ∙ ap (numbers_within 8) c.numbers.ensures) ∙ c.if-not-counts_fit.false in
    let g : bits_within c.args.report.bits ≡ false = sym c.bits_fit.ensures ∙ c.if-not-bits_fit.true in
    simp (e, g)

pub returns : goal.returns
unfolding fits row
returns c =
    let e : numbers_within 8 (fields c.args.report) ≡ true = sym (c.counts_fit.ensures ∙ ap (numbers_within 8) c.numbers.ensures) ∙ c.if-not-counts_fit.false in
    let g : bits_within c.args.report.bits ≡ true = sym c.bits_fit.ensures ∙ c.if-not-bits_fit.false in
    simp (e, g, c.table_row.ensures.1)
