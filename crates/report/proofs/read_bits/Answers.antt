-- `report::read_bits` meets its contract.
-- Assumes nothing.
use mathlib.Core.Path.{sym, subst}
use mathlib.Core.Bool.{Bool, true, false}
use mathlib.Core.List.{List}
use Prim.Native.Nat.{ℕ, ◌+◌}
use Rattle.report_lines.specs.Reading.{WordIs}
use Rattle.report.specs.declared.Bits.TheVariants.{Absent, Dash}
use Rattle.report.specs.Text.{bits_text}
use Rattle.report.specs.Steps.{BitsIs}
use Rattle.report.proofs.Fronts.{dash_is, bits_dash, bits_line, bits_none}
use Rattle.report.proofs.read_bits.Goals as goal

pub returns-then-matches : goal.returns-then-matches
returns-then-matches c =
    let a = c.args in
    subst (λ (f : ℕ). BitsIs a.text.now a.at f true Dash (a.at + 7)) (sym c.if-form-ne2.false)
    (bits_dash a.text.now a.at (subst (λ (f : Bool). WordIs (bits_text Dash) a.text.now a.at f) c.if-matches.true
    (subst (λ (l : List ℕ). WordIs l a.text.now a.at c.matches.result) (sym dash_is) c.matches.ensures)))

pub returns-in_err-line : goal.returns-in_err-line
returns-in_err-line c =
    let a = c.args in
    rw c.from_residual.ensures
    (subst (λ (f : ℕ). BitsIs a.text.now a.at f false Absent a.at) (sym c.if-form-ne2.false)
    (bits_none a.text.now a.at (bits_line a.text.now a.at false 0 0
    (subst (λ (f : Bool). WordIs (bits_text Dash) a.text.now a.at f) c.if-matches.false
    (subst (λ (l : List ℕ). WordIs l a.text.now a.at c.matches.result) (sym dash_is) c.matches.ensures)) c.in_err-line.ensures)))
