-- `report::move_report` meets its contract.
-- Assumes nothing.
use native.Mathlib.Omega.{arith}
use Rattle.std.proofs.lemmas.Result.{err_from_is_err_and}
use Rattle.answer.proofs.Positive.{number_positive}
use Rattle.answer.specs.Number.{number_of}
use Rattle.report.specs.Read.{blank}
use Rattle.report.proofs.Moving.{move_unread}
use Rattle.report.proofs.move_report.Goals as goal

pub returns-in_err-report : goal.returns-in_err-report
returns-in_err-report c =
    let a = c.args in
    let e = c.in_err-report in
    let p = err_from_is_err_and c.from_residual.result c.from_residual.ensures.1 in
    rw (p.1, p.2)
    (move_unread a.text.now a.form a.output.now (number_of e.field-0.0) blank e.ensures (λ z. absurd (omega (arith, number_positive e.field-0.0))))
