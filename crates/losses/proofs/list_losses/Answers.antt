-- `losses::list_losses` meets its contract.
-- Assumes nothing.
use mathlib.Core.Path.{refl, subst}
use native.Mathlib.Omega.{arith}
use Rattle.std.proofs.lemmas.Result.{err_from_is_err_and}
use Rattle.answer.proofs.Positive.{number_positive}
use Rattle.answer.specs.Number.{number_of}
use Rattle.losses.specs.Feed.{fresh_loss_stream, FeedsLosses}
use Rattle.losses.specs.declared.LossStream.{LossStream}
use Rattle.losses.proofs.Runs.{Left, run_refused, run_fed, close_number, run_closed}
use Rattle.losses.proofs.list_losses.Goals as goal

pub returns-in_err-fed : goal.returns-in_err-fed
returns-in_err-fed c =
    let a = c.args in
    let e = c.in_err-fed.ensures in
    let p = err_from_is_err_and c.from_residual.result c.from_residual.ensures.1 in
    let fed : FeedsLosses fresh_loss_stream a.bytes.now a.marks.now a.lines.now (number_of c.in_err-fed.field-0.0) 0 fresh_loss_stream c.feed.new.lines
    = subst (λ (i : LossStream). FeedsLosses i a.bytes.now a.marks.now a.lines.now (number_of c.in_err-fed.field-0.0) 0 i c.feed.new.lines) c.new.ensures e in
    rw (p.1, p.2) (run_refused fed (λ z. omega (arith, number_positive c.in_err-fed.field-0.0)))

pub returns-in_err-told : goal.returns-in_err-told
returns-in_err-told c =
    let a = c.args in
    let f = c.in_ok-fed.fed in
    let e = c.in_err-told.ensures in
    let left : Left a.bytes.now a.marks.now a.lines.now f.count f.stream c.feed.new.lines
    = run_fed (subst (λ (i : LossStream). FeedsLosses i a.bytes.now a.marks.now a.lines.now 0 f.count f.stream c.feed.new.lines) c.new.ensures c.in_ok-fed.ensures) refl in
    absurd (omega (arith, e.0, number_positive c.in_err-told.field-0.0, close_number left))

pub returns : goal.returns
returns c =
    let a = c.args in
    let f = c.in_ok-fed.fed in
    let left : Left a.bytes.now a.marks.now a.lines.now f.count f.stream c.feed.new.lines
    = run_fed (subst (λ (i : LossStream). FeedsLosses i a.bytes.now a.marks.now a.lines.now 0 f.count f.stream c.feed.new.lines) c.new.ensures c.in_ok-fed.ensures) refl in
    run_closed left c.in_ok-told.ensures.1
