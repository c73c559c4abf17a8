-- `season_totals::count_rest` meets its contract.
-- Assumes nothing.
use mathlib.Core.Path.{refl, sym, subst}
use mathlib.Core.List.{List}
use Prim.Native.Nat.{ℕ}
use native.Mathlib.Omega.{arith}
use Rattle.std.proofs.lemmas.Result.{err_from_is_err_and}
use Rattle.report.proofs.Answers.{read-report}
use Rattle.season_totals.proofs.Progress.{CountedTo, counted_none, counted_many, counted_bad, counted_fits, counted_next, counted_done, past, read_ok, read_err, err_some}
use Rattle.season_totals.proofs.count_rest.Goals as goal

pub loop-at-init : goal.loop-at-init
loop-at-init c = counted_none _ _

pub returns-then-totals-eq-MOST : goal.returns-then-totals-eq-MOST
returns-then-totals-eq-MOST c =
    let l = c.loop-at in
    record { season = λ bytes u. counted_many l.invariant bytes u c.if-totals-eq-MOST.true c.loop-at-test.true }

pub read_front-read-requires : goal.read_front-read-requires
read_front-read-requires c = c.loop-at.invariant.place

pub returns-in_err-report : goal.returns-in_err-report
returns-in_err-report c =
    let l = c.loop-at in
    let r = c.read_front-read in
    let e = c.in_err-report in
    let p = err_from_is_err_and c.from_residual.result c.from_residual.ensures.1 in
    rw (p.1, p.2)
    (record {
      season = λ bytes u. counted_bad l.invariant bytes u _ _ _ (read_err r.ensures.0 e.was)
          (err_some e.field-0.0) c.if-totals-eq-MOST.false c.loop-at-test.true;
    })

pub count_report-totals-requires : goal.count_report-totals-requires
count_report-totals-requires c =
    let l = c.loop-at in
    let b = c.requires in
    counted_fits l.invariant b.bytes b.is c.in_ok-report.report c.if-totals-eq-MOST.false
    (read-report (read_ok c.read_front-read.ensures.0 c.in_ok-report.was) refl).0

pub loop-at-smaller : goal.loop-at-smaller
loop-at-smaller c =
    let l = c.loop-at in
    let r = c.read_front-read in
    let h = c.loop-at-test.true in
    let o = past _ l.at r.result.end 0 c.in_ok-report.report r.ensures.1 (read_ok r.ensures.0 c.in_ok-report.was) refl h in
    omega arith

pub loop-at-preserved : goal.loop-at-preserved
loop-at-preserved c =
    let l = c.loop-at in
    let r = c.read_front-read in
    let a = c.args in
    subst (λ (v : List ℕ). CountedTo a.text.now a.counted v r.result.end) (sym c.count_report-totals.ensures)
    (counted_next l.invariant 0 c.in_ok-report.report r.result.end r.ensures.1 (read_ok r.ensures.0 c.in_ok-report.was) refl c.if-totals-eq-MOST.false)

pub returns : goal.returns
returns c =
    let l = c.loop-at in
    record { season = λ bytes u. counted_done l.invariant bytes u c.loop-at-test.false }
