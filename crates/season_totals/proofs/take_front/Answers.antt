-- `season_totals::take_front` meets its contract.
-- Assumes nothing.
use mathlib.Core.Path.{refl, ap}
use Rattle.answer.specs.Number.{answered}
use Rattle.report.proofs.Answers.{read-report}
use Rattle.season_totals.proofs.Progress.{unread_fits}
use Rattle.season_totals.proofs.Histories.{front_stops, front_taken}
use borrow.Author.Rules.{rules}
use Rattle.season_totals.proofs.Progress.{read_ok, read_err, err_some}
use Rattle.season_totals.proofs.take_front.Goals as goal

pub returns-in-Err : goal.returns-in-Err
returns-in-Err c =
    let r = c.read_front-read in
    let e = c.in-Err in
    let t = c.stopped.ensures in
    record {
      taken = λ bytes u. front_stops u (search rules) c.requires.1 (read_err r.ensures.0 e.is) (err_some e.refusal) (ap answered t.0) t.1;
    }

pub count_report-requires : goal.count_report-requires
count_report-requires c =
    unread_fits c.requires.0.is c.in-Ok.report c.requires.1 (read-report (read_ok c.read_front-read.ensures.0 c.in-Ok.is) refl).0

pub returns : goal.returns
returns c =
    let r = c.read_front-read in
    record {
      taken = λ bytes u. front_taken r.result.end u (search rules) c.requires.1 r.ensures.1 (read_ok r.ensures.0 c.in-Ok.is) refl c.count_report.ensures c.appended.ensures;
    }
