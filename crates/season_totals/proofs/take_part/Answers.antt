-- `season_totals::take_part` meets its contract.
-- Assumes nothing.
use mathlib.Core.Path.{ap, ◌∙◌}
use mathlib.Core.List.{◌++◌}
use mathlib.Core.Bool.{not}
use Rattle.answer.specs.Number.{answered}
use Rattle.season_totals.proofs.Progress.{unread_fewer}
use Rattle.season_totals.proofs.Histories.{came_going, came_ended, part_stops, part_kept, part_fills}
use borrow.Author.Rules.{rules}
use Rattle.season_totals.proofs.take_part.Goals as goal

pub returns-then-is_err : goal.returns-then-is_err
returns-then-is_err c =
    record { fed = λ bytes k. came_ended k (c.is_err.ensures.negation ∙ ap not c.if-is_err.true) c.args.part.now }

pub returns-then-season-eq-MOST : goal.returns-then-season-eq-MOST
returns-then-season-eq-MOST c =
    let e = c.is_err.ensures.negation ∙ ap not c.if-is_err.false in
    let t = c.stopped.ensures in
    record { fed = λ bytes k. part_stops c.args.part.now (came_going k e) c.if-season-eq-MOST.true c.requires.1 (ap answered t.0) t.1 }

pub returns-then-filled-lt320 : goal.returns-then-filled-lt320
returns-then-filled-lt320 c =
    let e = c.is_err.ensures.negation ∙ ap not c.if-is_err.false in
    record { fed = λ bytes k. part_kept c.args.season.pending c.args.part.now c.args.season.held (came_going k e) c.if-filled-lt320.true c.appended-buffer.ensures }

pub take_front-requires : goal.take_front-requires
take_front-requires c =
    let e = c.is_err.ensures.negation ∙ ap not c.if-is_err.false in
    let u = came_going c.requires.0.is e in (
      record { bytes = c.requires.0.bytes ++ c.args.part.now; is = part_fills c.args.season.pending c.args.part.now c.args.season.held _ u (search rules) c.if-filled-lt320.false c.appended-buffer.ensures },
      unread_fewer u c.if-season-eq-MOST.false,
    )

pub returns : goal.returns
returns c =
    let e = c.is_err.ensures.negation ∙ ap not c.if-is_err.false in
    record {
      fed = λ bytes k. c.take_front.ensures.taken (bytes ++ c.args.part.now)
          (part_fills c.args.season.pending c.args.part.now c.args.season.held _ (came_going k e) (search rules) c.if-filled-lt320.false c.appended-buffer.ensures);
    }
