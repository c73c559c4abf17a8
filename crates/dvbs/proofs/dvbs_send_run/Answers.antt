-- `dvbs::dvbs_send_run` meets its contract.
-- Assumes nothing.
use mathlib.Core.Path.{sym, ap, ◌∙◌}
use borrow.Author.Tests.{lt-ltb, le-ltb}
use lib.ListN.{set}
use Rattle.dvbs.proofs.dvbs_send_run.Goals as goal

pub returns-then-answer-lt1 : goal.returns-then-answer-lt1
returns-then-answer-lt1 c =
    let test = lt-ltb _ _ c.if-answer-lt1.true in
    (simp (test), simp (test), simp (test))

pub returns-in-Ok : goal.returns-in-Ok
returns-in-Ok c =
    let test = le-ltb _ _ c.if-answer-lt1.false in
    let run = c.in-Ok.ensures in
    let lent = c.args.answer.now in (
      run.counted ∙ sym (simp (test)),
      run.written ∙ sym (simp (test)),
      ap (set lent 0) (c.number.ensures ∙ run.answered) ∙ sym (simp (test)),
    )

pub returns-in-Err : goal.returns-in-Err
returns-in-Err c =
    let test = le-ltb _ _ c.if-answer-lt1.false in
    let run = c.in-Err.ensures in
    let lent = c.args.answer.now in (
      run.counted ∙ sym (simp (test)),
      run.written ∙ sym (simp (test)),
      ap (set lent 0) (c.number-in-Err.ensures ∙ run.answered) ∙ sym (simp (test)),
    )
