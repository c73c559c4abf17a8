-- `dvbs::dvbs_losses_run` meets its contract.
-- Assumes nothing.
use mathlib.Core.Path.{refl, ap}
use lib.ListN.{set}
use Rattle.dvbs.specs.LossesRun.{untold, listed}
use Rattle.dvbs.proofs.dvbs_losses_run.Goals as goal

pub returns-then-answer-lt1 : goal.returns-then-answer-lt1
returns-then-answer-lt1 c = untold c.if-answer-lt1.true refl refl refl

pub returns-in-Ok : goal.returns-in-Ok
returns-in-Ok c = listed c.if-answer-lt1.false _ c.in-Ok.ensures refl

pub returns-in-Err : goal.returns-in-Err
returns-in-Err c = listed c.if-answer-lt1.false _ c.in-Err.ensures (ap (set c.args.answer.now 0) c.number.ensures)
