-- `dvbs_send::tell_answers` meets its contract.
-- Assumes nothing.
use Rattle.dvbs_send.proofs.Telling.{Telling}
use Rattle.dvbs_send.proofs.tell_answers.Given as goal

abbrev pub invariant-loop-i : goal.invariant-loop-i
invariant-loop-i l = Telling l.first l.answers l.initial.told.errors l.told.errors l.told.replaced l.i
