-- `dvbs_losses::run` meets its contract.
-- Assumes nothing.
use Rattle.dvbs_losses.proofs.Turning.{Running}
use Rattle.dvbs_losses.proofs.run.Given as goal

abbrev pub invariant-loop-blocks : goal.invariant-loop-blocks
invariant-loop-blocks l = Running l.initial.own l.input l.own l.output l.errors l.stream l.blocks
