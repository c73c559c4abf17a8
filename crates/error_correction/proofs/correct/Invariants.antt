-- `error_correction::correct` meets its contract: the errors from l on are left to do.
-- Assumes nothing.
use Rattle.error_correction.proofs.CorrectedBlock.{Correcting}
use Rattle.error_correction.proofs.correct.Given as goal

abbrev pub invariant-loop-l : goal.invariant-loop-l
invariant-loop-l l = Correcting l.initial.block l.block l.roots.degrees l.values l.roots.count l.changed l.l
