-- `puncturing::whole::pattern` meets its contract.
-- Assumes nothing.
use Rattle.common.proofs.Written.{Written}
use Rattle.puncturing.specs.Run.{pattern_symbols}
use Rattle.puncturing.proofs.whole.pattern.Given as goal

abbrev pub invariant-loop-j : goal.invariant-loop-j
invariant-loop-j l = Written l.at l.initial.output (pattern_symbols l.i l.q l.coded l.n) l.output l.j
