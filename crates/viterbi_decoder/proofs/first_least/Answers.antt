-- `viterbi_decoder::first_least` meets its contract: the first of the memories so far with the least metric.
-- Assumes nothing.
use mathlib.Core.Path.{◌≡◌}
use native.Mathlib.Omega.{arith}
use Rattle.viterbi_decoder.proofs.Ends.{ends_one, ends_new, ends_old}
use Rattle.viterbi_decoder.proofs.first_least.Goals as goal
use Rattle.viterbi_decoder.proofs.first_least.Goals.{then-metrics-s, else-metrics-s}

pub loop-s-init : goal.loop-s-init
loop-s-init c = ends_one _

pub loop-s-preserved : goal.loop-s-preserved
loop-s-preserved c = let inv = c.loop-s.invariant in elim c.if-metrics-s.branch [ then-metrics-s w ↦ rw w.best-is (ends_new _ _ _ inv w.if-metrics-s.true) | else-metrics-s w ↦ rw w.best-is (ends_old _ _ _ inv w.if-metrics-s.false) ]

pub returns : goal.returns
returns c = let e : c.loop-s.s ≡ 64 = omega arith in rw e at c.loop-s.invariant
