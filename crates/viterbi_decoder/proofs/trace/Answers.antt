-- `viterbi_decoder::trace` meets its contract.
-- Assumes nothing.
use mathlib.Core.Path.{refl, ◌∙◌}
use Prim.Native.Nat.{◌+◌, ◌-◌, ◌*◌}
use native.Mathlib.Omega.{arith}
use Rattle.viterbi_decoder.proofs.Sweeps.{trace_none, trace_more, trace_all}
use Rattle.viterbi_decoder.proofs.trace.Goals as goal

pub loop-b-init : goal.loop-b-init
loop-b-init c = (refl, omega arith, omega arith, trace_none _ _ c.args.output.now)

pub overflow_cast-r : goal.overflow_cast-r
overflow_cast-r c = let l = c.loop-b in omega (arith, c.requires.2 (64 * (l.b - 1) + l.r) (omega arith))

pub loop-b-preserved : goal.loop-b-preserved
loop-b-preserved c =
    let l = c.loop-b in
    (c.write_low.auto.output ∙ l.invariant.0, omega arith, c.requires.2 (64 * (l.b - 1) + l.r) (omega arith), trace_more _ _ _ _ _ _ _ (omega arith) (omega arith) l.invariant.3 c.write_low.ensures)

pub returns : goal.returns
returns c = trace_all _ _ _ _ _ _ _ (omega arith) c.loop-b.invariant.3 c.write_low-2.ensures
