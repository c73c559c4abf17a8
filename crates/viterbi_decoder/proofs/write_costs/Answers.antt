-- `viterbi_decoder::write_costs` meets its contract.
-- Assumes nothing.
use mathlib.Core.Path.{◌∙◌, ap₂}
use Prim.Native.Nat.{ℕ}
use native.Mathlib.Omega.{arith}
use Rattle.convolutional_code.specs.Costs.{at, decided}
use Rattle.viterbi_decoder.proofs.Butterfly.{written_none, written_more}
use Rattle.viterbi_decoder.proofs.write_costs.Goals as goal

pub loop-n-init : goal.loop-n-init
loop-n-init c = written_none c.requires

pub loop-n-preserved : goal.loop-n-preserved
loop-n-preserved c =
    written_more _ (omega arith)
    (λ i h.
    c.coded_costs.ensures i h
    ∙ ap₂ (λ (x y : ℕ). decided x y (at c.args.bits.now i)) c.saturating_sub.ensures c.one_cost.ensures.0)
    c.loop-n.invariant

pub returns : goal.returns
returns c = let v = c.loop-n.invariant in record { size = v.len; cost = λ n h. v.done n (omega arith) }
