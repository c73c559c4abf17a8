-- `viterbi_decoder::write_costs` meets its contract.
-- Assumes nothing.
use mathlib.Core.Path.{◌≡◌}
use Prim.Native.Nat.{ℕ, ◌<◌}
use Rattle.convolutional_code.specs.Costs.{at, decision_cost}
use Rattle.viterbi_decoder.proofs.Butterfly.{Written}
use Rattle.viterbi_decoder.proofs.write_costs.Given as goal

abbrev pub invariant-loop-n : goal.invariant-loop-n
invariant-loop-n l = Written (λ k row. (i : ℕ) → i < 64 → at row i ≡ decision_cost k (at l.bits i)) 9 l.rows l.n
