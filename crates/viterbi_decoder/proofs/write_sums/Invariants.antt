-- `viterbi_decoder::write_sums` meets its contract.
-- Assumes nothing.
use mathlib.Core.Path.{◌≡◌}
use mathlib.Core.List.{[]}
use Prim.Native.Nat.{ℕ, ◌+◌, ◌/◌, ◌%◌, ◌<◌}
use lib.ListN.{get_or}
use Rattle.convolutional_code.specs.Costs.{at}
use Rattle.viterbi_decoder.proofs.Butterfly.{Written}
use Rattle.viterbi_decoder.proofs.write_sums.Given as goal

abbrev pub invariant-loop-n : goal.invariant-loop-n
invariant-loop-n l = Written (λ k row. (i : ℕ) → i < 64 → at row i ≡ at (get_or l.xs (k / 9) []) i + at (get_or l.ys (k % 9) []) i) 81 l.rows l.n
