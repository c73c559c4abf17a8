-- `viterbi_decoder::forward` meets its contract: proofs/Sweeps.antt has what holds as the loops go.
-- Assumes nothing.
use Prim.Native.Nat.{◌+◌, ◌-◌, ◌*◌, ◌%◌}
use lib.ListN.{length}
use Rattle.viterbi_decoder.specs.Lanes.{row_costs}
use Rattle.viterbi_decoder.proofs.Sweeps.{InBlock, Going}
use Rattle.viterbi_decoder.proofs.forward.Given as goal

abbrev pub invariant-loop-k : goal.invariant-loop-k
invariant-loop-k l = InBlock (row_costs l.costs l.steps) l.from l.k l.end l.initial.metrics l.metrics l.origins

abbrev pub invariant-loop-block : goal.invariant-loop-block
invariant-loop-block l =
    Going (row_costs l.costs l.steps) l.memory l.n (length l.initial.rows) (l.n % 6 + 6 * l.block - 6) (l.n % 6 + 6 * l.block) l.metrics l.offset l.rows
