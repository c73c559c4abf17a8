-- `interleaver::branches::copy_column` meets its contract.
-- Assumes nothing.
use Rattle.interleaver.specs.Column.{column}
use Rattle.interleaver.proofs.Columns.{Placing}
use Rattle.interleaver.proofs.branches.copy_column.Given as goal

abbrev pub invariant-loop-k : goal.invariant-loop-k
invariant-loop-k l = Placing l.j (column l.j l.block) l.initial.output l.output l.k
