-- `interleaver::branches::exchange_row` meets its contract.
-- Assumes nothing.
use mathlib.Core.List.{◌++◌}
use lib.ListN.{length, take}
use Rattle.interleaver.specs.Branch.{turned}
use Rattle.interleaver.specs.Block.{position_advanced}
use Rattle.interleaver.specs.Column.{column}
use Rattle.interleaver.proofs.Columns.{Placing}
use Rattle.interleaver.proofs.Rings.{Turning}
use Rattle.interleaver.proofs.branches.exchange_row.Given as goal

abbrev pub invariant-loop-k : goal.invariant-loop-k
invariant-loop-k l = Turning l.initial.cells l.position (column l.j l.block) l.cells (position_advanced (length l.initial.cells) l.position l.k) l.k × Placing l.j (take 17 (turned l.position l.initial.cells ++ column l.j l.block)) l.initial.output l.output l.k
