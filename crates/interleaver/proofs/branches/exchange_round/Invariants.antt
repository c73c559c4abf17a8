-- `interleaver::branches::exchange_round` meets its contract.
-- Assumes nothing.
use mathlib.Core.Path.{◌≡◌}
use mathlib.Core.List.{◌++◌}
use lib.ListN.{length, take}
use Rattle.interleaver.specs.Branch.{turned}
use Rattle.interleaver.specs.Column.{column}
use Rattle.interleaver.proofs.Columns.{Placing}
use Rattle.interleaver.proofs.Rings.{Turning}
use Rattle.interleaver.proofs.branches.exchange_round.Given as goal

abbrev pub invariant-loop-k : goal.invariant-loop-k
invariant-loop-k l = (l.size ≡ length l.initial.cells) × Turning l.initial.cells l.position (column l.j l.block) l.cells l.p l.k × Placing l.j (take 17 (turned l.position l.initial.cells ++ column l.j l.block)) l.initial.output l.output l.k
