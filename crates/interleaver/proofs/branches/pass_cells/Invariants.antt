-- `interleaver::branches::pass_cells` meets its contract.
-- Assumes nothing.
use Rattle.interleaver.specs.Branch.{laid}
use Rattle.interleaver.proofs.Passing.{Passing}
use Rattle.interleaver.proofs.branches.pass_cells.Given as goal

abbrev pub invariant-loop-j : goal.invariant-loop-j
invariant-loop-j l = Passing l.side (laid l.initial.cells l.initial.next) l.block l.initial.output l.output l.cells l.next l.base l.j
