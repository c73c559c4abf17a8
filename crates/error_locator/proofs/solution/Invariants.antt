-- `error_locator::solution` meets its contract.
-- Assumes nothing.
use Rattle.common.proofs.Each.{Each}
use Rattle.error_locator.specs.Locator.{SolutionAt}
use Rattle.error_locator.proofs.solution.Given as goal

abbrev pub invariant-loop-c : goal.invariant-loop-c
invariant-loop-c l = Each (SolutionAt l.m l.k l.d) 9 l.q l.c
