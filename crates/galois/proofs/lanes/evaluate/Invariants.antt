-- `galois::lanes::evaluate` meets its contract: v has the values of the coefficients from k on.
-- Assumes nothing.
use lib.ListN.{drop}
use Rattle.galois.specs.Lanes.{ValuesAt}
use Rattle.galois.proofs.lanes.evaluate.Given as goal

abbrev pub invariant-loop-k : goal.invariant-loop-k
invariant-loop-k l = ValuesAt (drop l.k l.q) l.x l.v
