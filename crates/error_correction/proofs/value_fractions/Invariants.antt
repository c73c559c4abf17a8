-- `error_correction::value_fractions` meets its contract: the sums run over the coefficients of the quotients from k on.
-- Assumes nothing.
use mathlib.Core.Path.{◌≡◌}
use lib.ListN.{get_or}
use Rattle.error_correction.specs.Correction.{monic}
use Rattle.error_correction.proofs.ErrorValues.{SummedLanes}
use Rattle.error_correction.proofs.value_fractions.Given as goal

abbrev pub invariant-loop-k : goal.invariant-loop-k
invariant-loop-k l =
    (l.top ≡ get_or (monic l.degree l.p) l.k 0) × SummedLanes (monic l.degree l.p) l.s l.places l.coefficients l.numerators l.denominators l.k
