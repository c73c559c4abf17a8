-- `error_correction::degree` meets its contract: the coefficients above d are zero.
-- Assumes nothing.
use Prim.Native.Nat.{◌-◌}
use lib.ListN.{take}
use Rattle.error_correction.specs.Correction.{EndsAt}
use Rattle.error_correction.proofs.degree.Given as goal

abbrev pub invariant-loop-d : goal.invariant-loop-d
invariant-loop-d l = EndsAt (take 9 l.q) (l.d - 1)
