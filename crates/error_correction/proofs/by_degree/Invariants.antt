-- `error_correction::by_degree` meets its contract: after d turns the marks of the first d degrees are stored.
-- Assumes nothing.
use mathlib.Core.Path.{◌≡◌}
use Prim.Native.Nat.{◌-◌}
use lib.ListN.{get_or}
use Rattle.common.proofs.Each.{Updated}
use Rattle.error_correction.proofs.by_degree.Given as goal

abbrev pub invariant-loop-d : goal.invariant-loop-d
invariant-loop-d l = Updated (λ k x. x ≡ get_or l.marks (203 - k) 0) l.initial.u l.u l.d
