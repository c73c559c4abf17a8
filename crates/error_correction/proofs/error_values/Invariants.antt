-- `error_correction::error_values` meets its contract: the values of the first l errors are stored.
-- Assumes nothing.
use mathlib.Core.Path.{◌≡◌}
use lib.ListN.{get_or}
use Rattle.common.proofs.Each.{Updated}
use Rattle.error_correction.proofs.error_values.Given as goal

abbrev pub invariant-loop-l : goal.invariant-loop-l
invariant-loop-l l = Updated (λ k v. v ≡ get_or l.values k 0) l.initial.e l.e l.l
