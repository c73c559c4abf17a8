-- `pass::first_above` meets its contract.
-- Assumes nothing.
use mathlib.Core.Path.{◌≡◌}
use Prim.Native.Nat.{◌+◌}
use lib.ListN.{drop}
use Rattle.pass.specs.Pass.{first_above}
use Rattle.pass.proofs.first_above.Given as goal

abbrev pub invariant-loop-i : goal.invariant-loop-i
invariant-loop-i l = first_above l.marks ≡ l.i + first_above (drop l.i l.marks)
