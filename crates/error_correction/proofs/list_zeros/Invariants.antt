-- `error_correction::list_zeros` meets its contract: the zeros among the first l lanes are listed.
-- Assumes nothing.
use Prim.Native.Nat.{◌-◌}
use lib.ListN.{take}
use Rattle.error_correction.proofs.RootSearch.{ListedTo}
use Rattle.error_correction.proofs.list_zeros.Given as goal

abbrev pub invariant-loop-l : goal.invariant-loop-l
invariant-loop-l l = ListedTo l.initial.listed.degrees l.initial.listed.places l.initial.listed.count (take (204 - l.i) l.v) l.x l.i l.listed.degrees l.listed.places l.listed.count l.l
