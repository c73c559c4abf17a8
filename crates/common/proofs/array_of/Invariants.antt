-- `common::array_of` meets its contract.
-- Assumes nothing.
use Rattle.common.proofs.Each.{Each}
use Rattle.common.proofs.array_of.Given as goal

abbrev pub invariant-loop-i : goal.invariant-loop-i
invariant-loop-i g l = Each (λ k v. goal.F-post g l.f k v) g.row.N l.array l.i
