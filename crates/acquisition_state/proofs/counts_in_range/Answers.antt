-- `acquisition_state::counts_in_range` meets its contract.
-- Assumes nothing.
use mathlib.Core.Path.{sym}
use borrow.Author.Tests.{lt-ltb, le-ltb}
use Rattle.acquisition_state.proofs.counts_in_range.Goals as goal

pub returns-then-came-first : goal.returns-then-came-first
returns-then-came-first c = sym (simp (lt-ltb _ _ c.if-came-first.true))

pub returns-then-used-ge4611686018427387904 : goal.returns-then-used-ge4611686018427387904
returns-then-used-ge4611686018427387904 c = sym (simp (le-ltb _ _ c.if-came-first.false, le-ltb _ _ c.if-used-ge4611686018427387904.true))

pub returns : goal.returns
returns c = sym (simp (le-ltb _ _ c.if-came-first.false, lt-ltb _ _ c.if-used-ge4611686018427387904.false))
