-- `acquisition_state::is_in_range` meets its contract.
-- Assumes nothing.
use mathlib.Core.Path.{sym, ◌∙◌}
use native.Mathlib.Omega.{arith}
use borrow.Author.Tests.{lt-ltb, le-ltb, ltb-true}
use lib.Dec.{ltb}
use Rattle.common.proofs.Choice.{both_true}
use Rattle.acquisition_state.proofs.is_in_range.Goals as goal

pub returns-then-rate-ge6 : goal.returns-then-rate-ge6
returns-then-rate-ge6 c = sym (simp (le-ltb _ _ c.if-rate-ge6.true))

pub returns-then-came-ge1152921504606846976 : goal.returns-then-came-ge1152921504606846976
returns-then-came-ge1152921504606846976 c = sym (simp (lt-ltb _ _ c.if-rate-ge6.false, le-ltb _ _ c.if-came-ge1152921504606846976.true))

pub returns-then-not-pending_in_range : goal.returns-then-not-pending_in_range
returns-then-not-pending_in_range c = sym (simp (lt-ltb _ _ c.if-rate-ge6.false, lt-ltb _ _ c.if-came-ge1152921504606846976.false, sym c.pending_in_range.ensures ∙ c.if-not-pending_in_range.true))

pub phase_in_range-requires : goal.phase_in_range-requires
phase_in_range-requires c =
    let b = both_true (ltb c.args.state.held 1633) _ (sym c.pending_in_range.ensures ∙ c.if-not-pending_in_range.false) in
    (c.if-came-ge1152921504606846976.false, omega (arith, ltb-true c.args.state.held 1633 b.0), c.requires.1, c.requires.2)

pub returns : goal.returns
returns c = sym (simp (lt-ltb _ _ c.if-rate-ge6.false, lt-ltb _ _ c.if-came-ge1152921504606846976.false, sym c.pending_in_range.ensures ∙ c.if-not-pending_in_range.false) (sym c.phase_in_range.ensures))
