-- `acquisition_state::reading_in_range` meets its contract.
-- Assumes nothing.
use mathlib.Core.Path.{sym, ◌∙◌}
use native.Mathlib.Omega.{arith}
use borrow.Author.Tests.{lt-ltb, le-ltb, ltb-true}
use Rattle.common.proofs.Choice.{both_true}
use lib.Dec.{ltb}
use Rattle.reader_stream.proofs.Runs.{numbers}
use Rattle.reader_state.proofs.Cleared.{runs_ready}
use Rattle.acquisition_state.proofs.reading_in_range.Goals as goal

pub returns-then-not-are_in_range : goal.returns-then-not-are_in_range
returns-then-not-are_in_range c = sym (simp (sym c.are_in_range.ensures ∙ c.if-not-are_in_range.true))

pub returns-then-turn-ge8 : goal.returns-then-turn-ge8
returns-then-turn-ge8 c = sym (simp (sym c.are_in_range.ensures ∙ c.if-not-are_in_range.false, le-ltb _ _ c.if-turn-ge8.true))

pub returns-then-not-bits_in_range : goal.returns-then-not-bits_in_range
returns-then-not-bits_in_range c = sym (simp (sym c.are_in_range.ensures ∙ c.if-not-are_in_range.false, lt-ltb _ _ c.if-turn-ge8.false, sym c.bits_in_range.ensures ∙ c.if-not-bits_in_range.true))

pub counts_in_range-requires : goal.counts_in_range-requires
counts_in_range-requires c =
    let k = c.args.state.reading in
    let r = (runs_ready k.runs c.requires.2 (sym c.are_in_range.ensures ∙ c.if-not-are_in_range.false)).0 in
    let b = both_true (ltb k.sync.held 8168) _ (sym c.bits_in_range.ensures ∙ c.if-not-bits_in_range.false) in
    (c.requires.0, c.requires.1, omega (arith, r.below, (numbers k.runs.rate r.known).full_most), omega (arith, ltb-true k.sync.held 8168 b.0))

pub returns : goal.returns
returns c = sym (simp (sym c.are_in_range.ensures ∙ c.if-not-are_in_range.false, lt-ltb _ _ c.if-turn-ge8.false, sym c.bits_in_range.ensures ∙ c.if-not-bits_in_range.false) (sym c.counts_in_range.ensures))
