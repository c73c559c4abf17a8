-- `reader_state::are_in_range` meets its contract.
-- Assumes nothing.
use mathlib.Core.Bool.{true≢false}
use mathlib.Core.Path.{sym, ◌∙◌}
use native.Mathlib.Omega.{arith}
use borrow.Author.Tests.{ltb-true, le-ltb}
use Rattle.reader_stream.proofs.Runs.{numbers}
use Rattle.reader_state.proofs.are_in_range.Goals as goal
use Rattle.reader_state.proofs.are_in_range.Goals.{then-runs-lt64, else-runs-lt64}

pub slice_bounds-largest_of-count : goal.slice_bounds-largest_of-count
slice_bounds-largest_of-count c =
    elim c.if-runs-lt64.branch [
      | then-runs-lt64 v ↦ omega (arith, c.requires, v.full_symbols.ensures, (numbers c.args.runs.rate c.if-runs-ge-QPSK_MODES.false).full_most, ltb-true _ _ (sym v.value-is ∙ c.if-runs-full_symbols.true))
      | else-runs-lt64 v ↦ absurd (true≢false (sym c.if-runs-full_symbols.true ∙ (v.value-is ∙ le-ltb _ _ v.if-runs-lt64.false)))
    ]

pub slice_bounds-largest_of-start : goal.slice_bounds-largest_of-start
slice_bounds-largest_of-start c = slice_bounds-largest_of-count c
