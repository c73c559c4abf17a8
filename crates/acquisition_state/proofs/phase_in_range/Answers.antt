-- `acquisition_state::phase_in_range` meets its contract.
-- Assumes nothing.
use mathlib.Core.Path.{sym, ap, ◌∙◌}
use borrow.Author.Tests.{lt-ltb, le-ltb}
use Rattle.acquisition_state.specs.State.{phase_in_range}
use Rattle.acquisition_state.proofs.phase_in_range.Goals as goal

pub returns-then-held-ge1632 : goal.returns-then-held-ge1632
returns-then-held-ge1632 c = sym (ap (phase_in_range c.args.state) c.in-Searches.is ∙ simp (le-ltb _ _ c.if-held-ge1632.true))

pub returns-then-not-runs_idle : goal.returns-then-not-runs_idle
returns-then-not-runs_idle c = sym (ap (phase_in_range c.args.state) c.in-Searches.is ∙ simp (lt-ltb _ _ c.if-held-ge1632.false, sym c.runs_idle.ensures ∙ c.if-not-runs_idle.true))

pub returns-else-not-runs_idle : goal.returns-else-not-runs_idle
returns-else-not-runs_idle c = sym (ap (phase_in_range c.args.state) c.in-Searches.is ∙ simp (lt-ltb _ _ c.if-held-ge1632.false, sym c.runs_idle.ensures ∙ c.if-not-runs_idle.false) (sym c.sync_idle.ensures))

pub returns-in-Reads : goal.returns-in-Reads
returns-in-Reads c = c.reading_in_range.ensures ∙ sym (ap (phase_in_range c.args.state) c.in-Reads.is)
