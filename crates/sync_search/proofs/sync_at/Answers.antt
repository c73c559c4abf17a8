-- `sync_search::sync_at` meets its contract.
-- Assumes nothing.
use mathlib.Core.Path.{sym, ◌∙◌}
use borrow.Author.Tests.{ne_eqb, lt-ltb}
use Rattle.sync_search.proofs.Syncs.{sync_by_lem, by_not, by_few, by_other}
use Rattle.sync_search.proofs.sync_at.Goals as goal

pub returns-then-plain-lt2 : goal.returns-then-plain-lt2
returns-then-plain-lt2 c =
    lt-ltb _ _ c.if-plain-lt2.true ∙ sym (sync_by_lem _ _ _ _ c.count_at-plain.ensures.0 c.count_at-inverted.ensures.0 ∙ by_few _ _ c.if-plain-inverted-eq5.true c.if-plain-lt2.true)

pub returns-else-plain-lt2 : goal.returns-else-plain-lt2
returns-else-plain-lt2 c =
    sym (sync_by_lem _ _ _ _ c.count_at-plain.ensures.0 c.count_at-inverted.ensures.0 ∙ by_other _ _ c.if-plain-inverted-eq5.true c.if-plain-lt2.false)

pub returns-else-plain-inverted-eq5 : goal.returns-else-plain-inverted-eq5
returns-else-plain-inverted-eq5 c =
    ne_eqb _ _ c.if-plain-inverted-eq5.false ∙ sym (sync_by_lem _ _ _ _ c.count_at-plain.ensures.0 c.count_at-inverted.ensures.0 ∙ by_not _ _ c.if-plain-inverted-eq5.false)
