-- `lock_state::is_in_range` meets its contract.
-- Assumes nothing.
use mathlib.Core.Path.{◌≡◌, refl, sym, ◌∙◌}
use mathlib.Core.Bool.{Bool, true, false}
use Rattle.common.specs.Choice.{pick}
use borrow.Author.Tests.{lt-ltb}
use Rattle.lock_state.proofs.Table.{few_waiting}
use Rattle.lock_state.proofs.is_in_range.Goals as goal

pub returns-then-bits : goal.returns-then-bits
returns-then-bits c = sym (simp c.if-bits.true)

pub returns-then-not-is_in_range : goal.returns-then-not-is_in_range
returns-then-not-is_in_range c = sym (simp (c.if-bits.false, sym c.is_in_range.ensures ∙ c.if-not-is_in_range.true))

pub returns-then-not-in_range : goal.returns-then-not-in_range
returns-then-not-in_range c = sym (simp (c.if-bits.false, sym c.is_in_range.ensures ∙ c.if-not-is_in_range.false, sym c.in_range.ensures ∙ c.if-not-in_range.true))

pub packets_clear-requires : goal.packets_clear-requires
packets_clear-requires c = (few_waiting c.args.stream.progress.receiver (sym c.in_range.ensures ∙ c.if-not-in_range.false), c.requires.packets)

-- nothing is tested behind it
both : (t : Bool) → pick t true false ≡ t
both true = refl
both false = refl

pub returns : goal.returns
returns c = c.packets_clear.ensures ∙ sym (simp (c.if-bits.false, sym c.is_in_range.ensures ∙ c.if-not-is_in_range.false, sym c.in_range.ensures ∙ c.if-not-in_range.false, lt-ltb _ _ c.requires.skipped, lt-ltb _ _ c.requires.end) (both _))
