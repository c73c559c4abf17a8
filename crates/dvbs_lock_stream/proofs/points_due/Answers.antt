-- `dvbs_lock_stream::points_due` meets its contract.
-- Assumes nothing.
use mathlib.Core.Path.{sym, ◌∙◌}
use borrow.Author.Tests.{lt-ltb, le-ltb}
use Rattle.dvbs_lock_stream.proofs.points_due.Goals as goal

pub returns-then-not-is_sound : goal.returns-then-not-is_sound
returns-then-not-is_sound c = sym (simp (sym c.is_sound.ensures ∙ c.if-not-is_sound.true))

pub returns-then-short : goal.returns-then-short
returns-then-short c = sym (simp (sym c.is_sound.ensures ∙ c.if-not-is_sound.false, c.if-short.true))

pub returns-then-full : goal.returns-then-full
returns-then-full c = sym (simp (sym c.is_sound.ensures ∙ c.if-not-is_sound.false, c.if-short.false, le-ltb _ _ c.if-full.true))

pub returns : goal.returns
returns c = sym (simp (sym c.is_sound.ensures ∙ c.if-not-is_sound.false, c.if-short.false, lt-ltb _ _ c.if-full.false))
