-- `dvbs_reader_stream::points_due` meets its contract.
-- Assumes nothing.
use mathlib.Core.Path.{sym, ◌∙◌}
use borrow.Author.Tests.{lt-ltb, le-ltb}
use Rattle.dvbs_reader_stream.proofs.points_due.Goals as goal

pub returns-then-not-is_sound : goal.returns-then-not-is_sound
returns-then-not-is_sound c = sym (simp (sym c.is_sound.ensures ∙ c.if-not-is_sound.true))

pub returns-then-room-is : goal.returns-then-room-is
returns-then-room-is c = sym (simp (sym c.is_sound.ensures ∙ c.if-not-is_sound.false, lt-ltb _ _ c.if-room-is.true))

pub returns : goal.returns
returns c = sym (simp (sym c.is_sound.ensures ∙ c.if-not-is_sound.false, le-ltb _ _ c.if-room-is.false))
