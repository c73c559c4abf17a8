-- `lock_stream::progress::tell_block` meets its contract.
-- Assumes nothing.
use mathlib.Core.Path.{sym, ◌∙◌}
use Rattle.lock_stream.proofs.progress.tell_block.Goals as goal

pub begin_lock-requires : goal.begin_lock-requires
begin_lock-requires c =
    (c.requires.0, sym c.begun_anew.ensures ∙ c.if-begun_anew.true, c.requires.1, c.requires.2, c.requires.3)

pub follow_lock-requires : goal.follow_lock-requires
follow_lock-requires c =
    (c.requires.0, sym c.begun_anew.ensures ∙ c.if-begun_anew.false, c.requires.2, c.requires.3)
