-- `dvbs_lock_stream::is_short` meets its contract.
-- Assumes nothing.
use mathlib.Core.Path.{sym}
use borrow.Author.Tests.{lt-ltb, le-ltb}
use Rattle.dvbs_lock_stream.proofs.is_short.Goals as goal

pub returns-then-packets-lt1504 : goal.returns-then-packets-lt1504
returns-then-packets-lt1504 c = sym (simp (lt-ltb _ _ c.if-packets-lt1504.true))

pub returns-then-text-lt2048 : goal.returns-then-text-lt2048
returns-then-text-lt2048 c = sym (simp (le-ltb _ _ c.if-packets-lt1504.false, lt-ltb _ _ c.if-text-lt2048.true))

pub returns : goal.returns
returns c = sym (simp (le-ltb _ _ c.if-packets-lt1504.false, le-ltb _ _ c.if-text-lt2048.false))
