-- `dvbs_reader_stream::symbols_due` meets its contract.
-- Assumes nothing.
use mathlib.Core.Path.{sym, ap, ◌∙◌}
use Prim.Native.Nat.{ℕ}
use borrow.Author.Tests.{lt-ltb, le-ltb}
use lib.Dec.{ltb}
use Rattle.dvbs_reader_stream.proofs.symbols_due.Goals as goal

pub returns-then-largest_of-ge4 : goal.returns-then-largest_of-ge4
returns-then-largest_of-ge4 c = sym (simp (sym (ap (λ (n : ℕ). ltb n 4) c.largest_of.ensures) ∙ le-ltb _ _ c.if-largest_of-ge4.true))

pub returns-then-room-symbols : goal.returns-then-room-symbols
returns-then-room-symbols c = sym (simp (sym (ap (λ (n : ℕ). ltb n 4) c.largest_of.ensures) ∙ lt-ltb _ _ c.if-largest_of-ge4.false, lt-ltb _ _ c.if-room-symbols.true))

pub returns : goal.returns
returns c = sym (simp (sym (ap (λ (n : ℕ). ltb n 4) c.largest_of.ensures) ∙ lt-ltb _ _ c.if-largest_of-ge4.false, le-ltb _ _ c.if-room-symbols.false))
