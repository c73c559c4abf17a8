-- `received_symbols::points::read_numbers` meets its contract.
-- Assumes nothing.
use lib.ListN.{length}
use Rattle.received_symbols.proofs.SoftInput.{NumbersRead}
use Rattle.received_symbols.proofs.points.read_numbers.Given as goal

abbrev pub invariant-loop-k : goal.invariant-loop-k
invariant-loop-k l = NumbersRead l.bytes l.at (length l.initial.numbers) l.numbers l.k
