-- `sender_stream::run::is_short` meets its contract.
-- Assumes nothing.
use Rattle.sender_stream.proofs.Counting.{Counting}
use Rattle.sender_stream.proofs.run.is_short.Given as goal

abbrev pub invariant-loop : goal.invariant-loop
invariant-loop l = Counting l.rate l.start l.packets l.space l.place l.left l.counter
