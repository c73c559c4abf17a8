-- `sender_stream::run::send_packets` meets its contract.
-- Assumes nothing.
use Prim.Native.Nat.{◌*◌}
use Rattle.sender_stream.proofs.RunProgress.{Progress}
use Rattle.sender_stream.proofs.run.send_packets.Given as goal

abbrev pub invariant-loop-k : goal.invariant-loop-k
invariant-loop-k l = Progress l.rate l.packets l.initial.output l.output l.sender (188 * l.k) l.count
