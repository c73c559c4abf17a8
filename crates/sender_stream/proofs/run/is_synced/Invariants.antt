-- `sender_stream::run::is_synced` meets its contract.
-- Assumes nothing.
use Prim.Native.Nat.{◌*◌}
use Rattle.sender_stream.proofs.Buffers.{Synced}
use Rattle.sender_stream.proofs.run.is_synced.Given as goal

abbrev pub invariant-loop-k : goal.invariant-loop-k
invariant-loop-k l = Synced l.packets (188 * l.k)
