-- `sender_stream::send_whole` meets its contract. The measure is what is left of the piece, with the bytes held.
-- Assumes nothing.
use Prim.Native.Nat.{◌+◌, ◌-◌}
use lib.ListN.{length}
use Rattle.sender_stream.proofs.Progress.{Progress}
use Rattle.sender_stream.proofs.send_whole.Given as goal

abbrev pub invariant-loop-held : goal.invariant-loop-held
invariant-loop-held l =
    Progress (record { sender = l.initial.sender; pending = l.pending; held = l.initial.held }) l.piece l.initial.output l.initial.answers l.output l.answers l.sender l.held l.at l.count l.packets

abbrev pub decreases-loop-held : goal.decreases-loop-held
decreases-loop-held l = length l.piece - l.at + l.held
