-- `recording::receive_marked_blocks` meets its contract.
-- Assumes nothing.
use Prim.Native.Nat.{◌*◌}
use Rattle.recording.proofs.Recordings.{Taking}
use Rattle.recording.proofs.receive_marked_blocks.Given as goal

abbrev pub invariant-loop-i : goal.invariant-loop-i
invariant-loop-i l =
    Taking l.initial.receiver l.bytes l.marks l.initial.output l.output l.receiver (204 * l.i) l.count l.valid l.clean
