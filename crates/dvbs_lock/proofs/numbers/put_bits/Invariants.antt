-- `dvbs_lock::numbers::put_bits` meets its contract.
-- Assumes nothing.
use Rattle.dvbs_lock.proofs.Bits.{BitsWritten}
use Rattle.dvbs_lock.proofs.numbers.put_bits.Given as goal

abbrev pub invariant-loop-k : goal.invariant-loop-k
invariant-loop-k l =
    BitsWritten l.bytes l.initial.output l.output l.k
