-- `reception_counts::count_bytes::put_number` meets its contract.
-- Assumes nothing.
use Rattle.common.proofs.Written.{Written}
use Rattle.reception_counts.specs.Bytes.{to_bytes}
use Rattle.reception_counts.proofs.count_bytes.put_number.Given as goal

abbrev pub invariant-loop-k : goal.invariant-loop-k
invariant-loop-k l = Written l.at l.initial.output (to_bytes 8 l.number) l.output l.k
