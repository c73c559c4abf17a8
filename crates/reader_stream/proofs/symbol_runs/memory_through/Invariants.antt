-- `reader_stream::symbol_runs::memory_through` meets its contract.
-- Assumes nothing.
use Rattle.reader_stream.proofs.Runs.{Passing}
use Rattle.reader_stream.proofs.symbol_runs.memory_through.Given as goal

abbrev pub invariant-loop-bit : goal.invariant-loop-bit
invariant-loop-bit l = Passing l.memory l.bits l.m l.bit-index
