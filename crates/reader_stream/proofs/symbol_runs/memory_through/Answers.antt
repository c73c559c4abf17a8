-- `reader_stream::symbol_runs::memory_through` meets its contract.
-- Assumes nothing.
use native.Mathlib.Omega.{arith}
use Rattle.convolutional_code.proofs.Bits.{bits_at}
use Rattle.reader_stream.proofs.Runs.{passing_none, passing_more, passing_all}
use Rattle.reader_stream.proofs.symbol_runs.memory_through.Goals as goal

pub loop-bit-init : goal.loop-bit-init
loop-bit-init c = passing_none _ _ c.requires.0

pub next_memory-m-requires : goal.next_memory-m-requires
next_memory-m-requires c = (c.loop-bit.invariant.small, bits_at c.requires.1 c.loop-bit.bit-index)

pub loop-bit-preserved : goal.loop-bit-preserved
loop-bit-preserved c = passing_more c.loop-bit.invariant (omega arith) (bits_at c.requires.1 c.loop-bit.bit-index) c.next_memory-m.ensures

pub returns : goal.returns
returns c = passing_all c.loop-bit.invariant (omega arith)
