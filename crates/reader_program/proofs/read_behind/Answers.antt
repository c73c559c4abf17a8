-- `reader_program::read_behind` meets its contract.
-- Assumes nothing.
use native.Mathlib.Omega.{arith}
use Rattle.reader_program.proofs.Turning.{reads_behind}
use Rattle.reader_program.proofs.read_behind.Goals as goal

pub returns : goal.returns
returns c =
    reads_behind c.args.held.now c.args.buffer.now c.read-filled.new.buffer c.requires.0 (omega (arith, c.requires.1)) c.read-filled.auto.buffer c.put.ensures c.read-filled.ensures
