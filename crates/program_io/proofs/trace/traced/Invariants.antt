-- `program_io::trace::traced` meets its contract.
-- Assumes nothing.
use Rattle.std.proofs.Common.{◌≡◌, ◌≤◌, length, drop}
use Rattle.program_io.specs.Checksum as checksum
use Rattle.program_io.proofs.trace.traced.Given as goal

abbrev pub invariant-loop-byte : goal.invariant-loop-byte
invariant-loop-byte l = (l.byte-index ≤ length l.bytes) × (checksum.traced l.after (drop l.byte-index l.bytes) ≡ checksum.traced l.initial.after l.bytes)
