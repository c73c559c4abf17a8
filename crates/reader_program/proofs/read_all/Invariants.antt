-- `reader_program::read_all` meets its contract.
-- Assumes nothing.
use mathlib.Core.Path.{◌≡◌}
use Prim.Native.Nat.{◌-◌, ◌≤◌}
use lib.ListN.{length}
use Rattle.program_io.specs.Files.{StandardFiles}
use Rattle.reader_program.specs.Ends.{Going}
use Rattle.reader_program.proofs.read_all.Given as goal

abbrev pub invariant-loop-came : goal.invariant-loop-came
invariant-loop-came l =
    (Going l.soft l.rate l.input l.output l.pass l.came) × (StandardFiles l.input l.output l.errors) × (length l.buffer ≡ 262152) × (length l.pairs ≡ 32768) × (length l.bits ≡ 1632) × (length l.bytes ≡ 8600)
    × (l.came ≤ 9223372036855037951)

abbrev pub decreases-loop-came : goal.decreases-loop-came
decreases-loop-came l = 9223372036855037952 - l.came
