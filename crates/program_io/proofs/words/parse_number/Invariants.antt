-- `program_io::words::parse_number` meets its contract.
-- Assumes nothing.
use Rattle.std.proofs.Common.{◌<◌, length}
use Rattle.program_io.proofs.Numerals.{Reading}
use Rattle.program_io.proofs.words.parse_number.Given as goal

abbrev pub invariant-loop-character : goal.invariant-loop-character
invariant-loop-character l = (Reading l.word l.most l.value l.character-index) × (0 < length l.word)
