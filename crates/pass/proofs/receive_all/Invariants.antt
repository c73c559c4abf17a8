-- `pass::receive_all` meets its contract.
-- Assumes nothing.
use mathlib.Core.Path.{◌≡◌}
use mathlib.Core.Bool.{false}
use lib.ListN.{length}
use Rattle.program_io.specs.Files.{input_origin, output_file}
use Rattle.receiver_stream.specs.Feed.{capacity_of}
use Rattle.pass.specs.Pass.{PassCame}
use Rattle.pass.proofs.receive_all.Given as goal

abbrev pub invariant-loop-ending : goal.invariant-loop-ending
invariant-loop-ending l =
    (PassCame l.wanted l.initial.marks l.input l.marks l.output l.stream)
    × (length l.bytes ≡ 65536)
    × (length l.own ≡ 65536)
    × (length l.packets ≡ 65536)
    × (input_origin l.input ≡ input_origin l.initial.input)
    × (input_origin l.marks ≡ input_origin l.initial.marks)
    × (output_file l.output ≡ output_file l.initial.output)
    × (l.wanted ≡ false → l.output ≡ l.initial.output)

abbrev pub decreases-loop-ending : goal.decreases-loop-ending
decreases-loop-ending l = capacity_of l.stream
