-- The whole blocks of a buffer through the branches of either side.
-- Assumes nothing.
use mathlib.Core.List.{List, ◌++◌, flatten}
use Rattle.std.specs.Prelude.{ℕ, ◌*◌, ◌/◌, ltb, length, drop}
use Rattle.common.specs.Choice.{pick}
use Rattle.common.specs.Lists.{chunks_of}
use Rattle.interleaver.specs.Stream.{delayed}
use Rattle.interleaver.specs.declared.branches.Side.{Side}

-- the blocks that leave, one after the other
unfoldable pub delayed_bytes : Side → List ℕ → List ℕ
delayed_bytes side bytes = flatten (delayed side (chunks_of 204 bytes))

-- they stand in the output, unless it is shorter than the buffer
abbrev pub delay_output : Side → List ℕ → List ℕ → List ℕ
delay_output side bytes output =
    pick (ltb (length output) (length bytes)) output (delayed_bytes side bytes ++ drop (204 * (length bytes / 204)) output)
