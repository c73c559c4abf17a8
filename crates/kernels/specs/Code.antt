-- The whole blocks of a buffer through the inner coder.
-- Assumes nothing.
use Rattle.std.specs.Prelude.{Bool, true, ℕ, ◌/◌, ltb, length, drop}
use mathlib.Core.List.{List, ◌++◌, flatten}
use Rattle.common.specs.Choice.{pick}
use Rattle.common.specs.Lists.{chunks_of}
use Rattle.puncturing.specs.Mode.{mode_of}
use Rattle.inner_code.specs.Stream.{stream_symbols}

-- their symbols
unfoldable pub coded_symbols : ℕ → List ℕ → List ℕ
coded_symbols rate bytes = stream_symbols (mode_of rate) (flatten (chunks_of 204 bytes))

-- a mode that is not sent, or less room than a symbol for each bit
abbrev pub refused : ℕ → List ℕ → List ℕ → Bool
refused rate bytes output = pick (mode_of rate).sent (ltb (length output / 8) (length bytes)) true

-- how many symbols are written, and the output then
abbrev pub code_count : ℕ → List ℕ → List ℕ → ℕ
code_count rate bytes output = pick (refused rate bytes output) 0 (length (coded_symbols rate bytes))

abbrev pub code_output : ℕ → List ℕ → List ℕ → List ℕ
code_output rate bytes output =
    pick (refused rate bytes output) output (coded_symbols rate bytes ++ drop (length (coded_symbols rate bytes)) output)
