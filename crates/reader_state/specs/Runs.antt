-- Which runs of a reader are in range: their numbers are, and cells that hold nothing are zero.
-- Clauses: document 02, P1 and P8.
-- Assumes nothing.
use Rattle.std.specs.Prelude.{Bool, false, eqb, ltb, drop}
use Rattle.common.specs.Choice.{pick}
use Rattle.common.specs.Lists.{largest, padded}
use Rattle.puncturing.specs.Mode.{qpsk_count}
use Rattle.reader_stream.specs.Runs.{full_symbols, held_of}
use Rattle.reader_stream.specs.declared.symbol_runs.SymbolRuns.{SymbolRuns}

-- the numbers of the runs, with zeros in cells that hold nothing
abbrev pub runs_in_range : SymbolRuns → Bool
runs_in_range s =
    pick (ltb s.rate qpsk_count) (pick (ltb s.memory 64) (pick (ltb s.count (full_symbols s.rate)) (pick (eqb (largest (drop s.count s.held)) 0) (ltb (largest s.held) 81) false) false) false) false

-- the same runs, with zeros where nothing is held
abbrev pub cleared_runs : SymbolRuns → SymbolRuns
cleared_runs s = record { rate = s.rate; memory = s.memory; held = padded 1632 (held_of s); count = s.count }
