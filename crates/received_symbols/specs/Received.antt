-- Received symbols as bytes: hard decisions, one byte each, 0 to 3; or points, two f32 each, I and then Q, the lowest byte first.
-- Clauses: document 02, P1 and P8.
-- Assumes nothing.
use Rattle.std.specs.Prelude.{Bool, true, false, List, map, ℕ, ◌+◌, ◌*◌, ◌<◌, Float, get_or, Some, None}
use Rattle.std.specs.Float.Ieee.{is_nan, of_bits}
use Rattle.std.specs.Float.{binary32}
use Rattle.common.specs.Choice.{pick}
use Rattle.common.specs.Lists.{All, chunks_of}
use Rattle.branch_metrics.specs.Cost.{softly, ReceivedSymbol}
use Rattle.branch_metrics.specs.SoftPairs.{symbol_pair}
use Rattle.reader.specs.Cost.{differing}

-- ---- points

-- the number whose lowest byte is at a place
abbrev pub word_at : List ℕ → ℕ → ℕ
word_at bytes at = get_or bytes at 0 + 256 * get_or bytes (at + 1) 0 + 65536 * get_or bytes (at + 2) 0 + 16777216 * get_or bytes (at + 3) 0

-- the f32 there; every NaN's pattern is a NaN
abbrev pub number : List ℕ → ℕ → Float
number bytes at = of_bits binary32 (word_at bytes at)

-- the symbol that two numbers stand for: a lost one where both are NaN
abbrev pub point : Float → Float → ReceivedSymbol
point i q = pick (is_nan i) (pick (is_nan q) None (Some (record { i = i; q = q }))) (Some (record { i = i; q = q }))

-- that of eight bytes, and those of the whole points of some bytes
abbrev pub point_of : List ℕ → ReceivedSymbol
point_of bytes = point (number bytes 0) (number bytes 4)

abbrev pub points_of : List ℕ → List ReceivedSymbol
points_of bytes = map point_of (chunks_of 8 bytes)

-- the decisions on them, one number for each
abbrev pub pairs_of : List ℕ → List ℕ
pairs_of bytes = map symbol_pair (points_of bytes)

-- a point by its place
abbrev pub point_at : List ℕ → ℕ → ReceivedSymbol
point_at bytes k = point (number bytes (8 * k)) (number bytes (8 * k + 4))

-- ---- hard or soft decisions

-- what is received, and what it makes each sent symbol cost
abbrev pub Symbol : Bool → Type 0
Symbol false = ℕ
Symbol true = ReceivedSymbol

abbrev pub cost_of : (soft : Bool) → Symbol soft → ℕ → ℕ
cost_of false = differing
cost_of true = softly

-- how many bytes a symbol has
abbrev pub width : Bool → ℕ
width false = 1
width true = 8

-- the whole symbols of some bytes
abbrev pub symbols_in : (soft : Bool) → List ℕ → List (Symbol soft)
symbols_in false bytes = bytes
symbols_in true bytes = points_of bytes

-- A byte above 3 is no symbol. Eight bytes are always a point.
abbrev pub Valid : Bool → List ℕ → Type 0
Valid false bytes = All (λ x. x < 4) bytes
Valid true bytes = Unit {0}
