-- The puncturing of one bit, at a place of a mode's pattern.
-- Clause: document 01, "Inner code".
-- Assumes nothing.
use Rattle.std.specs.Prelude.{List, [], ◌∷◌, map, ℕ, zero, suc, ◌+◌, ◌%◌, eqb, length, get_or, Option, None, Some}
use Rattle.common.specs.Choice.{pick}
use Rattle.puncturing.specs.Mode.{CodedBit, X, Y, Mode, mode_of, completed, begun, binary}

abbrev pub next_by : Mode → ℕ → ℕ
next_by m place = (place + 1) % m.bits

-- 1 where an I is held before the bit at a place of the pattern, else 0
unfoldable pub held_count_by : Mode → ℕ → ℕ
held_count_by m place = length (begun m place)

-- a coded bit, where x and y are those of bit i, the newest: one of an earlier bit is held
abbrev pub value_at : ℕ → ℕ → ℕ → ℕ → CodedBit → ℕ
value_at i x y held (X j) = pick (eqb j i) x held
value_at i x y held (Y j) = pick (eqb j i) y held

abbrev pub symbol_of : List ℕ → Option ℕ
symbol_of [] = None
symbol_of (s ∷ ss) = Some s

abbrev pub symbol_list : Option ℕ → List ℕ
symbol_list None = []
symbol_list (Some s) = s ∷ []

-- the symbol that the bit at a place completes
unfoldable pub punctured_by : Mode → ℕ → ℕ → ℕ → ℕ → Option ℕ
punctured_by m place x y held =
    symbol_of (map (λ (s : List CodedBit). binary (map (value_at (place + 1) x y held) s)) (completed m (place + 1)))

-- the held bit after the bit at a place: the first coded bit of the symbol that has begun
abbrev pub first_of : ℕ → ℕ → ℕ → ℕ → List CodedBit → ℕ
first_of i x y held s = get_or (map (value_at i x y held) s) 0 0

unfoldable pub held_by : Mode → ℕ → ℕ → ℕ → ℕ → ℕ
held_by m place x y held = get_or (map (first_of (place + 1) x y held) (begun m (place + 1))) 0 0

-- how many symbols n bits complete
unfoldable pub count_by : Mode → ℕ → ℕ → ℕ
count_by m place zero = 0
count_by m place (suc n) = length (completed m (place + 1)) + count_by m (next_by m place) n

-- ---- of the mode with a number

abbrev pub pattern_length : ℕ → ℕ
pattern_length rate = (mode_of rate).bits

abbrev pub place_next : ℕ → ℕ → ℕ
place_next rate = next_by (mode_of rate)

abbrev pub held_count : ℕ → ℕ → ℕ
held_count rate = held_count_by (mode_of rate)

abbrev pub punctured : ℕ → ℕ → ℕ → ℕ → ℕ → Option ℕ
punctured rate = punctured_by (mode_of rate)

abbrev pub held_after : ℕ → ℕ → ℕ → ℕ → ℕ → ℕ
held_after rate = held_by (mode_of rate)

abbrev pub symbols_in : ℕ → ℕ → ℕ → ℕ
symbols_in rate = count_by (mode_of rate)
