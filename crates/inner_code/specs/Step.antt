-- The inner coder as a value: what one bit, and what a list of bits of the encoded branch, does to it, in a mode.
-- Clause: document 01, "Inner code".
-- Assumes nothing.
use Rattle.std.specs.Prelude.{Bool, false, List, [], ◌∷◌, ◌++◌, ℕ, ◌<◌, ◌≤◌, ltb, leb, Option}
use Rattle.common.specs.Choice.{pick}
use Rattle.convolutional_code.specs.Code.{taps_x, taps_y, next_memory, coded}
use Rattle.puncturing.specs.Mode.{Mode, mode_of, mode_count}
use Rattle.puncturing.specs.Step.{next_by, held_count_by, symbol_list, punctured_by, held_by}
use Rattle.inner_code.specs.declared.InnerCoder.{InnerCoder}

-- document 01, "State ranges": six bits of memory, a place of the mode's pattern, and the held bit 0 where none is held
unfoldable pub in_range_by : Mode → InnerCoder → Bool
in_range_by m c = pick (ltb c.memory 64) (pick (ltb c.place m.bits) (leb c.held (held_count_by m c.place)) false) false

pub record InRangeBy (m : Mode) (c : InnerCoder) : Type 0 where
  pub memory : c.memory < 64
  pub place : c.place < m.bits
  pub held : c.held ≤ held_count_by m c.place

-- the coder after a bit, and the symbol that the bit completes
abbrev pub step_by : Mode → InnerCoder → ℕ → InnerCoder
step_by m c bit = record {
  rate = c.rate;
  memory = next_memory c.memory bit;
  place = next_by m c.place;
  held = held_by m c.place (coded taps_x c.memory bit) (coded taps_y c.memory bit) c.held;
}

abbrev pub symbol_by : Mode → InnerCoder → ℕ → Option ℕ
symbol_by m c bit = punctured_by m c.place (coded taps_x c.memory bit) (coded taps_y c.memory bit) c.held

-- the symbols of a list of bits, and the coder after them
unfoldable pub symbols_by : Mode → InnerCoder → List ℕ → List ℕ
symbols_by m c [] = []
symbols_by m c (b ∷ bs) = symbol_list (symbol_by m c b) ++ symbols_by m (step_by m c b) bs

unfoldable pub coder_by : Mode → InnerCoder → List ℕ → InnerCoder
coder_by m c [] = c
coder_by m c (b ∷ bs) = coder_by m (step_by m c b) bs

-- ---- in the mode that the coder's rate is the number of

abbrev pub coder_in_range : InnerCoder → Bool
coder_in_range c = pick (ltb c.rate mode_count) (in_range_by (mode_of c.rate) c) false

-- The same as facts. The rate is that of a mode: the pattern of a number that is no mode has no bits, and so no place.
abbrev pub CoderInRange : InnerCoder → Type 0
CoderInRange c = InRangeBy (mode_of c.rate) c

abbrev pub symbols_of : InnerCoder → List ℕ → List ℕ
symbols_of c = symbols_by (mode_of c.rate) c

abbrev pub coder_after : InnerCoder → List ℕ → InnerCoder
coder_after c = coder_by (mode_of c.rate) c
