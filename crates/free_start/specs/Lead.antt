-- Symbols of which nothing is known, put in front of those that came, so that a reader may begin with any memory: every memory can be reached over them
-- at no cost.
-- Assumes nothing.
use Rattle.std.specs.Prelude.{◌≡◌, [], ◌∷◌, ℕ, ◌*◌, ◌<◌, get_or}
use Rattle.puncturing.specs.Step.{pattern_length}
use Rattle.reader.specs.Read.{symbols_per_pattern}

-- a received symbol that makes every sent one cost nothing
abbrev pub Unknown : {R : Type 0} → (R → ℕ → ℕ) → R → Type 0
Unknown cost r = (sent : ℕ) → sent < 4 → cost r sent ≡ 0

-- for each rate so many patterns that they have six bits or more: 6, 8, 6, 10 and 7
unfoldable pub lead_patterns : ℕ → ℕ
lead_patterns rate = get_or (6 ∷ 2 ∷ 2 ∷ 2 ∷ 1 ∷ []) rate 0

unfoldable pub lead_symbols : ℕ → ℕ
lead_symbols rate = symbols_per_pattern rate * lead_patterns rate

unfoldable pub bits_of_lead : ℕ → ℕ
bits_of_lead rate = pattern_length rate * lead_patterns rate
