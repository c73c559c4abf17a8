-- How many symbols a block gives at each place of each rate's pattern, by computation.
-- Assumes nothing.
use mathlib.Core.Path.{◌≡◌}
use mathlib.Core.List.{List, [], ◌∷◌}
use Prim.Native.Nat.{ℕ, ◌+◌, ◌*◌, ◌<◌}
use lib.ListN.{get_or}
use Rattle.puncturing.specs.Mode.{mode_of, block_bits, block_bits_by, mode_count, longest_pattern}
use Rattle.puncturing.specs.Step.{pattern_length, symbols_in, count_by}
use Rattle.puncturing.proofs.Places.{agreed_of_lem}

-- seven entries for each rate
unfoldable pub table : List ℕ
table = 1632 ∷ 0 ∷ 0 ∷ 0 ∷ 0 ∷ 0 ∷ 0 ∷ 1224 ∷ 1224 ∷ 1224 ∷ 1224 ∷ 0 ∷ 0 ∷ 0 ∷ 1088 ∷ 1088 ∷ 1088 ∷ 0 ∷ 0 ∷ 0 ∷ 0 ∷ 979 ∷ 979 ∷ 979 ∷ 979 ∷ 980 ∷ 0 ∷ 0 ∷ 933 ∷ 932 ∷ 933 ∷ 932 ∷ 933 ∷ 932 ∷ 933 ∷ 544 ∷ 0 ∷ 0 ∷ 0 ∷ 0 ∷ 0 ∷ 0 ∷ []

pub block_symbols_lem : (r p : ℕ) → r < mode_count → p < pattern_length r → get_or table (r * longest_pattern + p) 0 ≡ symbols_in r p (block_bits r)
unfolding table count_by mode_of block_bits_by
block_symbols_lem = agreed_of_lem mode_count (λ r p. get_or table (r * longest_pattern + p) 0) (λ r p. symbols_in r p (block_bits r)) tt
