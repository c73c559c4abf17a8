-- The mother code from a list of bits that has the oldest first: the memory's, and then those of a block.
-- Assumes nothing.
use Rattle.std.specs.Prelude.{List, [], ◌∷◌, ℕ, zero, suc, ◌+◌, ◌*◌, ◌/◌, ◌%◌, get_or}
use Rattle.common.specs.Lists.{total}

-- the bits of the memory, the oldest first
abbrev pub oldest : ℕ → List ℕ
oldest memory = memory % 2 ∷ memory / 2 % 2 ∷ memory / 4 % 2 ∷ memory / 8 % 2 ∷ memory / 16 % 2 ∷ memory / 32 % 2 ∷ []

-- the taps of G1 and G2 in a list of bits that has the oldest first: the bit itself is six after the oldest one of its memory
abbrev pub offsets_x : List ℕ
offsets_x = 6 ∷ 5 ∷ 4 ∷ 3 ∷ 0 ∷ []

abbrev pub offsets_y : List ℕ
offsets_y = 6 ∷ 4 ∷ 3 ∷ 1 ∷ 0 ∷ []

abbrev pub total_at : List ℕ → List ℕ → ℕ → ℕ
total_at os h n = total (λ o. get_or h (n + o) 0) os

-- X, or Y, of k bits of a list, the first of which follows six bits that begin at n
unfoldable pub sweep : List ℕ → List ℕ → ℕ → ℕ → List ℕ
sweep os h n zero = []
sweep os h n (suc k) = total_at os h n % 2 ∷ sweep os h (suc n) k

-- the memory that six bits of a list make, from n on
abbrev pub memory_at : List ℕ → ℕ → ℕ
memory_at h n = get_or h n 0 + 2 * get_or h (n + 1) 0 + 4 * get_or h (n + 2) 0 + 8 * get_or h (n + 3) 0 + 16 * get_or h (n + 4) 0 + 32 * get_or h (n + 5) 0
