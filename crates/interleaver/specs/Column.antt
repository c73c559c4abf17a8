-- The bytes of a block that belong to one branch: the switches of EN 300 421, 4.4.2, go round the twelve branches, byte by byte.
-- Assumes nothing.
use Rattle.std.specs.Prelude.{List, [], ◌∷◌, ℕ, ◌+◌, ◌*◌, get_or, set}
use Rattle.common.specs.Lists.{list_of}

-- the bytes of a block that the input switch leads to branch j
unfoldable pub column : ℕ → List ℕ → List ℕ
unfolding list_of
column j block = list_of 17 (λ k. get_or block (12 * k + j) 0)

-- the output switch: bytes put into a list, the first at place n and each twelve places on
unfoldable pub scattered : ℕ → List ℕ → List ℕ → List ℕ
scattered n [] output = output
scattered n (b ∷ bs) output = scattered (n + 12) bs (set output n b)
