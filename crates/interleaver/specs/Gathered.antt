-- Which received bytes one block depends on: EN 300 421, 4.4.2.
-- Assumes nothing.
use Rattle.std.specs.Prelude.{List, ℕ, ◌+◌, ◌*◌, ◌%◌, get_or}
use Rattle.common.specs.Lists.{list_of}

-- Byte n of the block that a fresh deinterleaver gives at its call p + 12 is byte n of the block received n mod 12 blocks after block p.
abbrev pub place_in : ℕ → ℕ → ℕ
place_in p n = 204 * (p + n % 12) + n

-- the 204 bytes of that block, from all the bytes received
unfoldable pub gathered : List ℕ → ℕ → List ℕ
unfolding list_of
gathered bytes p = list_of 204 (λ n. get_or bytes (place_in p n) 0)
