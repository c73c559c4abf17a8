-- Lists of bits, and the bits of bytes.
-- Clause: document 01, "Inner code".
-- Assumes nothing.
use Rattle.std.specs.Prelude.{List, [], ◌∷◌, ℕ, ◌/◌, ◌%◌, ◌<◌}

-- the bits of a list of bytes, the top bit of each byte first
unfoldable pub bits_of : List ℕ → List ℕ
bits_of [] = []
bits_of (b ∷ bs) = b / 128 % 2 ∷ b / 64 % 2 ∷ b / 32 % 2 ∷ b / 16 % 2 ∷ b / 8 % 2 ∷ b / 4 % 2 ∷ b / 2 % 2 ∷ b % 2 ∷ bits_of bs

-- every number of a list is a bit
pub data Bits : List ℕ → Type 0 where
  none : Bits []
  more : {b : ℕ} {l : List ℕ} → b < 2 → Bits l → Bits (b ∷ l)
