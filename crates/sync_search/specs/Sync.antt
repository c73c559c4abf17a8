-- Where blocks begin in a list of bits: five sync bytes, 1,632 bits apart, of which at most one is not as the others.
-- Clauses: EN 300 421, 4.4.2 and 4.4.3, note 1 (source document 002): the sync bytes keep their period of 204 bytes in the interleaved stream, and tell a
-- half turn of the carrier, which inverts every bit.
-- Assumes nothing.
use Rattle.std.specs.Prelude.{◌≡◌, Bool, true, false, List, ℕ, ◌+◌, ◌*◌, ◌%◌, ◌≤◌, ◌<◌, eqb, ltb, length, get_or, Option, Some, None}
use Rattle.common.specs.Choice.{pick, indicator}

-- the byte that eight bits from a place on make, the first on top
unfoldable pub byte_at : List ℕ → ℕ → ℕ
byte_at l at =
    128 * (get_or l at 0 % 2)
    + 64 * (get_or l (at + 1) 0 % 2)
    + 32 * (get_or l (at + 2) 0 % 2)
    + 16 * (get_or l (at + 3) 0 % 2)
    + 8 * (get_or l (at + 4) 0 % 2)
    + 4 * (get_or l (at + 5) 0 % 2)
    + 2 * (get_or l (at + 6) 0 % 2)
    + get_or l (at + 7) 0 % 2

-- 1 where that byte is a value, else 0
unfoldable pub is_at : List ℕ → ℕ → ℕ → ℕ
is_at l value at = indicator (eqb (byte_at l at) value)

-- how many of the five, a block's 1,632 bits apart, are that value
unfoldable pub count_at : List ℕ → ℕ → ℕ → ℕ
count_at l value at = is_at l value at + is_at l value (at + 1632) + is_at l value (at + 3264) + is_at l value (at + 4896) + is_at l value (at + 6528)

-- five sync bytes, at most one of them B8, or at most one of them 47 where all is inverted
unfoldable pub sync_at : List ℕ → ℕ → Bool
sync_at l at = pick (eqb (count_at l 0x47 at + count_at l 0xB8 at) 5) (pick (ltb (count_at l 0x47 at) 2) true (ltb (count_at l 0xB8 at) 2)) false

-- the bits from a place on are enough to tell
abbrev pub Enough : List ℕ → ℕ → Type 0
Enough l at = at + 6536 ≤ length l

-- the first place from a place on, or none
pub data FirstSync (l : List ℕ) (from : ℕ) : Option ℕ → Type 0 where
  first : (at : ℕ) → from ≤ at → Enough l at → sync_at l at ≡ true → ((q : ℕ) → from ≤ q → q < at → sync_at l q ≡ false) → FirstSync l from (Some at)
  nowhere : ((q : ℕ) → from ≤ q → Enough l q → sync_at l q ≡ false) → FirstSync l from None
