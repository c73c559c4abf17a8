-- The bytes of a number.
-- Assumes nothing.
use Rattle.std.specs.Prelude.{ℕ, zero, suc, ◌/◌, ◌%◌}

-- byte k of a number, the lowest being byte 0
unfoldable pub byte_at : ℕ → ℕ → ℕ
byte_at zero n = n % 256
byte_at (suc k) n = byte_at k (n / 256)
