-- Hard decisions as the decoder takes them, and as the state of a reader holds them.
-- Assumes nothing.
use Rattle.std.specs.Prelude.{ℕ, ◌-◌, ◌*◌, ◌/◌, ◌%◌}

-- The decisions on I and Q of a symbol as one number, 9 i + q: level 4 for a 0, and 3 for a 1. Each costs 3, and 1 more where the bit is decided otherwise.
abbrev pub hard_pair : ℕ → ℕ
hard_pair s = 40 - 9 * (s / 2) - s % 2
