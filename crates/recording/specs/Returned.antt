-- Demand 2, receiving, of a run: the packets of a fresh sender come back, all but the last eleven, which are still in the delays.
-- Clause: document 01, "Delay branches".
-- Assumes nothing.
use Rattle.std.specs.Prelude.{◌≡◌, ℕ, ◌-◌, ◌*◌, ◌≤◌, length, take, drop}
use mathlib.Core.List.{List, ◌++◌, flatten}
use Rattle.common.specs.Lists.{All}
use Rattle.randomizer.specs.Stream.{Packet}
use Rattle.sent_blocks.specs.Blocks.{sent_bytes}

-- What a run leaves, where the bytes are those of a sender and there is room for its packets.
pub record Returns (bytes output : List ℕ) (number count : ℕ) (exit : List ℕ) : Type 0 where
  pub back : (packets : List (List ℕ)) → All Packet packets → length packets ≤ 4294967295 → bytes ≡ sent_bytes packets → 188 * length packets ≤ length output
      → (number ≡ 0) × (count ≡ 188 * (length packets - 11)) × (exit ≡ flatten (take (length packets - 11) packets) ++ drop count output)
