-- Energy dispersal of a whole transport stream: EN 300 421, 4.4.1.
-- Assumes nothing.
use Rattle.std.specs.Prelude.{◌≡◌, ℕ, ◌+◌, ◌%◌, length, get_or}
use mathlib.Core.List.{List, [], ◌∷◌, flatten}
use Rattle.std.specs.Int.Bits.{bit_xor}
use Rattle.common.specs.Lists.{Length, Bytes, chunks}
use Rattle.randomizer.specs.Prbs.{masks}
use Rattle.randomizer.specs.Packet.{randomized}

-- a transport packet: 188 bytes that begin with the sync byte 47 hex
pub record Packet (packet : List ℕ) : Type 0 where
  pub size : Length 188 packet
  pub bytes : Bytes packet
  pub sync : get_or packet 0 0 ≡ 0x47

-- What byte n of a stream is xored with, byte 0 being the first of a group.
-- It is the same for every group of 1,504 bytes, since the register is loaded anew for each.
unfoldable pub mask_at : ℕ → ℕ
unfolding masks
mask_at n = get_or masks (n % 1504) 0

-- the bytes of a stream from byte n on
unfoldable pub dispersed : ℕ → List ℕ → List ℕ
unfolding mask_at
dispersed n [] = []
dispersed n (b ∷ bs) = bit_xor b (mask_at n) ∷ dispersed (n + 1) bs

-- the transport packets as they are sent to the outer coder, from the start of a group
unfoldable pub randomized_stream : List (List ℕ) → List (List ℕ)
unfolding dispersed chunks flatten
randomized_stream packets = chunks 188 (length packets) (dispersed 0 (flatten packets))

-- call after call, the first packet being packet n of the stream: the places go 0, 1, .. 7, 0, ..
unfoldable pub randomized_from : ℕ → List (List ℕ) → List (List ℕ)
unfolding randomized
randomized_from n [] = []
randomized_from n (p ∷ ps) = randomized (n % 8) p ∷ randomized_from (n + 1) ps
