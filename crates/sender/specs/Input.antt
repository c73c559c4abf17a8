-- What is sent for an input of the sending chain: the packet that it is, or a null packet where it is missing or is none.
-- EN 300 421, 4.4.1: energy dispersal stays active where there is no input, or where it is no transport stream.
-- Clause: document 02, P2.
-- Assumes nothing.
use Rattle.std.specs.Prelude.{◌≡◌, Bool, true, ◌⊎◌, List, ◌∷◌, map, ℕ, eqb, length, get_or, replicate}
use Rattle.common.specs.Choice.{pick}

-- an input: no bytes, or those of a packet
abbrev pub Input : List ℕ → Type 0
Input input = (length input ≡ 0) ⊎ (length input ≡ 188)

-- the test for it
abbrev pub is_input : List ℕ → Bool
is_input input = pick (eqb (length input) 0) true (eqb (length input) 188)

-- whether it begins with the sync byte; false for an empty input
abbrev pub is_synced : List ℕ → Bool
is_synced input = eqb (get_or input 0 0) 0x47

-- the null packet: sync byte, packet identifier 1FFF hex, no adaptation field, and a payload of bytes FF
unfoldable pub null_packet : List ℕ
null_packet = 0x47 ∷ 0x1F ∷ 0xFF ∷ 0x10 ∷ replicate 184 0xFF

-- the packet that is sent for an input, and the number of the answer that says which
unfoldable pub packet_for : List ℕ → List ℕ
packet_for input = pick (is_synced input) input null_packet

abbrev pub sent_number : List ℕ → ℕ
sent_number input = pick (is_synced input) 0 15

-- a list of inputs, with null packets put in
abbrev pub packets_for : List (List ℕ) → List (List ℕ)
packets_for inputs = map packet_for inputs
