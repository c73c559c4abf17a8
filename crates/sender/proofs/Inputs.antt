-- What holds of the packet that is sent for an input.
-- Assumes nothing.
use mathlib.Core.Path.{◌≡◌, refl, ap, ap₂, sym, ◌∙◌}
use mathlib.Core.Bool.{Bool, true, false}
use mathlib.Core.Logic.{inl, inr}
use mathlib.Core.List.{List, [], ◌∷◌}
use Prim.Native.Nat.{ℕ, zero, suc, ◌<◌}
use native.Mathlib.Omega.{arith}
use borrow.Author.Tests.{eq-eqb, ne_eqb, eqb-true}
use lib.Dec.{eqb}
use lib.ListN.{length, get_or, replicate}
use Rattle.common.specs.Choice.{pick}
use Rattle.common.specs.Lists.{All, Bytes, Length, chunks_of}
use Rattle.common.proofs.Lists.{All-map}
use Rattle.common.proofs.Chunks.{chunks_whole}
use Rattle.randomizer.specs.Stream.{Packet}
use Rattle.sender.specs.Input.{Input, is_input, is_synced, null_packet, packet_for, packets_for}

pub input_test : (input : List ℕ) → Input input → is_input input ≡ true
input_test input (inl e) = ap (λ (n : ℕ). pick (eqb n 0) true (eqb n 188)) e
input_test input (inr e) = ap (λ (n : ℕ). pick (eqb n 0) true (eqb n 188)) e

-- the null packet is a packet
pub bytes_replicate : (n v : ℕ) → v < 256 → Bytes (replicate n v)
bytes_replicate zero v h = tt
bytes_replicate (suc n) v h = (h, bytes_replicate n v h)

null : Packet null_packet
unfolding null_packet
null = record { size = refl; bytes = (omega arith, (omega arith, (omega arith, (omega arith, bytes_replicate 184 0xFF (omega arith))))); sync = refl }

-- a packet is sent as it is
pub packet_kept : (packet : List ℕ) → get_or packet 0 0 ≡ 0x47 → packet_for packet ≡ packet
unfolding packet_for
packet_kept packet e = simp (eq-eqb _ _ e)

pub packets_kept : (packets : List (List ℕ)) → All Packet packets → packets_for packets ≡ packets
packets_kept [] g = refl
packets_kept (p ∷ ps) g = ap₂ (λ (x : List ℕ) (l : List (List ℕ)). x ∷ l) (packet_kept p g.0.sync) (packets_kept ps g.1)

-- anything else is replaced
pub packet_replaced : (input : List ℕ) → is_synced input ≡ false → packet_for input ≡ null_packet
unfolding packet_for
packet_replaced input e = simp e

-- what is sent is 188 bytes that begin with the sync byte
pub packet_size : (input : List ℕ) → is_input input ≡ true → length (packet_for input) ≡ 188
unfolding packet_for
packet_size [] e = null.size
packet_size (b ∷ bs) e = by (is_synced (b ∷ bs))
  where
    some : eqb (length (b ∷ bs)) 0 ≡ false
    some = ne_eqb (length (b ∷ bs)) 0 (λ f. omega arith)

    by : (t : Bool) → length (pick t (b ∷ bs) null_packet) ≡ 188
    by true = eqb-true _ _ (ap (λ (t : Bool). pick t true (eqb (length (b ∷ bs)) 188)) (sym some) ∙ e)
    by false = null.size

pub packet_sync : (input : List ℕ) → get_or (packet_for input) 0 0 ≡ 0x47
unfolding packet_for
packet_sync input = by (is_synced input) refl
  where
    by : (t : Bool) → is_synced input ≡ t → get_or (pick t input null_packet) 0 0 ≡ 0x47
    by true e = eqb-true _ _ e
    by false e = null.sync

pub packet_lengths : (inputs : List (List ℕ)) → All Input inputs → All (Length 188) (packets_for inputs)
packet_lengths [] g = tt
packet_lengths (p ∷ ps) g = (packet_size p (input_test p g.0), packet_lengths ps g.1)

packet_bytes : (input : List ℕ) → Bytes input → Bytes (packet_for input)
unfolding packet_for
packet_bytes input h = by (is_synced input)
  where
    by : (t : Bool) → Bytes (pick t input null_packet)
    by true = h
    by false = null.bytes

-- so what is sent is a list of packets, whatever the inputs are
pub packets_sent_lem : (inputs : List (List ℕ)) → All Input inputs → All Bytes inputs → All Packet (packets_for inputs)
packets_sent_lem [] g h = tt
packets_sent_lem (p ∷ ps) g h = (
  record { size = packet_size p (input_test p g.0); bytes = packet_bytes p h.0; sync = packet_sync p },
  packets_sent_lem ps g.1 h.1,
)

-- each packet of a buffer is an input of the sender
pub packets_inputs : (l : List ℕ) → All Input (chunks_of 188 l)
packets_inputs l = All-map (Length 188) Input (λ p e. inr e) (chunks_of 188 l) (chunks_whole 188 l)
