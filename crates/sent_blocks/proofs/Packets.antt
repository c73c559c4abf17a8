-- Block b of a sender and its packet: the coded block is of that packet alone, the bytes of blocks are bytes, and those of the first branch are not delayed.
-- Assumes nothing.
use mathlib.Core.Path.{◌≡◌, sym, ap, subst, ◌∙◌}
use mathlib.Core.List.{List, [], ◌∷◌, ◌++◌, map, flatten}
use Prim.Native.Nat.{ℕ, zero, suc, ◌+◌, ◌-◌, ◌%◌, ◌≤◌, ◌<◌}
use Prim.{tt}
use native.Mathlib.Nat.{not-suc-le-zero}
use native.Mathlib.Omega.{arith}
use borrow.Author.Tests.{le-ltb}
use lib.ListN.{length, get_or}
use Rattle.common.specs.Lists.{All, Bytes, ByteEntries, Length}
use Rattle.common.proofs.Lists.{All-map}
use Rattle.common.proofs.Entries.{bytes_of, bytes_entries}
use Rattle.reed_solomon.specs.Encode.{encoded}
use Rattle.reed_solomon.proofs.LongDivision.{encoded_bytes}
use Rattle.randomizer.specs.Packet.{randomized}
use Rattle.randomizer.specs.Stream.{Packet, randomized_from}
use Rattle.randomizer.proofs.Laws.{length_randomized, bytes_randomized}
use Rattle.randomizer.proofs.Whole.{packet_lengths, randomized_stream_lem}
use Rattle.interleaver.specs.declared.branches.Side.TheVariants.{Sending}
use Rattle.interleaver.specs.Branch.{delay_of}
use Rattle.interleaver.specs.Stream.{earlier, interleaved}
use Rattle.interleaver.proofs.Streams.{delayed_at, delayed_bytes_lem}
use Rattle.sent_blocks.specs.Blocks.{coded_blocks, interleaved_blocks, sent_bytes}

-- ---- the coded block

coded_from : (n : ℕ) (ps : List (List ℕ)) (b : ℕ) → b < length ps → get_or (map encoded (randomized_from n ps)) b [] ≡ encoded (randomized ((n + b) % 8) (get_or ps b []))
unfolding randomized_from
coded_from n [] b h = absurd (not-suc-le-zero h)
coded_from n (p ∷ ps) zero h = let e : n ≡ n + 0 = omega arith in ap (λ (k : ℕ). encoded (randomized (k % 8) p)) e
coded_from n (p ∷ ps) (suc b) h =
    let e : n + 1 + b ≡ n + suc b = omega arith in
    coded_from (n + 1) ps b (omega arith) ∙ ap (λ (k : ℕ). encoded (randomized (k % 8) (get_or ps b []))) e

pub coded_at : (packets : List (List ℕ)) → All (Length 188) packets → (b : ℕ) → b < length packets
    → get_or (coded_blocks packets) b [] ≡ encoded (randomized (b % 8) (get_or packets b []))
coded_at packets g b h =
    let e : 0 + b ≡ b = omega arith in
    ap (λ (l : List (List ℕ)). get_or (map encoded l) b []) (sym (randomized_stream_lem packets g))
    ∙ coded_from 0 packets b h ∙ ap (λ (k : ℕ). encoded (randomized (k % 8) (get_or packets b []))) e

-- ---- the interleaved block

-- a byte of the first branch is not delayed
pub not_delayed : (blocks : List (List ℕ)) (b n : ℕ) → b < length blocks → n < 204 → n % 12 ≡ 0 → get_or (get_or (interleaved blocks) b []) n 0 ≡ get_or (get_or blocks b []) n 0
unfolding earlier
not_delayed blocks b n h l z =
    let e : b - 0 ≡ b = omega arith in
    delayed_at Sending blocks b n h l ∙ ap (λ (k : ℕ). earlier blocks (delay_of Sending k) b n) z
    ∙ rw (le-ltb b 0 (omega arith)) (ap (λ (i : ℕ). get_or (get_or blocks i []) n 0) e)

coded_bytes : (n : ℕ) (ps : List (List ℕ)) → All Packet ps → All ByteEntries (map encoded (randomized_from n ps))
unfolding randomized_from
coded_bytes n [] ws = tt
coded_bytes n (p ∷ ps) ws =
    let w = ws.0 in
    let s : n % 8 ≤ 7 = omega arith in (
      bytes_entries (encoded (randomized (n % 8) p))
          (encoded_bytes (randomized (n % 8) p) (length_randomized (n % 8) p s w.size) (bytes_of (randomized (n % 8) p) (bytes_randomized (n % 8) p s w.size (bytes_entries p w.bytes)))),
      coded_bytes (n + 1) ps ws.1,
    )

pub interleaved_bytes : (packets : List (List ℕ)) → All Packet packets → All Bytes (interleaved_blocks packets)
interleaved_bytes packets ws =
    All-map ByteEntries Bytes bytes_of (interleaved_blocks packets)
    (delayed_bytes_lem Sending (coded_blocks packets)
    (subst (λ (x : List (List ℕ)). All ByteEntries (map encoded x)) (randomized_stream_lem packets (packet_lengths packets ws)) (coded_bytes 0 packets ws)))

pub flat_bytes : (blocks : List (List ℕ)) → All Bytes blocks → Bytes (flatten blocks)
unfolding flatten
flat_bytes [] g = tt
flat_bytes (b ∷ bs) g = joined b (flatten bs) g.0 (flat_bytes bs g.1)
  where
    joined : (x y : List ℕ) → Bytes x → Bytes y → Bytes (x ++ y)
    joined [] y h k = k
    joined (b ∷ x) y h k = (h.0, joined x y h.1 k)

pub bytes_sent : (packets : List (List ℕ)) → All Packet packets → Bytes (sent_bytes packets)
bytes_sent packets ws = flat_bytes (interleaved_blocks packets) (interleaved_bytes packets ws)
