-- A sender's blocks: their sync bytes are in their places, three in a row tell whether the bits are inverted, and the aligner gives them back.
-- Assumes nothing.
use mathlib.Core.Path.{◌≡◌, refl, sym, ◌∙◌, ap, subst}
use mathlib.Core.Bool.{Bool}
use mathlib.Core.List.{List, [], ◌++◌, flatten}
use Prim.Native.Nat.{ℕ, ◌+◌, ◌-◌, ◌*◌, ◌/◌, ◌%◌, ◌≤◌, ◌<◌}
use native.Mathlib.Omega.{arith}
use lib.ListN.{length, get_or, take, drop, length-drop, get_or-append}
use lib.Seq.{get_or-drop}
use Rattle.common.specs.Lists.{All, Bytes, Length}
use Rattle.common.proofs.Lists.{All-at}
use Rattle.reed_solomon.specs.Encode.{check_bytes}
use Rattle.randomizer.specs.Packet.{randomized}
use Rattle.randomizer.specs.Stream.{Packet}
use Rattle.randomizer.proofs.Laws.{length_randomized, first_byte}
use Rattle.randomizer.proofs.Whole.{packet_lengths}
use Rattle.interleaver.proofs.BlockLists.{flatten_at, length-flatten, All-drop}
use Rattle.sent_blocks.specs.Blocks.{coded_blocks, interleaved_blocks}
use Rattle.sent_blocks.proofs.Lengths.{coded_count, interleaved_count, interleaved_whole}
use Rattle.sent_blocks.proofs.Packets.{coded_at, not_delayed, interleaved_bytes, flat_bytes}
use Rattle.convolutional_code.specs.Bits.{bits_of}
use Rattle.convolutional_code.proofs.Bits.{length_bits}
use Rattle.sync_search.specs.Sync.{byte_at}
use Rattle.block_sync.specs.Decision.{polarity_at}
use Rattle.block_sync.specs.Grid.{sync_byte, turned_byte, SyncGrid, grid_blocks, begun, Drained, Unsynced}
use Rattle.block_sync.specs.History.{SyncFeedings}
use Rattle.block_sync.specs.declared.GivenBlock.{GivenBlock}
use Rattle.block_sync.specs.declared.BlockSync.{BlockSync}
use Rattle.block_sync.proofs.Majority.{SyncHere, majority}
use Rattle.block_sync.proofs.Packed.{byte_turned}
use Rattle.block_sync.proofs.Grids.{here, grid_given}
use Rattle.block_sync.proofs.Anywhere.{anywhere_given}
use Rattle.sent_sync.specs.Sent.{bits_from, GivesSent, GivesSentAfter, GivesSentSoFar, GivesSentWhole}
use Rattle.sent_sync.proofs.Bytes.{byte_of, blocks_back, bits_size}
use Rattle.sent_sync.proofs.Fronts.{front_given, blocks_front, front_drained}

-- ---- the first byte of a block

module _ (packets : List (List ℕ)) (ws : All Packet packets) where
  abbrev sent : List (List ℕ)
  sent = interleaved_blocks packets

  -- B8 in the first block of each group of eight, 47 in the others
  pub sent_first : (b : ℕ) → b < length packets → get_or (get_or sent b []) 0 0 ≡ sync_byte b
  sent_first b h =
      let p = get_or packets b [] in
      let w : Packet p = All-at Packet packets [] b ws h in
      let k : b % 8 ≤ 7 = omega arith in
      let m = randomized (b % 8) p in
      let lm : length m ≡ 188 = length_randomized (b % 8) p k w.size in
      not_delayed (coded_blocks packets) b 0 (omega (arith, coded_count packets)) (omega arith) refl
      ∙ ap (λ (l : List ℕ). get_or l 0 0) (coded_at packets (packet_lengths packets ws) b h)
      ∙ get_or-append m (check_bytes m) 0 0 (omega arith)
      ∙ first_byte (b % 8) p k w.size w.sync

  -- ---- from block b on

  module _ (b : ℕ) where
    abbrev rest : List (List ℕ)
    rest = drop b sent

    rest_count : length rest ≡ length packets - b
    rest_count = length-drop b sent ∙ ap (λ (n : ℕ). n - b) (interleaved_count packets)

    rest_whole : All (Length 204) rest
    rest_whole = All-drop (Length 204) b sent (interleaved_whole packets)

    rest_bytes_lem : All Bytes rest
    rest_bytes_lem = All-drop Bytes b sent (interleaved_bytes packets ws)

    rest_size : (i : Bool) → length (bits_from i b packets) ≡ 1632 * length rest
    rest_size i = bits_size i (flatten rest) ∙ (let n = length-flatten 204 rest rest_whole in omega arith)

    -- their bits, straight or inverted, have all sync bytes in their places
    pub sent_grid : (i : Bool) → SyncGrid i b (length rest) (bits_from i b packets)
    sent_grid i = record {
      size = omega (arith, rest_size i);
      part = omega (arith, rest_size i);
      syncs = λ j h.
          let n = length-flatten 204 rest rest_whole in
          let e : 1632 * j ≡ 8 * (204 * j) = omega arith in
          let z : 204 * j + 0 ≡ 204 * j = omega arith in
          let k : j < length rest = omega (arith, rest_size i) in
          let y : b + j < length packets = omega (arith, rest_count) in
          byte_turned i (bits_of (flatten rest)) (1632 * j) (omega (arith, length_bits (flatten rest)))
          ∙ ap (λ (k : ℕ). turned_byte i (byte_at (bits_of (flatten rest)) k)) e
          ∙ ap (turned_byte i)
          (byte_of (flatten rest) (flat_bytes rest rest_bytes_lem) (204 * j) (omega arith)
          ∙ ap (λ (k : ℕ). get_or (flatten rest) k 0) (sym z)
          ∙ flatten_at rest rest_whole j 0 k (omega arith)
          ∙ ap (λ (l : List ℕ). get_or l 0 0) (get_or-drop b sent j [])
          ∙ sent_first (b + j) y);
    }

    -- of any three blocks in a row at most one begins with B8, so their majority tells whether the bits are inverted, whatever was taken for it before
    pub sent_polarity : (i : Bool) (before : Bool) → 2 < length rest → polarity_at (bits_from i b packets) 0 before ≡ i
    sent_polarity i before h =
        let g = sent_grid i in
        let l = bits_from i b packets in
        let e : b + 0 ≡ b = omega arith in
        majority i b l 0 before (omega (arith, g.size)) (subst (λ (x : ℕ). SyncHere i x l 0) e (here l g 0 (omega arith))) (here l g 1 (omega arith)) (here l g 2 (omega arith))

    -- Six blocks or more from block b on, straight or inverted, in any pieces, and then the end: they are given as they were sent.
    pub sent_given : (i : Bool) {given last : List GivenBlock} {skipped sk : ℕ} {s t : BlockSync} → b + 6 ≤ length packets → SyncFeedings (bits_from i b packets) given skipped s
        → Drained s last sk t → GivesSent packets b (given ++ last) (skipped + sk) t
    sent_given i h f d =
        let r = grid_given (sent_grid i) (omega (arith, rest_count)) f d in
        record {
          blocks = r.blocks ∙ ap begun (blocks_back i rest rest_whole rest_bytes_lem);
          skips = r.skips;
          none_left = r.left ∙ (let n = rest_size i in omega arith);
        }

    -- The same after bits that begin anywhere, no place of which passes for a sync: exactly these are skipped.
    pub sent_anywhere : (i : Bool) (p : List ℕ) {given last : List GivenBlock} {skipped sk : ℕ} {s t : BlockSync} → b + 6 ≤ length packets → Unsynced p (bits_from i b packets)
        → SyncFeedings (p ++ bits_from i b packets) given skipped s → Drained s last sk t → GivesSentAfter packets b p (given ++ last) (skipped + sk) t
    sent_anywhere i p h u f d =
        let r = anywhere_given p (bits_from i b packets) (sent_grid i) (omega (arith, rest_count)) u f d in
        record {
          blocks = r.blocks ∙ ap begun (blocks_back i rest rest_whole rest_bytes_lem);
          skips = r.skips;
          none_left = r.left ∙ (let n = rest_size i in omega arith);
        }

    -- And before the end, where only some of these bits came: what was given is the first of these blocks.
    pub sent_so_far : (i : Bool) (p : List ℕ) {bits : List ℕ} (more : List ℕ) {given : List GivenBlock} {skipped : ℕ} {s : BlockSync} → b + 6 ≤ length packets → Unsynced p (bits_from i b packets)
        → bits ++ more ≡ p ++ bits_from i b packets → SyncFeedings bits given skipped s → GivesSentSoFar packets b p (length bits) given skipped s
    sent_so_far i p more {given} h u e f =
        let r = front_given p (bits_from i b packets) more (sent_grid i) (omega (arith, rest_count)) u e f in
        record {
          blocks = r.blocks ∙ ap (λ (l : List (List ℕ)). begun (take (length given) l)) (blocks_back i rest rest_whole rest_bytes_lem);
          skips = r.skips;
          counted = r.counted;
          few_held = r.few_held;
          lasts = r.lasts;
        }

    -- And with the end there, where six of these blocks came whole.
    pub sent_whole : (i : Bool) (p : List ℕ) {bits : List ℕ} (more : List ℕ) {given last : List GivenBlock} {skipped sk : ℕ} {s t : BlockSync} → length p + 9792 ≤ length bits
        → Unsynced p (bits_from i b packets) → bits ++ more ≡ p ++ bits_from i b packets → SyncFeedings bits given skipped s → Drained s last sk t
        → GivesSentWhole packets b p (length bits) (given ++ last) (skipped + sk) t
    sent_whole i p {bits} more h u e f d =
        let r = front_drained p (bits_from i b packets) more (sent_grid i) h u e f d in
        let came : List ℕ = drop (length p) bits in
        let n : ℕ = (length bits - length p) / 1632 in
        let size : length came ≡ length bits - length p = length-drop (length p) bits in
        record {
          blocks =
              r.1.blocks
              ∙ ap begun
              (blocks_front i n came more (ap (λ (k : ℕ). k / 1632) size)
              ∙ ap (take n) (ap (λ (l : List ℕ). grid_blocks i l) r.0 ∙ blocks_back i rest rest_whole rest_bytes_lem));
          skips = r.1.skips;
          left = r.1.left ∙ ap (λ (k : ℕ). k % 1632) size;
        }
