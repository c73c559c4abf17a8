-- Demand 2, receiving, in its general form: a receiver fresh at any block of a fresh sender answers 9 for the first eleven,
-- 10 until the first block that starts a group, and from there gives every packet. Also what one block with neither sync byte costs.
-- Assumes nothing.
use mathlib.Core.Path.{◌≡◌, refl, sym, ap, ap₂, ◌∙◌, subst}
use mathlib.Core.List.{List, [], ◌∷◌, ◌++◌, map, flatten}
use Prim.Native.Nat.{ℕ, zero, suc, ◌+◌, ◌-◌, ◌%◌, ◌≤◌, ◌<◌}
use Prim.{tt}
use native.Mathlib.Nat.{not-suc-le-zero}
use native.Mathlib.Omega.{arith}
use lib.ListN.{length, get_or, take, drop, replicate, take-append-drop, length-drop, length-map}
use lib.Seq.{take-nil, take_all, get_or-drop, drop-drop}
use Rattle.std.proofs.Common.{Option, Some}
use Rattle.common.specs.Lists.{All, Length}
use Rattle.common.proofs.Lists.{All-at}
use Rattle.reed_solomon.specs.Code.{differ}
use Rattle.reed_solomon.specs.Encode.{encoded}
use Rattle.reed_solomon.proofs.Distance.{differ_none}
use Rattle.reed_solomon.proofs.LongDivision.{encoded_length}
use Rattle.randomizer.specs.Packet.{randomized}
use Rattle.randomizer.specs.Stream.{Packet, randomized_from}
use Rattle.randomizer.proofs.Whole.{packet_lengths, randomized_stream_lem}
use Rattle.interleaver.specs.Block.{fresh}
use Rattle.interleaver.specs.declared.branches.Side.TheVariants.{Receiving}
use Rattle.interleaver.specs.Stream.{run}
use Rattle.interleaver.specs.Gathered.{gathered}
use Rattle.interleaver.proofs.Whole.{length_run}
use Rattle.interleaver.proofs.BlockLists.{length-flatten, flatten_join, All-take, All-drop}
use Rattle.interleaver.proofs.Gathering.{gathered_front, run_gathered, sent_gathered}
use Rattle.group_sync.specs.Group.{fresh_sync, known_sync}
use Rattle.group_sync.specs.Stream.{outcomes, sent_from, delivered_from, before_group}
use Rattle.group_sync.specs.declared.Outcome.{Outcome}
use Rattle.group_sync.specs.declared.Outcome.TheVariants.{Filling, Waiting, OutOfStep}
use Rattle.group_sync.specs.declared.GroupSync.{GroupSync}
use Rattle.group_sync.proofs.Streams as streams
use Rattle.reception_counts.specs.Counts.{outcome_number}
use Rattle.sent_blocks.specs.Blocks.{coded_blocks, interleaved_blocks}
use Rattle.sent_blocks.proofs.Lengths.{coded_count, interleaved_count, interleaved_whole}
use Rattle.receiver.specs.Receive.{fresh_receiver}
use Rattle.receiver.specs.Run.{Call, DecodedCalls, packets_given, lent_blocks, answers, Plain, OutputFits}
use Rattle.receiver.specs.Begun.{lefts, decodings, delivered_packets, ComeTo, filled_first, BegunAt}
use Rattle.receiver.specs.declared.Receiver.{Receiver}
use Rattle.receiver.proofs.Reached.{sound_fresh}
use Rattle.receiver.proofs.Outcomes.{Unrefused, plain_marked, come_to, filled_come_to}
use Rattle.receiver.proofs.Decoding.{sent_length, sent_bytes_lem, coded_back, Nears, nears_of, CorrectedFrom, corrected_after}

-- ---- the answers

-- the outcomes of a fresh receiver's calls: k filling, w waited over, m given
abbrev from : ℕ → ℕ → ℕ → ℕ → List Outcome
from k w n m = replicate k Filling ++ (replicate w Waiting ++ delivered_from n m)

filled_take : (k n : ℕ) (os : List Outcome) → take n (replicate k Filling) ++ take (n - k) os ≡ take n (replicate k Filling ++ os)
filled_take zero n os =
    let e : n - 0 ≡ n = omega arith in
    ap₂ (λ (x : List Outcome) (i : ℕ). x ++ take i os) (take-nil n) e
filled_take (suc k) zero os = let e : 0 - suc k ≡ 0 = omega arith in ap (λ (i : ℕ). take i os) e
filled_take (suc k) (suc n) os =
    let e : suc n - suc k ≡ n - k = omega arith in
    ap (λ (i : ℕ). take (suc n) (replicate (suc k) Filling) ++ take i os) e ∙ ap (λ (x : List Outcome). Filling ∷ x) (filled_take k n os)

numbers : (k w i n m : ℕ) → map outcome_number (take n (from k w i m)) ≡ take n (replicate k 9 ++ replicate w 10 ++ replicate m 0)
numbers k w i zero m = refl
numbers (suc k) w i (suc n) m = ap (λ (x : List ℕ). 9 ∷ x) (numbers k w i n m)
numbers zero (suc w) i (suc n) m = ap (λ (x : List ℕ). 10 ∷ x) (numbers zero w i n m)
numbers zero zero i (suc n) zero = refl
numbers zero zero i (suc n) (suc m) = ap (λ (x : List ℕ). 0 ∷ x) (numbers zero zero (i + 1) n m)

-- ---- the packets

packets_filled : (k : ℕ) (cs : List Call) (os : List Outcome) → delivered_packets (filled_first k cs os) (lefts cs) ≡ delivered_packets os (lefts (drop k cs))
packets_filled zero cs os = ap (λ (x : List Outcome). delivered_packets (x ++ os) (lefts cs)) (take-nil (length cs))
packets_filled (suc k) [] os = refl
packets_filled (suc k) (c ∷ cs) os = packets_filled k cs os

packets_given_lem : (n j m : ℕ) (ps : List (List ℕ)) → All Packet ps → j ≤ m
    → delivered_packets (take j (delivered_from n m)) (take j (map encoded (randomized_from n ps))) ≡ take j ps
unfolding randomized_from
packets_given_lem n zero m ps ws h = refl
packets_given_lem n (suc j) zero ps ws h = absurd (not-suc-le-zero h)
packets_given_lem n (suc j) (suc m) [] ws h = refl
packets_given_lem n (suc j) (suc m) (p ∷ ps) ws h =
    ap₂ (λ (x : List ℕ) (xs : List (List ℕ)). x ∷ xs) (coded_back n p ws.0) (packets_given_lem (n + 1) j m ps ws.1 (omega arith))

packets_late : (w n j m : ℕ) (ps : List (List ℕ)) → All Packet ps → j ≤ m
    → delivered_packets (take j (replicate w Waiting ++ delivered_from (n + w) m)) (take j (map encoded (randomized_from n ps))) ≡ take (j - w) (drop w ps)
unfolding randomized_from
packets_late zero n j m ps ws h =
    let e : n + 0 ≡ n = omega arith in
    let f : j ≡ j - 0 = omega arith in
    ap (λ (i : ℕ). delivered_packets (take j (delivered_from i m)) (take j (map encoded (randomized_from n ps)))) e
    ∙ packets_given_lem n j m ps ws h ∙ ap (λ (i : ℕ). take i ps) f
packets_late (suc w) n zero m ps ws h = let f : 0 ≡ 0 - suc w = omega arith in ap (λ (i : ℕ). take i (drop (suc w) ps)) f
packets_late (suc w) n (suc j) m [] ws h = sym (take-nil (suc j - suc w))
packets_late (suc w) n (suc j) m (p ∷ ps) ws h =
    let e : n + suc w ≡ n + 1 + w = omega arith in
    let f : j - w ≡ suc j - suc w = omega arith in
    ap (λ (i : ℕ). delivered_packets (take j (replicate w Waiting ++ delivered_from i m)) (take j (map encoded (randomized_from (n + 1) ps)))) e
    ∙ packets_late w (n + 1) j m ps ws.1 (omega arith) ∙ ap (λ (i : ℕ). take i (drop w ps)) f

-- ---- the coded packets

coded_drop : (m n : ℕ) (ps : List (List ℕ)) → drop m (map encoded (randomized_from n ps)) ≡ map encoded (randomized_from (n + m) (drop m ps))
unfolding randomized_from
coded_drop zero n ps = let e : n ≡ n + 0 = omega arith in ap (λ (i : ℕ). map encoded (randomized_from i ps)) e
coded_drop (suc m) n [] = refl
coded_drop (suc m) n (p ∷ ps) =
    let e : n + 1 + m ≡ n + suc m = omega arith in
    coded_drop m (n + 1) ps ∙ ap (λ (i : ℕ). map encoded (randomized_from i (drop m ps))) e

coded_lengths : (n : ℕ) (ps : List (List ℕ)) → All Packet ps → All (Length 204) (map encoded (randomized_from n ps))
unfolding randomized_from
coded_lengths n [] ws = tt
coded_lengths n (p ∷ ps) ws =
    (encoded_length (randomized (n % 8) p) (sent_length n p ws.0) (sent_bytes_lem n p ws.0), coded_lengths (n + 1) ps ws.1)

pub blocks_count : (cs : List Call) → length (lent_blocks cs) ≡ length cs
blocks_count cs = length-map cs (λ c. c.block)

-- ---- the blocks that are corrected

module _ (cs : List Call) where
  came_count : length (drop 11 (run Receiving fresh (lent_blocks cs))) ≡ length cs - 11
  came_count =
      length-drop 11 (run Receiving fresh (lent_blocks cs))
      ∙ ap (λ (i : ℕ). i - 11) (length_run Receiving fresh (lent_blocks cs) ∙ blocks_count cs)

  -- call i + 12 corrects the block gathered from the bytes received
  pub came_gathered : All (Length 204) (lent_blocks cs) → (i : ℕ) → i + 11 < length cs
      → get_or (drop 11 (run Receiving fresh (lent_blocks cs))) i [] ≡ gathered (flatten (lent_blocks cs)) i
  came_gathered sizes i k =
      let e : 11 + i ≡ i + 11 = omega arith in
      get_or-drop 11 (run Receiving fresh (lent_blocks cs)) i [] ∙ ap (λ (j : ℕ). get_or (run Receiving fresh (lent_blocks cs)) j []) e
      ∙ run_gathered (lent_blocks cs) sizes i (omega (arith, blocks_count cs))

module _ (packets : List (List ℕ)) (ws : All Packet packets) where
  -- the coded packets, as the standard gives them and call after call
  stream : coded_blocks packets ≡ map encoded (randomized_from 0 packets)
  stream = ap (map encoded) (sym (randomized_stream_lem packets (packet_lengths packets ws)))

  coded_blocks_lem : All (Length 204) (coded_blocks packets)
  coded_blocks_lem = subst (All (Length 204)) (sym stream) (coded_lengths 0 packets ws)

  -- the block that was sent is gathered from the bytes sent
  pub coded_gathered : (m i : ℕ) → m + (i + 11) < length packets → get_or (drop m (coded_blocks packets)) i [] ≡ gathered (flatten (drop m (interleaved_blocks packets))) i
  coded_gathered m i h =
      get_or-drop m (coded_blocks packets) i []
      ∙ sent_gathered (coded_blocks packets) m i (omega (arith, coded_count packets)) (All-at (Length 204) (coded_blocks packets) [] (m + i) coded_blocks_lem (omega (arith, coded_count packets)))

  pub coded_nears : (m : ℕ) (cs : List Call) → m + length cs ≤ length packets
      → ((i : ℕ) → i + 11 < length cs → differ (get_or (drop 11 (run Receiving fresh (lent_blocks cs))) i []) (get_or (drop m (coded_blocks packets)) i []) ≤ 8)
      → Nears (drop 11 (run Receiving fresh (lent_blocks cs))) (drop m (coded_blocks packets))
  coded_nears m cs h f =
      nears_of (drop 11 (run Receiving fresh (lent_blocks cs))) (drop m (coded_blocks packets)) (omega (arith, came_count cs, length-drop m (coded_blocks packets), coded_count packets))
      (λ i k. f i (omega (arith, came_count cs)))

  -- ---- at most eight bytes of each block wrong

  module _ (m : ℕ) (cs : List Call) (u : Unrefused fresh_receiver cs) (pl : All Plain cs) (q : Nears (drop 11 (run Receiving fresh (lent_blocks cs))) (drop m (coded_blocks packets))) where
    dropped : drop m (coded_blocks packets) ≡ map encoded (randomized_from m (drop m packets))
    dropped =
        let e : 0 + m ≡ m = omega arith in
        ap (drop m) stream ∙ coded_drop m 0 packets ∙ ap (λ (i : ℕ). map encoded (randomized_from i (drop m packets))) e

    late : CorrectedFrom m (drop m packets) (drop 11 cs)
    unfolding fresh_receiver
    late =
        corrected_after 11 m (drop m packets) cs fresh_receiver u refl pl (All-drop Packet m packets ws)
        (subst (Nears (drop 11 (run Receiving fresh (lent_blocks cs)))) dropped q)

    fewer : length (drop 11 cs) ≡ length cs - 11
    fewer = length-drop 11 cs

    near_accepted : decodings (drop 11 cs) ≡ sent_from m (length cs - 11)
    near_accepted = late.accepted ∙ ap (sent_from m) fewer

    near_lefts : lefts (drop 11 cs) ≡ take (length cs - 11) (map encoded (randomized_from m (drop m packets)))
    near_lefts = late.blocks ∙ ap (λ (i : ℕ). take i (map encoded (randomized_from m (drop m packets)))) fewer

    pub near_received : BegunAt m packets cs
    unfolding fresh_receiver
    near_received =
        let w = before_group m in
        let os = replicate w Waiting ++ delivered_from (m + w) (length cs) in
        let t : ComeTo fresh_receiver cs (filled_first 11 cs (take (length cs - 11) os)) =
        subst (λ (x : List Outcome). ComeTo fresh_receiver cs (filled_first 11 cs x))
        (ap (outcomes fresh_sync) near_accepted ∙ streams.begun_anywhere m (length cs - 11) (length cs) (omega arith))
        (filled_come_to 11 cs fresh_receiver u refl) in
        record {
          answered = t.answered ∙ ap (map outcome_number) (filled_take 11 (length cs) os) ∙ numbers 11 w (m + w) (length cs) (length cs);
          given =
              t.given ∙ packets_filled 11 cs (take (length cs - 11) os) ∙ ap (delivered_packets (take (length cs - 11) os)) near_lefts
              ∙ packets_late w m (length cs - 11) (length cs) (drop m packets) (All-drop Packet m packets ws) (omega arith)
              ∙ ap (take (length cs - 11 - w)) (drop-drop w m packets);
          corrected = near_lefts ∙ ap (take (length cs - 11)) (sym dropped);
        }

  -- ---- no byte wrong

  module _ (m : ℕ) (cs : List Call) (h : m + length cs ≤ length packets) (l : length cs ≤ 4294967295)
      (b : lent_blocks cs ≡ take (length cs) (drop m (interleaved_blocks packets))) (pl : All Plain cs) (rs : All OutputFits cs) (ds : DecodedCalls fresh_receiver cs) where
    air : List (List ℕ)
    air = drop m (interleaved_blocks packets)

    sizes : All (Length 204) (lent_blocks cs)
    unfolding air
    sizes =
        subst (All (Length 204)) (sym b)
        (All-take (Length 204) (length cs) air (All-drop (Length 204) m (interleaved_blocks packets) (interleaved_whole packets)))

    unharmed_calls : Unrefused fresh_receiver cs
    unfolding fresh_receiver
    unharmed_calls = record { sound = sound_fresh; most = omega arith; sizes = sizes; marked = plain_marked cs pl; outputs = rs; decodes = ds }

    -- the bytes received, and those sent after them
    front : flatten air ≡ flatten (lent_blocks cs) ++ flatten (drop (length cs) air)
    unfolding air
    front =
        ap flatten (sym (take-append-drop (length cs) air)) ∙ flatten_join (take (length cs) air) (drop (length cs) air)
        ∙ ap (λ (x : List (List ℕ)). flatten x ++ flatten (drop (length cs) air)) (sym b)

    -- the block that call i + 12 corrects is the one that was sent
    each : (i : ℕ) → i + 11 < length cs → get_or (drop 11 (run Receiving fresh (lent_blocks cs))) i [] ≡ get_or (drop m (coded_blocks packets)) i []
    unfolding air
    each i k =
        came_gathered cs sizes i k
        ∙ sym (gathered_front (flatten (lent_blocks cs)) (flatten (drop (length cs) air)) i (omega (arith, length-flatten 204 (lent_blocks cs) sizes, blocks_count cs)))
        ∙ ap (λ (x : List ℕ). gathered x i) (sym front)
        ∙ sym (coded_gathered m i (omega arith))

    nears : Nears (drop 11 (run Receiving fresh (lent_blocks cs))) (drop m (coded_blocks packets))
    nears = coded_nears m cs h (λ i k. rw (each i k) (omega (arith, differ_none (get_or (drop m (coded_blocks packets)) i []))))

    -- the theorem
    pub begun_anywhere : BegunAt m packets cs
    begun_anywhere = near_received m cs unharmed_calls pl nears

-- demand 2, receiving: the case of block 0
pub stream_received : (packets : List (List ℕ)) → All Packet packets → length packets ≤ 4294967295
    → (cs : List Call) → lent_blocks cs ≡ interleaved_blocks packets → All Plain cs → All OutputFits cs → DecodedCalls fresh_receiver cs
    → (answers fresh_receiver cs ≡ take (length packets) (replicate 11 9 ++ replicate (length packets) 0))
    × (packets_given fresh_receiver cs ≡ take (length packets - 11) packets)
stream_received packets ws l cs b pl rs ds =
    let sent = interleaved_blocks packets in
    let k : length sent ≡ length packets = interleaved_count packets in
    let n : length cs ≡ length packets = sym (blocks_count cs) ∙ ap length b ∙ k in
    let e : length cs - 11 - 0 ≡ length packets - 11 = omega arith in
    let r = begun_anywhere packets ws 0 cs (omega arith) (omega arith) (b ∙ sym (take_all (length cs) sent (omega arith))) pl rs ds in (
      r.answered ∙ ap (λ (i : ℕ). take i (replicate 11 9 ++ replicate i 0)) n,
      r.given ∙ ap (λ (i : ℕ). take i packets) e,
    )

-- ---- one block with neither sync byte first

-- From a known place, such a block among good ones costs its own packet and no other.
pub one_odd : (s : Receiver) (cs : List Call) → Unrefused s cs → 11 ≤ s.counts.taken → (n missed a b first : ℕ) → s.sync ≡ known_sync (n % 8) missed
    → (a ≡ 0 → missed ≡ 0) → (first ≡ 0xB8 → ⊥) → (first ≡ 0x47 → ⊥) → decodings cs ≡ sent_from n a ++ Some first ∷ sent_from (n + a + 1) b
    → ComeTo s cs (delivered_from n a ++ OutOfStep ∷ delivered_from (n + a + 1) b)
one_odd s cs u h n missed a b first at m f g e =
    subst (ComeTo s cs) (ap₂ (λ (x : GroupSync) (rs : List (Option ℕ)). outcomes x rs) at e ∙ streams.one_odd n missed a b first m f g) (come_to cs s u h)
