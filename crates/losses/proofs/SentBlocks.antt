-- The received bytes themselves, with no mark: what the blocks of a sender come to, some left out or doubled; one stretch of them; and document 02's P5.
-- Assumes nothing.
use mathlib.Core.Path.{◌≡◌, refl, sym, ap, subst, subst₂, ◌∙◌}
use mathlib.Core.Bool.{Bool, true, false}
use mathlib.Core.List.{List, [], ◌∷◌, map, flatten}
use Prim.Native.Nat.{ℕ, zero, suc, ◌+◌, ◌-◌, ◌*◌, ◌/◌, ◌%◌, ◌≤◌, ◌<◌}
use Prim.{tt}
use native.Mathlib.Nat.{not-suc-le-zero}
use native.Mathlib.Decide.{dec_lt}
use native.Mathlib.Omega.{arith}
use lib.Dec.{eqb}
use lib.ListN.{length, get_or, take, drop, replicate, length-drop, length-replicate, replicate-append-replicate}
use lib.Seq.{get_or-drop, get_or-take, drop_at, drop-drop}
use Rattle.std.proofs.Common.{Option, Some, None, Ok, Err}
use Rattle.common.specs.Lists.{All, Length, largest, chunks, chunks_of}
use Rattle.common.proofs.Largest.{largest_zeros}
use Rattle.answer.specs.Number.{answered}
use Rattle.answer.specs.declared.Refusal.TheVariants.{Uncorrectable, BlockLength}
use Rattle.reed_solomon.specs.Decode.{Decoded, Decodes}
use Rattle.reed_solomon.specs.Encode.{encoded}
use Rattle.reed_solomon.specs.Marks.{no_marks}
use Rattle.reed_solomon.proofs.Distance.{differ_none}
use Rattle.reed_solomon.proofs.LongDivision.{encoded_codeword, encoded_length}
use Rattle.reed_solomon.proofs.Laws.{decodes_near, unique}
use Rattle.randomizer.specs.Packet.{randomized}
use Rattle.randomizer.specs.Stream.{Packet}
use Rattle.interleaver.specs.Block.{fresh}
use Rattle.interleaver.specs.Gathered.{place_in, gathered}
use Rattle.interleaver.specs.Stream.{run}
use Rattle.interleaver.specs.declared.branches.Side.TheVariants.{Receiving}
use Rattle.interleaver.specs.declared.branches.Branches.{Branches}
use Rattle.interleaver.proofs.BlockLists.{flatten_at, All-drop}
use Rattle.interleaver.proofs.Gathering.{length_gathered, gathered_same}
use Rattle.group_sync.specs.Group.{fresh_sync, sync_in_range, group_step}
use Rattle.group_sync.specs.Stream.{outcomes}
use Rattle.group_sync.specs.declared.Outcome.{Outcome}
use Rattle.group_sync.specs.declared.Outcome.TheVariants.{Delivered, Lost}
use Rattle.group_sync.specs.declared.GroupSync.{GroupSync}
use Rattle.group_sync.proofs.Synchronization.{accepted_outcome, sync_in_range_lem}
use Rattle.reception_counts.specs.Counts.{outcome_number}
use Rattle.sent_blocks.specs.Blocks.{coded_blocks, interleaved_blocks}
use Rattle.sent_blocks.proofs.Lengths.{interleaved_count, interleaved_whole}
use Rattle.receiver.specs.Receive.{fresh_receiver, NoMarks, decoding_of}
use Rattle.receiver.specs.Run.{Call, after_call, lent_blocks, Plain}
use Rattle.receiver.specs.Begun.{lefts, decodings}
use Rattle.receiver.specs.declared.Receiver.{Receiver}
use Rattle.receiver.proofs.Decoding.{sent_length, sent_bytes_lem, plain_decodes}
use Rattle.receiver.proofs.Outcomes.{Unrefused, next_unrefused, branches_after_lem, unmarked_after}
use Rattle.receiver.proofs.Reception.{came_gathered, coded_gathered, blocks_count, begun_anywhere}
use Rattle.recording.specs.Block.{block_count, block_refusal, GivesBlock, block_refused, block_decoded}
use Rattle.losses.specs.History.{blocks_of, LossList}
use Rattle.losses.specs.Promise.{answer_at, Stretches, WrongTold, LeftOut, start_lines}
use Rattle.losses.proofs.Histories.{all_back, calls_count, calls_unrefused}
use Rattle.losses.proofs.Pieces.{zeros_part}
use Rattle.losses.proofs.Truth.{blocks_length, answer_is}
use Rattle.losses.proofs.Gaps.{own, coded_own, wrong_told}
use Rattle.losses.proofs.Unbroken.{unbroken}

-- ---- no mark

zeros_behind : (n k : ℕ) → n ≤ k → drop {A = ℕ} n (replicate k 0) ≡ replicate (k - n) 0
zeros_behind n k h =
    let z : ℕ = 0 in
    let e : n + (k - n) ≡ k = omega arith in
    ap (λ (m : ℕ). drop n (replicate m z)) (sym e) ∙ ap (drop n) (sym (replicate-append-replicate n (k - n) z)) ∙ drop_at (replicate n z) (replicate (k - n) z) n (length-replicate n z)

chunks_zero : (n k : ℕ) → 204 * n ≤ k → All (λ x. x ≡ no_marks) (chunks 204 n (replicate k 0))
unfolding chunks
chunks_zero zero k h = tt
chunks_zero (suc n) k h =
    (zeros_part k 0 204 (omega arith), subst (λ (l : List ℕ). All (λ x. x ≡ no_marks) (chunks 204 n l)) (sym (zeros_behind 204 k (omega arith))) (chunks_zero n (k - 204) (omega arith)))

-- a recording without marks
abbrev pub unmarked : List ℕ → List ℕ
unmarked bytes = replicate (length bytes) 0

module _ {bytes lines : List ℕ} (l : LossList bytes (unmarked bytes) lines) where
  pub none_marked : largest (unmarked bytes) < 2
  none_marked = omega (arith, largest_zeros (length bytes))

  unrefused : Unrefused fresh_receiver l.calls
  unrefused = calls_unrefused l.on none_marked l.few

  plain : All Plain l.calls
  unfolding chunks_of
  plain =
      all_back (λ x. x ≡ no_marks) (λ c. c.marks) l.calls
      (subst (All (λ x. x ≡ no_marks)) (sym l.on.marked) (chunks_zero (length (unmarked bytes) / 204) (length bytes) (omega (arith, length-replicate {A = ℕ} (length bytes) 0))))

-- ---- what each call decodes

decoded_each : (cs : List Call) (s : Receiver) → Unrefused s cs → NoMarks s → All Plain cs → (i : ℕ) → i < length cs
    → Decodes (get_or (run Receiving s.deinterleaver.branches (lent_blocks cs)) i []) (get_or (lefts cs) i []) (get_or (map (λ c. c.decoded) cs) i (Err Uncorrectable))
unfolding run
decoded_each [] s u z pl i h = absurd (not-suc-le-zero h)
decoded_each (c ∷ cs) s u z pl zero h = plain_decodes s c cs u z pl.0
decoded_each (c ∷ cs) s u z pl (suc i) h =
    subst (λ (b : Branches). Decodes (get_or (run Receiving b (lent_blocks cs)) i []) (get_or (lefts cs) i []) (get_or (map (λ d. d.decoded) cs) i (Err Uncorrectable))) (branches_after_lem s c cs u)
    (decoded_each cs (after_call s c) (next_unrefused s c cs u) (unmarked_after s c cs u z pl.0) pl.1 i (omega arith))

get_d_behind : {A B : Type 0} (f : A → B) (cs : List A) (n i : ℕ) (d : B) → get_or (map f (drop n cs)) i d ≡ get_or (map f cs) (n + i) d
get_d_behind f cs zero i d = let e : i ≡ 0 + i = omega arith in ap (λ (k : ℕ). get_or (map f cs) k d) e
get_d_behind f [] (suc n) i d = refl
get_d_behind f (c ∷ cs) (suc n) i d = let e : suc (n + i) ≡ suc n + i = omega arith in get_d_behind f cs n i d ∙ ap (λ (k : ℕ). get_or (f c ∷ map f cs) k d) e

module _ (cs : List Call) (u : Unrefused fresh_receiver cs) (pl : All Plain cs) (block : ℕ) (h : block + 11 < length cs) where
  abbrev decoded_at : Decoded
  decoded_at = get_or (map (λ c. c.decoded) (drop 11 cs)) block (Err Uncorrectable)

  block_decodes : Decodes (gathered (flatten (lent_blocks cs)) block) (get_or (lefts (drop 11 cs)) block []) decoded_at
  unfolding fresh_receiver
  block_decodes =
      let e : 11 + block < length cs = omega arith in
      let f : get_or (run Receiving fresh (lent_blocks cs)) (11 + block) [] ≡ gathered (flatten (lent_blocks cs)) block
      = sym (get_or-drop 11 (run Receiving fresh (lent_blocks cs)) block []) ∙ came_gathered cs u.sizes block h in
      subst (λ (x : List ℕ). Decodes x (get_or (lefts (drop 11 cs)) block []) decoded_at) f
      (subst₂ (λ (x : List ℕ) (y : Decoded). Decodes (get_or (run Receiving fresh (lent_blocks cs)) (11 + block) []) x y) (sym (get_d_behind (λ c. c.left) cs 11 block [])) (sym (get_d_behind (λ c. c.decoded) cs 11 block (Err Uncorrectable)))
      (decoded_each cs fresh_receiver u refl pl (11 + block) e))

-- ---- blocks left out or doubled

module _ {bytes lines : List ℕ} (l : LossList bytes (unmarked bytes) lines) (packets : List (List ℕ)) (ws : All Packet packets) (at : ℕ → ℕ) (t : LeftOut packets at l.calls) where
  -- twelve blocks one after the other
  module _ (block : ℕ) (h : block + 11 < length l.calls) (c : (i : ℕ) → i < 11 → at (block + suc i) ≡ at (block + i) + 1) where
    in_order : (j : ℕ) → j ≤ 11 → at (block + j) ≡ at block + j
    in_order zero k = let e : block + 0 ≡ block = omega arith in let f : at block ≡ at block + 0 = omega arith in ap at e ∙ f
    in_order (suc j) k = let r = in_order j (omega arith) in let e = c j (omega arith) in let f : at (block + suc j) ≡ at block + suc j = omega arith in f

    last_sent : at block + 11 < length packets
    last_sent = let e = in_order 11 (omega arith) in let s = (t.sent (block + 11) h).0 in omega arith

    each_byte : (n : ℕ) → n < 204 → get_or (flatten (lent_blocks l.calls)) (place_in block n) 0 ≡ get_or (flatten (drop (at block) (interleaved_blocks packets))) (place_in 0 n) 0
    each_byte n k =
        let j = n % 12 in
        let a : block + j < length l.calls = omega arith in
        let z : at block + (0 + j) ≡ at (block + j) = let e = in_order j (omega arith) in omega arith in
        flatten_at (lent_blocks l.calls) (unrefused l).sizes (block + j) n (omega (arith, blocks_count l.calls)) k
        ∙ ap (λ (x : List ℕ). get_or x n 0) ((t.sent (block + j) a).1 ∙ ap (λ (i : ℕ). get_or (interleaved_blocks packets) i []) (sym z) ∙ sym (get_or-drop (at block) (interleaved_blocks packets) (0 + j) []))
        ∙ sym (flatten_at (drop (at block) (interleaved_blocks packets)) (All-drop (Length 204) (at block) (interleaved_blocks packets) (interleaved_whole packets)) (0 + j) n (omega (arith, length-drop (at block) (interleaved_blocks packets), interleaved_count packets, last_sent)) k)

    block_sent : gathered (flatten (lent_blocks l.calls)) block ≡ get_or (coded_blocks packets) (at block) []
    block_sent =
        let e : at block + (0 + 11) < length packets = omega (arith, last_sent) in
        let f : at block + 0 ≡ at block = omega arith in
        gathered_same (flatten (lent_blocks l.calls)) (flatten (drop (at block) (interleaved_blocks packets))) block 0 each_byte
        ∙ sym (coded_gathered packets ws (at block) 0 e) ∙ get_or-drop (at block) (coded_blocks packets) 0 [] ∙ ap (λ (i : ℕ). get_or (coded_blocks packets) i []) f

    -- it is decoded to what was sent
    left_sent : get_or (lefts (drop 11 l.calls)) block [] ≡ get_or (coded_blocks packets) (at block) []
    left_sent =
        let n = at block in
        let b : n < length packets = omega (arith, last_sent) in
        let p = get_or packets n [] in
        let w = own packets ws n b in
        let x = randomized (n % 8) p in
        let e : gathered (flatten (lent_blocks l.calls)) block ≡ encoded x = block_sent ∙ coded_own packets ws n b in
        (decodes_near (encoded x) (encoded x) (get_or (lefts (drop 11 l.calls)) block []) (get_or (map (λ d. d.decoded) (drop 11 l.calls)) block (Err Uncorrectable))
        (encoded_length x (sent_length n p w) (sent_bytes_lem n p w)) (encoded_codeword x (sent_length n p w) (sent_bytes_lem n p w)) (omega (arith, differ_none (encoded x)))
        (subst (λ (y : List ℕ). Decodes y (get_or (lefts (drop 11 l.calls)) block []) (get_or (map (λ d. d.decoded) (drop 11 l.calls)) block (Err Uncorrectable))) e
        (block_decodes l.calls (unrefused l) (plain l) block h))).block
        ∙ sym (coded_own packets ws n b)

  -- a block that was given came whole
  came_whole : (block place : ℕ) → get_or (blocks_of l.calls) block Lost ≡ Delivered place → block + 11 < length l.calls
  came_whole block place e = by (dec_lt block (length (blocks_of l.calls)))
    where
      past : (os : List Outcome) (i : ℕ) → length os ≤ i → get_or os i Lost ≡ Lost
      past [] i k = refl
      past (o ∷ os) zero k = absurd (not-suc-le-zero k)
      past (o ∷ os) (suc i) k = past os i (omega arith)

      by : Dec (block < length (blocks_of l.calls)) → block + 11 < length l.calls
      by (yes k) = omega (arith, blocks_length l.calls (unrefused l))
      by (no k) = absurd (number_apart (sym (past (blocks_of l.calls) block (omega arith)) ∙ e))
        where
          number_apart : Lost ≡ Delivered place → ⊥
          number_apart f = let n = ap outcome_number f in omega arith

  pub stretches : Stretches packets at l.calls
  stretches = record {
    sent = λ block place e.
        let h = came_whole block place e in
        ((t.sent block (omega arith)).0, left_sent block h (t.consecutive block place e));
    consecutive = λ block p q e f.
        let a : block + suc 0 ≡ suc block = omega arith in
        let b : block + 0 ≡ block = omega arith in
        sym (ap at a) ∙ t.consecutive block p e 0 (omega arith) ∙ ap (λ (i : ℕ). at i + 1) b;
  }

  -- the theorem, of the received bytes
  pub gaps_told : WrongTold packets at l.calls lines
  gaps_told = wrong_told l packets ws at stretches

-- ---- one stretch

pub unbroken_stream : {bytes lines : List ℕ} (l : LossList bytes (unmarked bytes) lines) (packets : List (List ℕ)) → All Packet packets → (m : ℕ) → m + length bytes / 204 ≤ length packets
    → chunks_of 204 bytes ≡ take (length bytes / 204) (drop m (interleaved_blocks packets)) → lines ≡ start_lines m (length bytes / 204)
unbroken_stream {bytes} l packets ws m h b =
    let cs = l.calls in
    let n = calls_count l.on (none_marked l) l.few in
    let few = l.few in
    unbroken l (none_marked l) m packets
    (begun_anywhere packets ws m cs (omega (arith, n)) (omega (arith, n)) (l.on.blocks ∙ b ∙ ap (λ (k : ℕ). take k (drop m (interleaved_blocks packets))) (sym n)) (plain l) l.on.output_fits l.on.decodes)
    ∙ ap (start_lines m) n

-- ---- document 02, P5

chunk_at : (n : ℕ) (l : List ℕ) (b : ℕ) → b < n → get_or (chunks 204 n l) b [] ≡ take 204 (drop (204 * b) l)
unfolding chunks
chunk_at zero l b h = absurd (not-suc-le-zero h)
chunk_at (suc n) l zero h = refl
chunk_at (suc n) l (suc b) h =
    let e : 204 + 204 * b ≡ 204 * suc b = omega arith in
    chunk_at n (drop 204 l) b (omega arith) ∙ ap (take 204) (drop-drop (204 * b) 204 l ∙ ap (λ (k : ℕ). drop k l) e)

was_lost : Option ℕ → Bool
was_lost None = true
was_lost (Some first) = false

-- a block is answered 8 exactly where no codeword is near enough
lost_step : (s : GroupSync) (d : Option ℕ) → sync_in_range s ≡ true → eqb (outcome_number (group_step s d).outcome) 8 ≡ was_lost d
unfolding was_lost
lost_step s None r = refl
lost_step s (Some first) r = accepted_outcome (λ o. eqb (outcome_number o) 8 ≡ false) s first (λ p h. refl) refl refl r

lost_at : (cs : List Call) (s : GroupSync) → sync_in_range s ≡ true → (i : ℕ) → i < length cs
    → eqb (outcome_number (get_or (outcomes s (decodings cs)) i Lost)) 8 ≡ was_lost (decoding_of (get_or (map (λ c. c.decoded) cs) i (Err Uncorrectable)) (get_or (get_or (lefts cs) i []) 0 0))
lost_at [] s r i h = absurd (not-suc-le-zero h)
lost_at (c ∷ cs) s r zero h = lost_step s (decoding_of c.decoded (get_or c.left 0 0)) r
lost_at (c ∷ cs) s r (suc i) h =
    lost_at cs (group_step s (decoding_of c.decoded (get_or c.left 0 0))).sync (sync_in_range_lem s (decoding_of c.decoded (get_or c.left 0 0)) r) i (omega arith)

decoded_lost : (came left : List ℕ) (decoded : Decoded) (first : ℕ) → length came ≡ 204 → Decodes came left decoded → eqb (answered decoded) 8 ≡ was_lost (decoding_of decoded first)
unfolding was_lost
decoded_lost came left (Ok changed) first n d = refl
decoded_lost came left (Err Uncorrectable) first n d = refl
decoded_lost came left (Err BlockLength) first n d = absurd (d.0 n)
decoded_lost came left (Err _) first n d = absurd d

module _ {bytes lines : List ℕ} (l : LossList bytes (unmarked bytes) lines) where
  blocks_bytes : (block : ℕ) → block + 12 ≤ length bytes / 204 → gathered bytes block ≡ gathered (flatten (lent_blocks l.calls)) block
  unfolding chunks_of
  blocks_bytes block h = gathered_same bytes (flatten (lent_blocks l.calls)) block block each
    where
      each : (n : ℕ) → n < 204 → get_or bytes (place_in block n) 0 ≡ get_or (flatten (lent_blocks l.calls)) (place_in block n) 0
      each n k =
          let b = block + n % 12 in
          let c : b < length bytes / 204 = omega arith in
          sym (flatten_at (lent_blocks l.calls) (unrefused l).sizes b n (omega (arith, blocks_count l.calls, calls_count l.on (none_marked l) l.few)) k
          ∙ ap (λ (x : List (List ℕ)). get_or (get_or x b []) n 0) l.on.blocks
          ∙ ap (λ (x : List ℕ). get_or x n 0) (chunk_at (length bytes / 204) bytes b c)
          ∙ get_or-take 204 (drop (204 * b) bytes) n 0 k ∙ get_or-drop (204 * b) bytes n 0)

  -- block K of the recording is answered 8 exactly where its line says so
  pub as_recorded : (block : ℕ) (output exit : List ℕ) (r : Decoded) → block + 12 ≤ length bytes / 204 → block_refusal bytes (block_count bytes) block output ≡ 0
      → GivesBlock bytes (block_count bytes) block output r exit → eqb (answered r) 8 ≡ eqb (answer_at l.calls block) 8
  as_recorded block output exit r h e (block_refused s n c w) = absurd (omega arith)
  as_recorded block output exit r h e (block_decoded left f g w) =
      let cs = l.calls in
      let n = calls_count l.on (none_marked l) l.few in
      let k : block + 11 < length cs = omega (arith, n) in
      let d = block_decodes cs (unrefused l) (plain l) block k in
      let q = unique (gathered bytes block) left (get_or (lefts (drop 11 cs)) block []) r (get_or (map (λ c. c.decoded) (drop 11 cs)) block (Err Uncorrectable)) g
      (subst (λ (x : List ℕ). Decodes x (get_or (lefts (drop 11 cs)) block []) (get_or (map (λ c. c.decoded) (drop 11 cs)) block (Err Uncorrectable))) (sym (blocks_bytes block h)) d) in
      let a : answered r ≡ answered (get_or (map (λ c. c.decoded) (drop 11 cs)) block (Err Uncorrectable)) = ap answered q.answer in
      ap (λ (i : ℕ). eqb i 8) a
      ∙ decoded_lost (gathered (flatten (lent_blocks cs)) block) (get_or (lefts (drop 11 cs)) block []) (get_or (map (λ c. c.decoded) (drop 11 cs)) block (Err Uncorrectable)) (get_or (get_or (lefts (drop 11 cs)) block []) 0 0)
      (length_gathered (flatten (lent_blocks cs)) block) d
      ∙ sym (ap (λ (i : ℕ). eqb i 8) (answer_is cs (unrefused l) block (omega (arith, k))) ∙ lost_at (drop 11 cs) fresh_sync refl block (omega (arith, length-drop 11 cs)))
