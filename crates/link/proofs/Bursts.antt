-- What a burst may do: where the wrong bytes of every 2,448 lie within 96, a receiver fresh at any block of a sender corrects every block
-- to what was sent and gives every packet from the first start of a group on. And a block with nine wrong bytes is not so corrected.
-- Assumes nothing.
use mathlib.Core.Path.{◌≡◌, refl, sym, ap, ap₂, ◌∙◌, subst}
use mathlib.Core.Bool.{Bool, true, false}
use mathlib.Core.List.{List, [], ◌∷◌, ◌++◌, flatten}
use Prim.Native.Nat.{ℕ, zero, suc, ◌+◌, ◌-◌, ◌*◌, ◌≤◌, ◌<◌}
use native.Mathlib.Nat.{not-suc-le-zero}
use native.Mathlib.Omega.{arith}
use borrow.Author.Tests.{eq-eqb}
use lib.Dec.{eqb}
use lib.ListN.{length, get_or, take, drop, replicate, length-drop, drop_of_length-le}
use lib.Seq.{get_or-drop, get_or-take, length-take-le, drop-append-add}
use Rattle.common.specs.Choice.{pick}
use Rattle.common.specs.Lists.{All, Length, list_of}
use Rattle.common.proofs.Lists.{length_list_of}
use Rattle.reed_solomon.specs.Code.{distance, differ}
use Rattle.reed_solomon.proofs.Distance.{differ_append}
use Rattle.reed_solomon.proofs.Laws.{within_eight}
use Rattle.randomizer.specs.Stream.{Packet}
use Rattle.interleaver.specs.Block.{fresh}
use Rattle.interleaver.specs.declared.branches.Side.TheVariants.{Receiving}
use Rattle.interleaver.specs.declared.branches.Branches.{Branches}
use Rattle.interleaver.specs.Stream.{run}
use Rattle.interleaver.specs.Gathered.{place_in, gathered}
use Rattle.interleaver.proofs.Whole.{length_run}
use Rattle.interleaver.proofs.BlockLists.{length-flatten}
use Rattle.group_sync.specs.Stream.{before_group}
use Rattle.reception_counts.specs.declared.Counts.{Counts}
use Rattle.receiver.specs.Receive.{fresh_receiver, NoMarks, delayed_block}
use Rattle.receiver.specs.Run.{Call, answer_of, after_call, DecodedCalls, after_calls, history, accepted_by, over_accepted, lent_blocks, answers, Plain, OutputFits}
use Rattle.receiver.specs.Begun.{lefts, BegunAt}
use Rattle.receiver.specs.Kept.{Kept}
use Rattle.receiver.specs.declared.Receiver.{Receiver}
use Rattle.receiver.proofs.Reached.{sound_fresh}
use Rattle.receiver.proofs.Histories.{history_counts}
use Rattle.receiver.proofs.Outcomes.{Unrefused, plain_marked, next_unrefused, branches_after_lem, unmarked_after}
use Rattle.receiver.proofs.Decoding.{plain_decodes}
use Rattle.receiver.proofs.Reception.{blocks_count, came_gathered, coded_gathered, coded_nears, near_received}
use Rattle.receiver.proofs.Promised.{kept_calls}
use Rattle.sent_blocks.specs.Blocks.{coded_blocks, interleaved_blocks, sent_bytes}
use Rattle.sent_blocks.proofs.Lengths.{coded_count, interleaved_whole}
use Rattle.link.specs.Places.{span, how_many}
use Rattle.link.specs.Burst.{received_bytes, Burst, Bursts, wrong_in, wrong_bytes, Tolerated, Promised}
use Rattle.link.proofs.Places.{count_burst, spread}

-- ---- wrong bytes in a block

-- two lists by their places
differ_list_of : (f g : ℕ → ℕ) (n : ℕ) → differ (list_of n f) (list_of n g) ≡ how_many (λ i. pick (eqb (f i) (g i)) false true) n
unfolding differ distance list_of
differ_list_of f g zero = refl
differ_list_of f g (suc n) =
    differ_append (list_of n f) (list_of n g) (f n ∷ []) (g n ∷ []) (length_list_of n f ∙ sym (length_list_of n g))
    ∙ omega (arith, differ_list_of f g n, turned (eqb (f n) (g n)))
  where
    turned : (t : Bool) → ◌≡◌ {A = ℕ} (pick t 0 1) (pick (pick t false true) 1 0)
    turned true = refl
    turned false = refl

-- a block by the places of its bytes
pub wrong_count : (sent received : List ℕ) (p : ℕ)
    → wrong_in sent received p ≡ how_many (λ n. pick (eqb (get_or received (place_in p n) 0) (get_or sent (place_in p n) 0)) false true) 204
unfolding gathered
wrong_count sent received p = differ_list_of (λ n. get_or received (place_in p n) 0) (λ n. get_or sent (place_in p n) 0) 204

unequal_wrong : (x y : ℕ) → pick (eqb x y) false true ≡ true → y ≡ x → ⊥
unequal_wrong x y e q =
    let z : ◌≡◌ {A = Bool} false true = rw (eq-eqb x y (sym q)) at e in
    let o : ◌≡◌ {A = ℕ} 0 1 = cc in
    omega arith

-- a burst leaves at most eight wrong ones
burst_wrong : (sent received : List ℕ) (p : ℕ) → Burst sent received (204 * p) span → wrong_in sent received p ≤ 8
burst_wrong sent received p b =
    rw (wrong_count sent received p)
    (count_burst p b.start (λ n. pick (eqb (get_or received (place_in p n) 0) (get_or sent (place_in p n) 0)) false true)
    (λ n l e. b.covers (place_in p n) ((spread p).within n l).0 ((spread p).within n l).1
    (unequal_wrong (get_or received (place_in p n) 0) (get_or sent (place_in p n) 0) e)))

-- ---- what the calls change, by their answers, the blocks that the branches gave and what decoding left

abbrev changed_in : List ℕ → List (List ℕ) → List (List ℕ) → ℕ
changed_in [] xs ys = 0
changed_in (a ∷ ns) [] ys = 0
changed_in (a ∷ ns) (x ∷ xs) [] = 0
changed_in (a ∷ ns) (x ∷ xs) (y ∷ ys) = accepted_by a * differ x y + changed_in ns xs ys

calls_changed : (cs : List Call) (s : Receiver) → Unrefused s cs
    → over_accepted (λ c. c.bytes) (history s cs) ≡ changed_in (answers s cs) (run Receiving s.deinterleaver.branches (lent_blocks cs)) (lefts cs)
unfolding run
calls_changed [] s u = refl
calls_changed (c ∷ cs) s u =
    ap (λ (i : ℕ). accepted_by (answer_of s c) * differ (delayed_block s c.block) c.left + i)
    (calls_changed cs (after_call s c) (next_unrefused s c cs u)
    ∙ ap (λ (b : Branches). changed_in (answers (after_call s c) cs) (run Receiving b (lent_blocks cs)) (lefts cs)) (branches_after_lem s c cs u))

-- the first k are filling
changed_filling : (k n : ℕ) (ns : List ℕ) (xs ys : List (List ℕ)) → n ≤ length xs → n ≤ length ys
    → changed_in (take n (replicate k 9 ++ ns)) xs ys ≡ changed_in (take (n - k) ns) (drop k xs) (drop k ys)
changed_filling zero n ns xs ys h l = let e : n ≡ n - 0 = omega arith in ap (λ (i : ℕ). changed_in (take i ns) xs ys) e
changed_filling (suc k) zero ns xs ys h l =
    let e : 0 ≡ 0 - suc k = omega arith in ap (λ (i : ℕ). changed_in (take i ns) (drop (suc k) xs) (drop (suc k) ys)) e
changed_filling (suc k) (suc n) ns [] ys h l = absurd (not-suc-le-zero h)
changed_filling (suc k) (suc n) ns (x ∷ xs) [] h l = absurd (not-suc-le-zero l)
changed_filling (suc k) (suc n) ns (x ∷ xs) (y ∷ ys) h l =
    let e : n - k ≡ suc n - suc k = omega arith in
    let r = changed_filling k n ns xs ys (omega arith) (omega arith) in
    let z : 0 * differ x y + changed_in (take n (replicate k 9 ++ ns)) xs ys ≡ changed_in (take n (replicate k 9 ++ ns)) xs ys = omega arith in
    z ∙ r ∙ ap (λ (i : ℕ). changed_in (take i ns) (drop k xs) (drop k ys)) e

-- and the others accepted: w waited over, the rest given
module _ (sent received : List ℕ) where
  abbrev Each : ℕ → ℕ → List (List ℕ) → List (List ℕ) → Type 0
  Each p n xs ys = (i : ℕ) → i < n → differ (get_or xs i []) (get_or ys i []) ≡ wrong_in sent received (p + i)

  each_after : (p n : ℕ) (x y : List ℕ) (xs ys : List (List ℕ)) → Each p (suc n) (x ∷ xs) (y ∷ ys) → Each (p + 1) n xs ys
  each_after p n x y xs ys f i k = let e : p + suc i ≡ p + 1 + i = omega arith in f (suc i) (omega arith) ∙ ap (wrong_in sent received) e

  one_accepted : (p n : ℕ) (x y : List ℕ) (xs ys : List (List ℕ)) (ns : List ℕ) → Each p (suc n) (x ∷ xs) (y ∷ ys)
      → changed_in ns xs ys ≡ wrong_bytes sent received (p + 1) n → 1 * differ x y + changed_in ns xs ys ≡ wrong_bytes sent received p (suc n)
  one_accepted p n x y xs ys ns f r =
      let e : p + 0 ≡ p = omega arith in
      let a : differ x y ≡ wrong_in sent received p = f 0 (omega arith) ∙ ap (wrong_in sent received) e in
      omega (arith, a, r)

  changed_accepted : (w n m p : ℕ) (xs ys : List (List ℕ)) → n ≤ m → n ≤ length xs → n ≤ length ys → Each p n xs ys
      → changed_in (take n (replicate w 10 ++ replicate m 0)) xs ys ≡ wrong_bytes sent received p n
  changed_accepted w zero m p xs ys j h l f = refl
  changed_accepted w (suc n) m p [] ys j h l f = absurd (not-suc-le-zero h)
  changed_accepted w (suc n) m p (x ∷ xs) [] j h l f = absurd (not-suc-le-zero l)
  changed_accepted zero (suc n) zero p (x ∷ xs) (y ∷ ys) j h l f = absurd (not-suc-le-zero j)
  changed_accepted zero (suc n) (suc m) p (x ∷ xs) (y ∷ ys) j h l f =
      one_accepted p n x y xs ys (take n (replicate m 0)) f
      (changed_accepted zero n m (p + 1) xs ys (omega arith) (omega arith) (omega arith) (each_after p n x y xs ys f))
  changed_accepted (suc w) (suc n) m p (x ∷ xs) (y ∷ ys) j h l f =
      one_accepted p n x y xs ys (take n (replicate w 10 ++ replicate m 0)) f
      (changed_accepted w n m (p + 1) xs ys (omega arith) (omega arith) (omega arith) (each_after p n x y xs ys f))

-- ---- what decoding left

lefts_count : (cs : List Call) → length (lefts cs) ≡ length cs
lefts_count [] = refl
lefts_count (c ∷ cs) = ap suc (lefts_count cs)

lefts_drop : (k : ℕ) (cs : List Call) → drop k (lefts cs) ≡ lefts (drop k cs)
lefts_drop zero cs = refl
lefts_drop (suc k) [] = refl
lefts_drop (suc k) (c ∷ cs) = lefts_drop k cs

-- calls that no test refuses and in which no mark comes: whatever decoding leaves is within eight bytes
left_near : (cs : List Call) (s : Receiver) → Unrefused s cs → NoMarks s → All Plain cs → (i : ℕ) → i < length cs
    → differ (get_or (run Receiving s.deinterleaver.branches (lent_blocks cs)) i []) (get_or (lefts cs) i []) ≤ 8
unfolding run
left_near [] s u z pl i h = absurd (not-suc-le-zero h)
left_near (c ∷ cs) s u z pl zero h = within_eight (delayed_block s c.block) c.left c.decoded (plain_decodes s c cs u z pl.0)
left_near (c ∷ cs) s u z pl (suc i) h =
    subst (λ (b : Branches). differ (get_or (run Receiving b (lent_blocks cs)) i []) (get_or (lefts cs) i []) ≤ 8) (branches_after_lem s c cs u)
    (left_near cs (after_call s c) (next_unrefused s c cs u) (unmarked_after s c cs u z pl.0) pl.1 i (omega arith))

-- ---- the stream

-- the bytes from a block on
bytes_from : (blocks : List (List ℕ)) → All (Length 204) blocks → (m : ℕ) → flatten (drop m blocks) ≡ drop (204 * m) (flatten blocks)
unfolding flatten
bytes_from blocks g zero = refl
bytes_from [] g (suc m) = sym (drop_of_length-le {A = ℕ} [] {i = 204 * suc m} (omega arith))
bytes_from (b ∷ bs) g (suc m) =
    let e : length b + 204 * m ≡ 204 * suc m = omega (arith, g.0) in
    bytes_from bs g.1 m ∙ sym (drop-append-add b (flatten bs) (204 * m)) ∙ ap (λ (k : ℕ). drop k (b ++ flatten bs)) e

module _ (packets : List (List ℕ)) (ws : All Packet packets) (m : ℕ) (cs : List Call) (h : m + length cs ≤ length packets)
    (l : length cs ≤ 4294967295) (bs : All (Length 204) (lent_blocks cs)) (pl : All Plain cs) (rs : All OutputFits cs) (ds : DecodedCalls fresh_receiver cs) where
  calls : Unrefused fresh_receiver cs
  unfolding fresh_receiver
  calls = record { sound = sound_fresh; most = omega arith; sizes = bs; marked = plain_marked cs pl; outputs = rs; decodes = ds }

  -- the block that call i + 12 corrects, and the one sent
  wrong_is : (i : ℕ) → i + 11 < length cs
      → differ (get_or (drop 11 (run Receiving fresh (lent_blocks cs))) i []) (get_or (drop m (coded_blocks packets)) i [])
      ≡ wrong_in (drop (204 * m) (sent_bytes packets)) (received_bytes cs) i
  wrong_is i k =
      ap₂ differ (came_gathered cs bs i k)
      (coded_gathered packets ws m i (omega arith) ∙ ap (λ (x : List ℕ). gathered x i) (bytes_from (interleaved_blocks packets) (interleaved_whole packets) m))

  many : length (run Receiving fresh (lent_blocks cs)) ≡ length cs
  many = length_run Receiving fresh (lent_blocks cs) ∙ blocks_count cs

  -- where the answers are those of a stream begun at block m, and every block was corrected
  module _ (begun : BegunAt m packets cs) where
    abbrev late : List ℕ
    late = replicate (before_group m) 10 ++ replicate (length cs) 0

    late_changed : changed_in (take (length cs - 11) late) (drop 11 (run Receiving fresh (lent_blocks cs))) (take (length cs - 11) (drop m (coded_blocks packets)))
        ≡ wrong_bytes (drop (204 * m) (sent_bytes packets)) (received_bytes cs) 0 (length cs - 11)
    late_changed =
        changed_accepted (drop (204 * m) (sent_bytes packets)) (received_bytes cs) (before_group m) (length cs - 11) (length cs) 0
        (drop 11 (run Receiving fresh (lent_blocks cs))) (take (length cs - 11) (drop m (coded_blocks packets))) (omega arith)
        (omega (arith, length-drop 11 (run Receiving fresh (lent_blocks cs)), many)) sent_many one
      where
        sent_many : length cs - 11 ≤ length (take (length cs - 11) (drop m (coded_blocks packets)))
        sent_many = omega (arith, length-take-le (length cs - 11) (drop m (coded_blocks packets)) (omega (arith, length-drop m (coded_blocks packets), coded_count packets)))

        one : (i : ℕ) → i < length cs - 11
            → differ (get_or (drop 11 (run Receiving fresh (lent_blocks cs))) i []) (get_or (take (length cs - 11) (drop m (coded_blocks packets))) i [])
            ≡ wrong_in (drop (204 * m) (sent_bytes packets)) (received_bytes cs) (0 + i)
        one i k =
            let e : i ≡ 0 + i = omega arith in
            ap (differ (get_or (drop 11 (run Receiving fresh (lent_blocks cs))) i [])) (get_or-take (length cs - 11) (drop m (coded_blocks packets)) i [] k)
            ∙ wrong_is i (omega arith) ∙ ap (wrong_in (drop (204 * m) (sent_bytes packets)) (received_bytes cs)) e

    counted : (after_calls fresh_receiver cs).counts.changed ≡ wrong_bytes (drop (204 * m) (sent_bytes packets)) (received_bytes cs) 0 (length cs - 11)
    unfolding fresh_receiver
    counted =
        ap (λ (n : Counts). n.changed) (history_counts cs)
        ∙ calls_changed cs fresh_receiver calls
        ∙ ap (λ (ns : List ℕ). changed_in ns (run Receiving fresh (lent_blocks cs)) (lefts cs)) begun.answered
        ∙ changed_filling 11 (length cs) late (run Receiving fresh (lent_blocks cs)) (lefts cs) (omega (arith, many)) (omega (arith, lefts_count cs))
        ∙ ap (changed_in (take (length cs - 11) late) (drop 11 (run Receiving fresh (lent_blocks cs)))) (lefts_drop 11 cs ∙ begun.corrected)
        ∙ late_changed

  -- what a burst may do
  pub burst_received : Bursts (drop (204 * m) (sent_bytes packets)) (received_bytes cs) → Tolerated m packets cs
  burst_received b = record { begun = begun; changed = counted begun }
    where
      each : (i : ℕ) → i + 11 < length cs → differ (get_or (drop 11 (run Receiving fresh (lent_blocks cs))) i []) (get_or (drop m (coded_blocks packets)) i []) ≤ 8
      each i k =
          rw (wrong_is i k)
          (burst_wrong (drop (204 * m) (sent_bytes packets)) (received_bytes cs) i
          (b (204 * i) span (omega arith) (omega (arith, length-flatten 204 (lent_blocks cs) bs, blocks_count cs))))

      begun : BegunAt m packets cs
      begun = near_received packets ws m cs calls pl (coded_nears packets ws m cs h each)

  -- a block with more wrong bytes is not corrected to what was sent
  pub never_corrected : (p : ℕ) → p + 11 < length cs → 8 < wrong_in (drop (204 * m) (sent_bytes packets)) (received_bytes cs) p
      → get_or (lefts cs) (p + 11) [] ≡ get_or (drop m (coded_blocks packets)) p [] → ⊥
  unfolding fresh_receiver
  never_corrected p k w e =
      let i : 11 + p ≡ p + 11 = omega arith in
      let a : get_or (drop 11 (run Receiving fresh (lent_blocks cs))) p [] ≡ get_or (run Receiving fresh (lent_blocks cs)) (p + 11) [] =
      get_or-drop 11 (run Receiving fresh (lent_blocks cs)) p [] ∙ ap (λ (j : ℕ). get_or (run Receiving fresh (lent_blocks cs)) j []) i in
      let d : differ (get_or (run Receiving fresh (lent_blocks cs)) (p + 11) []) (get_or (lefts cs) (p + 11) []) ≡ wrong_in (drop (204 * m) (sent_bytes packets)) (received_bytes cs) p =
      ap₂ differ (sym a) e ∙ wrong_is p k in
      omega (arith, left_near cs fresh_receiver calls refl pl (p + 11) k, d, w)

-- ---- of the promise of `receive`

pub burst_promised : (packets : List (List ℕ)) → All Packet packets → (m : ℕ) (blocks : List (List ℕ)) → m + length blocks ≤ length packets
    → length blocks ≤ 4294967295 → All (Length 204) blocks → Bursts (drop (204 * m) (sent_bytes packets)) (flatten blocks)
    → (numbers : List ℕ) (given : List (List ℕ)) (last : Receiver) → Kept fresh_receiver blocks numbers given last
    → Promised m packets blocks numbers given last
burst_promised packets ws m blocks h l bs b numbers given last k =
    let c = kept_calls k in
    let n : length c.calls ≡ length blocks = sym (blocks_count c.calls) ∙ ap length c.lent in
    let t =
    burst_received packets ws m c.calls (omega arith) (omega arith) (subst (All (Length 204)) (sym c.lent) bs) c.plain c.output_fits c.decodes
    (subst (λ (x : List (List ℕ)). Bursts (drop (204 * m) (sent_bytes packets)) (flatten x)) (sym c.lent) b) in
    record {
      answered =
          sym c.answered ∙ t.begun.answered
          ∙ ap (λ (i : ℕ). take i (replicate 11 9 ++ replicate (before_group m) 10 ++ replicate i 0)) n;
      gave = sym c.given ∙ t.begun.given ∙ ap (λ (i : ℕ). take (i - 11 - before_group m) (drop (m + before_group m) packets)) n;
      changed =
          ap (λ (r : Receiver). r.counts.changed) (sym c.state) ∙ t.changed
          ∙ ap₂ (λ (x : List (List ℕ)) (i : ℕ). wrong_bytes (drop (204 * m) (sent_bytes packets)) (flatten x) 0 (i - 11)) c.lent n;
    }
