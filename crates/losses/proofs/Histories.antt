-- The theorem: after any history of calls from a fresh stream, its lines and those of its end are the list of all the bytes that came, whatever the
-- pieces.
-- Assumes nothing.
use mathlib.Core.Path.{◌≡◌, refl, sym, ap, ap₂, subst, subst₂, ◌∙◌}
use mathlib.Core.Bool.{Bool, true, false}
use mathlib.Core.List.{List, [], ◌∷◌, ◌++◌, append_assoc, append-nil, map}
use Prim.Native.Nat.{ℕ, zero, suc, ◌+◌, ◌-◌, ◌*◌, ◌/◌, ◌%◌, ◌≤◌, ◌<◌}
use Prim.{tt}
use native.Mathlib.Omega.{arith}
use borrow.Author.Tests.{eq-eqb, ne_eqb, lt-ltb, le-ltb, ltb-false}
use lib.Dec.{eqb, ltb}
use lib.ListN.{length, get_or, take, drop, length-append, length-drop}
use lib.Seq.{take_at, length-take-le}
use Rattle.common.specs.Choice.{pick}
use Rattle.common.specs.Lists.{All, Length, largest, chunks, chunks_of, rest_of}
use Rattle.common.proofs.Chunks.{length-chunks, length_rest, chunks_whole, chunks_few, cut}
use Rattle.reed_solomon.specs.Marks.{are_marks}
use Rattle.group_sync.specs.Group.{fresh_sync, group_step}
use Rattle.group_sync.specs.Stream.{outcomes}
use Rattle.group_sync.specs.declared.Outcome.TheVariants.{Filling}
use Rattle.group_sync.specs.declared.GroupSync.{GroupSync}
use Rattle.group_sync.specs.declared.GroupStep.{GroupStep}
use Rattle.reception_counts.specs.Counts.{outcome_number}
use Rattle.receiver.specs.Receive.{fresh_receiver, receiver_in_range, decoding_of, step_of, state_after, Ready}
use Rattle.receiver.specs.Run.{Call, answer_of, after_call, after_calls}
use Rattle.receiver.specs.Begun.{decodings}
use Rattle.receiver.specs.declared.Receiver.{Receiver}
use Rattle.receiver.proofs.Calls.{ready_number, ready_state}
use Rattle.receiver.proofs.Outcomes.{Unrefused, next_unrefused, taken_after}
use Rattle.receiver.proofs.Reached.{sound_fresh, sound_range, reached_in_range}
use Rattle.receiver.proofs.Reception.{blocks_count}
use Rattle.losses.specs.List.{losses}
use Rattle.losses.specs.Watch.{waiting_of, start_due_at, started_at, waiting_lines, lines_now, certainty_next, call_lines, certainty_after, lines_of, certainty_of}
use Rattle.losses.specs.Feed.{bytes_held, fresh_loss_stream, loss_stream_in_range, CallsOn, Listing, marks_of, marks_fit, capacity_of, ListsPiece, FeedsLosses, refused, fed, end_lines}
use Rattle.losses.specs.Block.{Watched}
use Rattle.losses.specs.History.{LossFeedings, none, feeding, LossesCame, LossList}
use Rattle.losses.specs.declared.Certainty.{Certainty}
use Rattle.losses.specs.declared.Certainty.TheVariants.{Unsure}
use Rattle.losses.specs.declared.LossStream.{LossStream}
use Rattle.losses.proofs.Lines.{lines_of_all, lines_listed}
use Rattle.losses.proofs.Blocks.{listing_join}
use Rattle.losses.proofs.Watching.{watched_calls}
use Rattle.losses.proofs.Pieces.{marks_count}
use Rattle.losses.proofs.Streams.{stream_in_range, fit_count, fit_small}

-- ---- the calls by group synchronization

module _ (s : Receiver) (k : Certainty) (c : Call) (cs : List Call) (u : Unrefused s (c ∷ cs)) where
  pub ready : Ready s c.block c.marks c.output
  ready = record { range = sound_range s u.sound; size = u.sizes.0; marked = u.marked.0; enough = u.outputs.0; more = let m = u.most in omega arith }

  state_is : after_call s c ≡ state_after s c.block c.marks c.left c.decoded
  state_is = ready_state s c.block c.marks c.output ready c.left c.decoded

  module _ (h : 11 ≤ s.counts.taken) where
    abbrev pub made : GroupStep
    made = group_step s.sync (decoding_of c.decoded (get_or c.left 0 0))

    step_is : step_of s c.left c.decoded ≡ made
    step_is = ap (λ (t : Bool). pick t (record { outcome = Filling; sync = s.sync }) made) (le-ltb _ _ h)

    pub sync_is : (after_call s c).sync ≡ made.sync
    unfolding state_after
    sync_is = ap (λ (r : Receiver). r.sync) state_is ∙ ap (λ (x : GroupStep). x.sync) step_is

    pub number_is : answer_of s c ≡ outcome_number made.outcome
    number_is = ready_number s c.block c.marks c.output ready c.left c.decoded ∙ ap (λ (x : GroupStep). outcome_number x.outcome) step_is

    pub started_is : started_at (after_call s c).sync.place ≡ started_at made.sync.place
    started_is = ap (λ (x : GroupSync). started_at x.place) sync_is

    lines_are : call_lines s k c ≡ lines_now k (s.counts.taken - 11) (outcome_number made.outcome) (start_due_at s.sync.place) (started_at made.sync.place)
    lines_are =
        ap (λ (t : Bool). pick t [] (lines_now k (s.counts.taken - 11) (answer_of s c) (start_due_at s.sync.place) (started_at (after_call s c).sync.place))) (le-ltb _ _ h)
        ∙ ap₂ (λ (n : ℕ) (t : Bool). lines_now k (s.counts.taken - 11) n (start_due_at s.sync.place) t) number_is started_is

    pub certainty_is : certainty_after s k c ≡ certainty_next k (outcome_number made.outcome) (started_at made.sync.place)
    certainty_is =
        ap (λ (t : Bool). pick t k (certainty_next k (answer_of s c) (started_at (after_call s c).sync.place))) (le-ltb _ _ h)
        ∙ ap₂ (λ (n : ℕ) (t : Bool). certainty_next k n t) number_is started_is

  module _ (h : s.counts.taken < 11) where
    none_lines : call_lines s k c ≡ []
    none_lines =
        ap (λ (t : Bool). pick t [] (lines_now k (s.counts.taken - 11) (answer_of s c) (start_due_at s.sync.place) (started_at (after_call s c).sync.place))) (lt-ltb _ _ h)

    pub none_changed : certainty_after s k c ≡ k
    none_changed = ap (λ (t : Bool). pick t k (certainty_next k (answer_of s c) (started_at (after_call s c).sync.place))) (lt-ltb _ _ h)

    pub sync_kept : (after_call s c).sync ≡ s.sync
    unfolding state_after
    sync_kept =
        ap (λ (r : Receiver). r.sync) state_is
        ∙ ap (λ (t : Bool). (pick t (record { outcome = Filling; sync = s.sync }) (group_step s.sync (decoding_of c.decoded (get_or c.left 0 0)))).sync) (lt-ltb _ _ h)

-- the lines of the calls and of the end, after filling
all_lines : (cs : List Call) (s : Receiver) (k : Certainty) (block : ℕ) → Unrefused s cs → 11 ≤ s.counts.taken → block ≡ s.counts.taken - 11
    → lines_of s k cs ++ waiting_lines (certainty_of s k cs) (block + length cs) ≡ lines_of_all s.sync k block (decodings cs)
all_lines [] s k block u h e = let z : block + 0 ≡ block = omega arith in ap (waiting_lines k) z
all_lines (c ∷ cs) s k block u h e =
    let g = group_step s.sync (decoding_of c.decoded (get_or c.left 0 0)) in
    let t = taken_after s c cs u in
    let n : block + 1 ≡ (after_call s c).counts.taken - 11 = omega (arith, t) in
    let l : block + suc (length cs) ≡ block + 1 + length cs = omega arith in
    let m = certainty_after s k c in
    append_assoc (call_lines s k c) (lines_of (after_call s c) m cs) (waiting_lines (certainty_of (after_call s c) m cs) (block + suc (length cs)))
    ∙ ap (λ (i : ℕ). call_lines s k c ++ (lines_of (after_call s c) m cs ++ waiting_lines (certainty_of (after_call s c) m cs) i)) l
    ∙ ap (λ (x : List ℕ). call_lines s k c ++ x) (all_lines cs (after_call s c) m (block + 1) (next_unrefused s c cs u) (omega (arith, t)) n)
    ∙ ap₂ (λ (x : List ℕ) (y : GroupSync). x ++ lines_of_all y m (block + 1) (decodings cs)) (lines_are s k c cs u h) (sync_is s k c cs u h)
    ∙ ap₂ (λ (i : ℕ) (q : Certainty). lines_now k i (outcome_number g.outcome) (start_due_at s.sync.place) (started_at g.sync.place) ++ lines_of_all g.sync q (block + 1) (decodings cs)) (sym e) (certainty_is s k c cs u h)

-- n more blocks until the delays are full
filled_lines : (n : ℕ) (cs : List Call) (s : Receiver) (k : Certainty) → Unrefused s cs → s.counts.taken + n ≡ 11
    → lines_of s k cs ++ waiting_lines (certainty_of s k cs) (length cs - n) ≡ lines_of_all s.sync k 0 (decodings (drop n cs))
filled_lines zero cs s k u h =
    let z : length cs - 0 ≡ 0 + length cs = omega arith in
    ap (λ (i : ℕ). lines_of s k cs ++ waiting_lines (certainty_of s k cs) i) z ∙ all_lines cs s k 0 u (omega arith) (omega arith)
filled_lines (suc n) [] s k u h = let z : 0 - suc n ≡ 0 = omega arith in ap (waiting_lines k) z
filled_lines (suc n) (c ∷ cs) s k u h =
    let l : s.counts.taken < 11 = omega arith in
    let z : suc (length cs) - suc n ≡ length cs - n = omega arith in
    let m = certainty_after s k c in
    ap₂ (λ (x : List ℕ) (i : ℕ). (x ++ lines_of (after_call s c) m cs) ++ waiting_lines (certainty_of (after_call s c) m cs) i) (none_lines s k c cs u l) z
    ∙ filled_lines n cs (after_call s c) m (next_unrefused s c cs u) (omega (arith, taken_after s c cs u))
    ∙ ap₂ (λ (y : GroupSync) (q : Certainty). lines_of_all y q 0 (decodings (drop n cs))) (sync_kept s k c cs u l) (none_changed s k c cs u l)

-- of a fresh receiver
pub fresh_lines : (cs : List Call) → Unrefused fresh_receiver cs
    → lines_of fresh_receiver (Unsure 0) cs ++ waiting_lines (certainty_of fresh_receiver (Unsure 0) cs) (length cs - 11) ≡ losses (outcomes fresh_sync (decodings (drop 11 cs)))
unfolding fresh_receiver
fresh_lines cs u = filled_lines 11 cs fresh_receiver (Unsure 0) u refl ∙ lines_listed (decodings (drop 11 cs)) fresh_sync 0 refl

-- ---- marks in parts

pub largest_both : (a b : List ℕ) → largest a < 2 → largest b < 2 → largest (a ++ b) < 2
unfolding largest
largest_both [] b h l = l
largest_both (x ∷ a) b h l = omega (arith, largest_both a b (omega arith) l)

pub largest_behind : (n : ℕ) (l : List ℕ) → largest l < 2 → largest (drop n l) < 2
unfolding largest
largest_behind zero l h = h
largest_behind (suc n) [] h = h
largest_behind (suc n) (x ∷ l) h = largest_behind n l (omega arith)

largest_before : (n : ℕ) (l : List ℕ) → largest l < 2 → largest (take n l) < 2
unfolding largest
largest_before zero l h = omega arith
largest_before (suc n) [] h = h
largest_before (suc n) (x ∷ l) h = omega (arith, largest_before n l (omega arith))

chunk_marks : (n : ℕ) (l : List ℕ) → 204 * n ≤ length l → largest l < 2 → All (λ x. are_marks x ≡ true) (chunks 204 n l)
unfolding chunks
chunk_marks zero l h m = tt
chunk_marks (suc n) l h m =
    (are_marks_lem (take 204 l) (length-take-le 204 l (omega arith)) (largest_before 204 l m), chunk_marks n (drop 204 l) (omega (arith, length-drop 204 l)) (largest_behind 204 l m))
  where
    are_marks_lem : (x : List ℕ) → length x ≡ 204 → largest x < 2 → are_marks x ≡ true
    are_marks_lem x e k = simp (eq-eqb _ _ e, lt-ltb _ _ k)

pub all_back : (P : List ℕ → Type 0) (f : Call → List ℕ) (cs : List Call) → All P (map f cs) → All (λ c. P (f c)) cs
all_back P f [] h = tt
all_back P f (c ∷ cs) h = (h.0, all_back P f cs h.1)

-- ---- the calls on bytes with a mark for each

module _ {bytes marks : List ℕ} {cs : List Call} (on : CallsOn fresh_receiver bytes marks cs) (small : largest marks < 2) (few : length bytes ≤ 204 * 4294967295) where
  pub calls_count : length cs ≡ length bytes / 204
  calls_count = sym (blocks_count cs) ∙ ap length on.blocks ∙ length-chunks 204 bytes

  pub calls_unrefused : Unrefused fresh_receiver cs
  unfolding fresh_receiver chunks_of
  calls_unrefused = record {
    sound = sound_fresh;
    most = omega (arith, calls_count);
    sizes = subst (All (Length 204)) (sym on.blocks) (chunks_whole 204 bytes);
    marked =
        all_back (λ x. are_marks x ≡ true) (λ c. c.marks) cs
        (subst (All (λ x. are_marks x ≡ true)) (sym on.marked) (chunk_marks (length marks / 204) marks (omega arith) small));
    outputs = on.output_fits;
    decodes = on.decodes;
  }

pub taken_all : (cs : List Call) (s : Receiver) → Unrefused s cs → (after_calls s cs).counts.taken ≡ s.counts.taken + length cs
taken_all [] s u = omega arith
taken_all (c ∷ cs) s u = omega (arith, taken_all cs (after_call s c) (next_unrefused s c cs u), taken_after s c cs u)

-- ---- what bytes come to

module _ {bytes marks lines : List ℕ} {i : LossStream} (r : LossesCame bytes marks lines i) where
  came_calls : Unrefused fresh_receiver r.listing.calls
  came_calls = calls_unrefused r.listing.on r.small r.few

  came_taken : i.receiver.counts.taken ≡ length bytes / 204
  unfolding fresh_receiver
  came_taken =
      ap (λ (s : Receiver). s.counts.taken) r.listing.state
      ∙ omega (arith, taken_all r.listing.calls fresh_receiver came_calls, calls_count r.listing.on r.small r.few)

  came_held : i.held ≡ length bytes % 204
  came_held = r.held_is ∙ length_rest 204 bytes

  pub came_watched : Watched i.receiver i.certainty
  unfolding fresh_receiver
  came_watched =
      subst₂ Watched (sym r.listing.state) (sym r.listing.certainty)
      (watched_calls r.listing.calls fresh_receiver (Unsure 0) (record { range = refl; most = omega arith }))

  -- no number is out of its range
  pub came_range : loss_stream_in_range i ≡ true
  unfolding rest_of
  came_range =
      stream_in_range i
      (subst (λ (s : Receiver). receiver_in_range s ≡ true) (sym r.listing.state) (reached_in_range r.listing.calls r.listing.on.decodes))
      (omega (arith, came_held))
      (subst (λ (l : List ℕ). largest l < 2) (sym r.marks_kept) (largest_behind (length marks - length marks % 204) marks r.small))
      came_watched.range

  pub came_capacity : capacity_of i ≡ 204 * 4294967295 - length bytes
  came_capacity = omega (arith, came_taken, came_held, r.few)

  -- the lines so far and those of the end are the list
  pub came_listed : LossList bytes marks (lines ++ end_lines i)
  came_listed =
      let cs = r.listing.calls in
      let n : i.receiver.counts.taken - 11 ≡ length cs - 11 = ap (λ (k : ℕ). k - 11) (came_taken ∙ sym (calls_count r.listing.on r.small r.few)) in
      record {
        calls = cs;
        on = r.listing.on;
        listed =
            ap₂ (λ (l : List ℕ) (k : Certainty). l ++ waiting_lines k (i.receiver.counts.taken - 11)) r.listing.listed r.listing.certainty
            ∙ ap (λ (k : ℕ). lines_of fresh_receiver (Unsure 0) cs ++ waiting_lines (certainty_of fresh_receiver (Unsure 0) cs) k) n
            ∙ fresh_lines cs came_calls;
        few = r.few;
      }

  -- a piece more
  came_piece : {piece own new : List ℕ} {next : LossStream} → ListsPiece i piece own new next → length own ≡ length piece → largest own < 2 → length bytes + length piece ≤ 204 * 4294967295
      → LossesCame (bytes ++ piece) (marks ++ own) (lines ++ new) next
  came_piece {piece} {own} {new} {next} t m k h =
      let b : rest_of 204 (bytes_held i ++ piece) ≡ rest_of 204 (bytes ++ piece)
      = ap (λ (x : List ℕ). rest_of 204 (x ++ piece)) r.bytes_kept ∙ sym (cut 204 (omega arith) bytes piece).rest_is in
      record {
        listing =
            listing_join piece own r.listing
            (subst₂ (λ (x y : List ℕ). Listing i.receiver i.certainty (x ++ piece) (y ++ own) new next.receiver next.certainty) r.bytes_kept r.marks_kept t.listing);
        held_is = t.held_is ∙ ap length b;
        bytes_kept = t.bytes_kept ∙ b;
        marks_kept = t.marks_kept ∙ ap (λ (x : List ℕ). rest_of 204 (x ++ own)) r.marks_kept ∙ sym (cut 204 (omega arith) marks own).rest_is;
        many = length-append marks own ∙ ap₂ (λ (x y : ℕ). x + y) r.many m ∙ sym (length-append bytes piece);
        small = largest_both marks own r.small k;
        few = omega (arith, length-append bytes piece);
      }

pub came_none : LossesCame [] [] [] fresh_loss_stream
unfolding fresh_loss_stream rest_of largest
came_none = record {
  listing = record {
    calls = [];
    on = record { blocks = sym (chunks_few 204 (omega arith) [] (omega arith)); marked = sym (chunks_few 204 (omega arith) [] (omega arith)); decodes = tt; output_fits = tt };
    listed = refl;
    state = refl;
    certainty = refl;
  };
  held_is = refl;
  bytes_kept = refl;
  marks_kept = refl;
  many = refl;
  small = omega arith;
  few = omega arith;
}

-- ---- a call more

-- no test refused
none_refused : (a b c d : Bool) → ◌≡◌ {A = ℕ} (pick a (pick b (pick c 4 (pick d 7 0)) 20) 5) 0 → (b ≡ true) × (d ≡ false)
none_refused true true true d e = absurd (omega arith)
none_refused true true false true e = absurd (omega arith)
none_refused true true false false e = (refl, refl)
none_refused true false c d e = absurd (omega arith)
none_refused false b c d e = absurd (omega arith)

pub came_feeds : {bytes marks lines : List ℕ} {i : LossStream} → LossesCame bytes marks lines i
    → (piece own output exit : List ℕ) (number count : ℕ) (next : LossStream) → FeedsLosses i piece own output number count next exit
    → LossesCame (bytes ++ pick (eqb number 0) piece []) (marks ++ pick (eqb number 0) (marks_of piece own) []) (lines ++ take count exit) next
came_feeds {bytes} {marks} {lines} {i} r piece own output exit number count next (refused n p e s w) =
    let t = ne_eqb number 0 (λ z. omega arith) in
    let b : bytes ≡ bytes ++ pick (eqb number 0) piece [] = sym (ap (λ (x : Bool). bytes ++ pick x piece []) t ∙ append-nil bytes) in
    let m : marks ≡ marks ++ pick (eqb number 0) (marks_of piece own) [] = sym (ap (λ (x : Bool). marks ++ pick x (marks_of piece own) []) t ∙ append-nil marks) in
    let o : lines ≡ lines ++ take count exit = sym (ap (λ (k : ℕ). lines ++ take k exit) e ∙ append-nil lines) in
    subst (LossesCame (bytes ++ pick (eqb number 0) piece []) (marks ++ pick (eqb number 0) (marks_of piece own) []) (lines ++ take count exit)) (sym s)
    (subst₂ (λ (x y : List ℕ). LossesCame x y (lines ++ take count exit) i) b m (subst (λ (z : List ℕ). LossesCame bytes marks z i) o r))
came_feeds {bytes} {marks} {lines} {i} r piece own output exit number count next (fed z n new t w) =
    let f = none_refused (loss_stream_in_range i) (marks_fit piece own) (ltb (length output) (waiting_of i.certainty + (i.held + length piece) / 204)) (ltb (capacity_of i) (length piece)) z in
    let l = ltb-false (capacity_of i) (length piece) f.1 in
    let e = eq-eqb number 0 n in
    let o : take count exit ≡ new = ap (take count) w.written ∙ take_at new (drop count output) count (sym w.counted) in
    subst (λ (x : List ℕ). LossesCame (bytes ++ pick (eqb number 0) piece []) (marks ++ pick (eqb number 0) (marks_of piece own) []) (lines ++ x) next) (sym o)
    (subst (λ (x : Bool). LossesCame (bytes ++ pick x piece []) (marks ++ pick x (marks_of piece own) []) (lines ++ new) next) (sym e)
    (came_piece r t (marks_count piece own (fit_count piece own f.0)) (fit_small piece own f.0) (omega (arith, l, came_capacity r, r.few))))

-- ---- the theorem

came_calls_more : {bytes marks lines came own more : List ℕ} {i last : LossStream} → LossesCame bytes marks lines i → LossFeedings i came own more last
    → LossesCame (bytes ++ came) (marks ++ own) (lines ++ more) last
came_calls_more {bytes} {marks} {lines} {i = i} r none =
    subst₂ (λ (x y : List ℕ). LossesCame x y (lines ++ []) i) (sym (append-nil bytes)) (sym (append-nil marks)) (subst (λ (z : List ℕ). LossesCame bytes marks z i) (sym (append-nil lines)) r)
came_calls_more {bytes} {marks} {lines} {last = last} r (feeding {next = next} {bytes = b} {marks = m} {lines = l} piece own output exit number count f h) =
    subst₂ (λ (x y : List ℕ). LossesCame x y (lines ++ (take count exit ++ l)) last)
    (append_assoc bytes (pick (eqb number 0) piece []) b) (append_assoc marks (pick (eqb number 0) (marks_of piece own) []) m)
    (subst (λ (z : List ℕ). LossesCame ((bytes ++ pick (eqb number 0) piece []) ++ b) ((marks ++ pick (eqb number 0) (marks_of piece own) []) ++ m) z last) (append_assoc lines (take count exit) l)
    (came_calls_more {bytes = bytes ++ pick (eqb number 0) piece []} {marks = marks ++ pick (eqb number 0) (marks_of piece own) []} {lines = lines ++ take count exit}
    (came_feeds r piece own output exit number count next f) h))

pub every_history : {bytes marks lines : List ℕ} {last : LossStream} → LossFeedings fresh_loss_stream bytes marks lines last → LossesCame bytes marks lines last
every_history h = came_calls_more came_none h
