-- Calls after calls: the lines of both, and what waits after them. One block and part of one as pieces, and a piece after a piece.
-- Assumes nothing.
use mathlib.Core.Path.{◌≡◌, refl, sym, ap, ap₂, subst, subst₂, ◌∙◌}
use mathlib.Core.Bool.{Bool}
use mathlib.Core.List.{List, [], ◌∷◌, ◌++◌, append_assoc, append-nil, map-append}
use Prim.Native.Nat.{ℕ, ◌+◌, ◌-◌, ◌≤◌, ◌<◌}
use Prim.{tt}
use native.Mathlib.Omega.{arith}
use borrow.Author.Tests.{lt-ltb, le-ltb}
use lib.ListN.{length, take, drop, length-append, length-drop, drop_of_length-le}
use lib.Seq.{take_all, take_at, length-take-le}
use Rattle.common.specs.Choice.{pick}
use Rattle.common.specs.Lists.{chunks_of, rest_of}
use Rattle.common.proofs.Chunks.{length_rest, chunks_few, chunks_more, rest_few, cut}
use Rattle.common.proofs.Lists.{All-append}
use Rattle.receiver.specs.Receive.{ReceivesMarked}
use Rattle.receiver.specs.Run.{Call, DecodedCalls, answer_of, after_call, after_calls, OutputFits}
use Rattle.receiver.specs.declared.Receiver.{Receiver}
use Rattle.receiver.proofs.Reached.{CallDecoded, call_decoded}
use Rattle.losses.specs.Watch.{start_due_at, started_at, lines_now, certainty_next, call_lines, certainty_after, lines_of, certainty_of}
use Rattle.losses.specs.Feed.{bytes_held, held_marks, Listing, ListsPiece, WritesLines}
use Rattle.losses.specs.Block.{TakesBlock, PartReady, TakesLines}
use Rattle.losses.specs.declared.Certainty.{Certainty}
use Rattle.losses.specs.declared.LossStream.{LossStream}
use Rattle.losses.proofs.Decisions.{writes_none}

-- ---- calls after calls

pub after_both : (s : Receiver) (a b : List Call) → after_calls s (a ++ b) ≡ after_calls (after_calls s a) b
after_both s [] b = refl
after_both s (c ∷ a) b = after_both (after_call s c) a b

pub decodes_both : (s : Receiver) (a b : List Call) → DecodedCalls s a → DecodedCalls (after_calls s a) b → DecodedCalls s (a ++ b)
decodes_both s [] b p q = q
decodes_both s (c ∷ a) b p q = (p.0, decodes_both (after_call s c) a b p.1 q)

pub lines_both : (s : Receiver) (k : Certainty) (a b : List Call) → lines_of s k (a ++ b) ≡ lines_of s k a ++ lines_of (after_calls s a) (certainty_of s k a) b
lines_both s k [] b = refl
lines_both s k (c ∷ a) b =
    ap (λ (l : List ℕ). call_lines s k c ++ l) (lines_both (after_call s c) (certainty_after s k c) a b)
    ∙ sym (append_assoc (call_lines s k c) (lines_of (after_call s c) (certainty_after s k c) a) (lines_of (after_calls (after_call s c) a) (certainty_of (after_call s c) (certainty_after s k c) a) b))

pub certainty_both : (s : Receiver) (k : Certainty) (a b : List Call) → certainty_of s k (a ++ b) ≡ certainty_of (after_calls s a) (certainty_of s k a) b
certainty_both s k [] b = refl
certainty_both s k (c ∷ a) b = certainty_both (after_call s c) (certainty_after s k c) a b

module _ {s middle last : Receiver} {k kept : Certainty} {finally : Certainty} {a ma la lb : List ℕ} (b mb : List ℕ)
    (f : Listing s k a ma la middle kept) (g : Listing middle kept (rest_of 204 a ++ b) (rest_of 204 ma ++ mb) lb last finally) where
  pub listing_join : Listing s k (a ++ b) (ma ++ mb) (la ++ lb) last finally
  listing_join =
      let x = f.calls in
      let y = g.calls in
      record {
        calls = x ++ y;
        on = record {
          blocks =
              map-append (λ (c : Call). c.block) x y ∙ ap₂ (λ (u v : List (List ℕ)). u ++ v) f.on.blocks g.on.blocks
              ∙ sym (cut 204 (omega arith) a b).chunks_are;
          marked =
              map-append (λ (c : Call). c.marks) x y ∙ ap₂ (λ (u v : List (List ℕ)). u ++ v) f.on.marked g.on.marked
              ∙ sym (cut 204 (omega arith) ma mb).chunks_are;
          decodes = decodes_both s x y f.on.decodes (subst (λ (m : Receiver). DecodedCalls m y) f.state g.on.decodes);
          output_fits = All-append OutputFits x y f.on.output_fits g.on.output_fits;
        };
        listed =
            ap₂ (λ (u v : List ℕ). u ++ v) f.listed (g.listed ∙ ap₂ (λ (m : Receiver) (n : Certainty). lines_of m n y) f.state f.certainty)
            ∙ sym (lines_both s k x y);
        state = g.state ∙ ap (λ (m : Receiver). after_calls m y) f.state ∙ sym (after_both s x y);
        certainty =
            g.certainty ∙ ap₂ (λ (m : Receiver) (n : Certainty). certainty_of m n y) f.state f.certainty ∙ sym (certainty_both s k x y);
      }

-- ---- a piece after a piece

module _ {i j next : LossStream} {a ma la b mb lb : List ℕ} where
  pub takes_join : ListsPiece i a ma la j → ListsPiece j b mb lb next → ListsPiece i (a ++ b) (ma ++ mb) (la ++ lb) next
  takes_join f g =
      let u = bytes_held i ++ a in
      let v = held_marks i ++ ma in
      let p : (bytes_held i ++ a) ++ b ≡ bytes_held i ++ (a ++ b) = append_assoc (bytes_held i) a b in
      let q : (held_marks i ++ ma) ++ mb ≡ held_marks i ++ (ma ++ mb) = append_assoc (held_marks i) ma mb in
      let h : Listing j.receiver j.certainty (rest_of 204 u ++ b) (rest_of 204 v ++ mb) lb next.receiver next.certainty
      = subst₂ (λ (x y : List ℕ). Listing j.receiver j.certainty (x ++ b) (y ++ mb) lb next.receiver next.certainty) f.bytes_kept f.marks_kept g.listing in
      record {
        listing =
            subst₂ (λ (x y : List ℕ). Listing i.receiver i.certainty x y (la ++ lb) next.receiver next.certainty) p q
            (listing_join b mb f.listing h);
        held_is =
            g.held_is ∙ ap (λ (x : List ℕ). length (rest_of 204 (x ++ b))) f.bytes_kept
            ∙ ap length (sym (cut 204 (omega arith) u b).rest_is ∙ ap (rest_of 204) p);
        bytes_kept =
            g.bytes_kept ∙ ap (λ (x : List ℕ). rest_of 204 (x ++ b)) f.bytes_kept ∙ sym (cut 204 (omega arith) u b).rest_is ∙ ap (rest_of 204) p;
        marks_kept =
            g.marks_kept ∙ ap (λ (x : List ℕ). rest_of 204 (x ++ mb)) f.marks_kept ∙ sym (cut 204 (omega arith) v mb).rest_is ∙ ap (rest_of 204) q;
      }

-- ---- part of a block, and a whole one

module _ {i next : LossStream} {part marks : List ℕ} where
  -- fewer bytes than a block
  pub takes_few : next.receiver ≡ i.receiver → next.certainty ≡ i.certainty → next.held ≡ length (bytes_held i ++ part) → bytes_held next ≡ bytes_held i ++ part → held_marks next ≡ held_marks i ++ marks
      → length (bytes_held i ++ part) < 204 → length (held_marks i ++ marks) < 204 → ListsPiece i part marks [] next
  takes_few r k n b m h l = record {
    listing = record {
      calls = [];
      on = record { blocks = sym (chunks_few 204 (omega arith) (bytes_held i ++ part) h); marked = sym (chunks_few 204 (omega arith) (held_marks i ++ marks) l); decodes = tt; output_fits = tt };
      listed = refl;
      state = r;
      certainty = k;
    };
    held_is = n ∙ ap length (sym (rest_few 204 (omega arith) (bytes_held i ++ part) h));
    bytes_kept = b ∙ sym (rest_few 204 (omega arith) (bytes_held i ++ part) h);
    marks_kept = m ∙ sym (rest_few 204 (omega arith) (held_marks i ++ marks) l);
  }

whole_chunk : (l : List ℕ) → length l ≡ 204 → l ∷ [] ≡ chunks_of 204 l
whole_chunk l e =
    sym (chunks_more 204 (omega arith) l (omega arith)
    ∙ ap₂ (λ (x : List ℕ) (y : List (List ℕ)). x ∷ y) (take_all 204 l (omega arith)) (chunks_few 204 (omega arith) (drop 204 l) (omega (arith, length-drop 204 l))))

none_left : (l : List ℕ) → length l ≡ 204 → [] ≡ rest_of 204 l
none_left l e = by (rest_of 204 l) (omega (arith, length_rest 204 l))
  where
    by : (r : List ℕ) → length r ≡ 0 → [] ≡ r
    by [] z = refl
    by (x ∷ r) z = absurd (omega arith)

module _ {i next : LossStream} {part marks block own : List ℕ} (b : block ≡ bytes_held i ++ part) (m : own ≡ held_marks i ++ marks)
    (size : length block ≡ 204) (many : length own ≡ 204) (empty : next.held ≡ 0) where
  pub takes_whole : {room output roomAfter exit : List ℕ} {number count : ℕ}
      → TakesBlock i.receiver i.certainty block own room output number count next.receiver next.certainty roomAfter exit → TakesLines i part marks output count next exit
  takes_whole t =
      let c = t.call in
      record {
        lines = call_lines i.receiver i.certainty c;
        takes = record {
          listing = record {
            calls = c ∷ [];
            on = record {
              blocks = ap (λ (x : List ℕ). x ∷ []) t.lent ∙ whole_chunk block size ∙ ap (chunks_of 204) b;
              marked = ap (λ (x : List ℕ). x ∷ []) t.marked ∙ whole_chunk own many ∙ ap (chunks_of 204) m;
              decodes = (t.decodes, tt);
              output_fits = (t.output_fits, tt);
            };
            listed = sym (append-nil (call_lines i.receiver i.certainty c));
            state = t.state;
            certainty = t.certainty;
          };
          held_is = empty ∙ ap length (none_left block size ∙ ap (rest_of 204) b);
          bytes_kept = ap (λ (n : ℕ). take n next.pending) empty ∙ none_left block size ∙ ap (rest_of 204) b;
          marks_kept = ap (λ (n : ℕ). take n next.marks) empty ∙ none_left own many ∙ ap (rest_of 204) m;
        };
        writes = t.writes;
      }

-- ---- a call of the receiver

module _ (s : Receiver) (k : Certainty) {block marks room packet : List ℕ} {number : ℕ} {next : Receiver} (enough : 188 ≤ length room) (m : ReceivesMarked s block marks room number next packet) where
  abbrev v : CallDecoded s block marks room number next packet
  v = call_decoded m

  abbrev call : Call
  call = record { block = block; marks = marks; output = room; left = v.left; decoded = v.decoded }

  -- while the delays fill
  pub filling_block : s.counts.taken < 11 → (output : List ℕ) → TakesBlock s k block marks room output number 0 next k packet output
  filling_block h output = record {
    call = call;
    lent = refl;
    marked = refl;
    decodes = v.decodes;
    output_fits = enough;
    answered = v.number;
    given = v.written;
    state = v.state;
    certainty = sym (ap (λ (t : Bool). pick t k (certainty_next k (answer_of s call) (started_at (after_call s call).sync.place))) (lt-ltb _ _ h));
    writes = subst (λ (l : List ℕ). WritesLines l output 0 output) (sym none) (writes_none output);
  }
    where
      none : call_lines s k call ≡ []
      none =
          ap (λ (t : Bool). pick t [] (lines_now k (s.counts.taken - 11) (answer_of s call) (start_due_at s.sync.place) (started_at (after_call s call).sync.place))) (lt-ltb _ _ h)

  -- and then
  pub decided_block : 11 ≤ s.counts.taken → (due start : Bool) (kept : Certainty) (output exit : List ℕ) (count : ℕ)
      → due ≡ start_due_at s.sync.place → start ≡ started_at next.sync.place
      → kept ≡ certainty_next k number start → WritesLines (lines_now k (s.counts.taken - 11) number due start) output count exit
      → TakesBlock s k block marks room output number count next kept packet exit
  decided_block h due start kept output exit count d t e w = record {
    call = call;
    lent = refl;
    marked = refl;
    decodes = v.decodes;
    output_fits = enough;
    answered = v.number;
    given = v.written;
    state = v.state;
    certainty =
        e ∙ ap₂ (λ (i : ℕ) (b : Bool). certainty_next k i b) answered begun
        ∙ sym (ap (λ (b : Bool). pick b k (certainty_next k (answer_of s call) (started_at (after_call s call).sync.place))) (le-ltb _ _ h));
    writes = subst (λ (l : List ℕ). WritesLines l output count exit) lines w;
  }
    where
      answered : number ≡ answer_of s call
      answered = v.number

      begun : start ≡ started_at (after_call s call).sync.place
      begun = t ∙ ap (λ (x : Receiver). started_at x.sync.place) v.state

      lines : lines_now k (s.counts.taken - 11) number due start ≡ call_lines s k call
      lines =
          ap₂ (λ (i : ℕ) (b : Bool). lines_now k (s.counts.taken - 11) i b start) answered d
          ∙ ap (lines_now k (s.counts.taken - 11) (answer_of s call) (start_due_at s.sync.place)) begun
          ∙ sym (ap (λ (b : Bool). pick b [] (lines_now k (s.counts.taken - 11) (answer_of s call) (start_due_at s.sync.place) (started_at (after_call s call).sync.place))) (le-ltb _ _ h))

-- ---- a part written behind the bytes held

module _ (i : LossStream) (p : length i.pending ≡ 204) (m : length i.marks ≡ 204) {part marks output : List ℕ} (y : PartReady i part marks output) {pending own : List ℕ}
    (a : pending ≡ take i.held i.pending ++ part ++ drop (i.held + length part) i.pending)
    (b : own ≡ take i.held i.marks ++ marks ++ drop (i.held + length marks) i.marks) where
  bytes_length : length (bytes_held i ++ part) ≡ i.held + length part
  bytes_length = length-append (bytes_held i) part ∙ ap (λ (n : ℕ). n + length part) (length-take-le i.held i.pending (omega (arith, y.small)))

  marks_length : length (held_marks i ++ marks) ≡ i.held + length part
  marks_length =
      length-append (held_marks i) marks ∙ ap₂ (λ (n l : ℕ). n + l) (length-take-le i.held i.marks (omega (arith, y.small))) y.marked

  pub part_kept : (end : ℕ) → end ≡ i.held + length part → end < 204
      → TakesLines i part marks output 0 (record { receiver = i.receiver; certainty = i.certainty; pending = pending; marks = own; held = end }) output
  part_kept end e h = record {
    lines = [];
    takes =
        takes_few refl refl (e ∙ sym bytes_length)
        (ap (take end) a ∙ take_at (bytes_held i ++ part) (drop (i.held + length part) i.pending) end (bytes_length ∙ sym e))
        (ap (take end) b ∙ take_at (held_marks i ++ marks) (drop (i.held + length marks) i.marks) end (marks_length ∙ sym e))
        (omega (arith, bytes_length)) (omega (arith, marks_length));
    writes = writes_none output;
  }

  pub part_whole : 204 ≤ i.held + length part → {room roomAfter : List ℕ} {next : Receiver} {kept : Certainty} {number count : ℕ} {exit : List ℕ}
      → TakesBlock i.receiver i.certainty pending own room output number count next kept roomAfter exit
      → TakesLines i part marks output count (record { receiver = next; certainty = kept; pending = pending; marks = own; held = 0 }) exit
  part_whole h t =
      let f = y.within in
      let g = y.marked in
      takes_whole bytes_are marks_are (ap length bytes_are ∙ bytes_length ∙ omega arith) (ap length marks_are ∙ marks_length ∙ omega arith) refl t
    where
      bytes_are : pending ≡ bytes_held i ++ part
      bytes_are =
          a ∙ ap (λ (l : List ℕ). (bytes_held i ++ part) ++ l) (drop_of_length-le i.pending {i = i.held + length part} (omega (arith, h))) ∙ append-nil (bytes_held i ++ part)

      marks_are : own ≡ held_marks i ++ marks
      marks_are =
          b ∙ ap (λ (l : List ℕ). (held_marks i ++ marks) ++ l) (drop_of_length-le i.marks {i = i.held + length marks} (omega (arith, h, y.marked))) ∙ append-nil (held_marks i ++ marks)
