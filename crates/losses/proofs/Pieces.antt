-- A piece, taken part after part: what is written so far, and what is left to take.
-- Assumes nothing.
use mathlib.Core.Path.{◌≡◌, refl, sym, ap, ap₂, subst, subst₂, ◌∙◌}
use mathlib.Core.List.{List, [], ◌++◌, append_assoc, append-nil}
use mathlib.Core.Logic.{◌⊎◌, inl, inr}
use Prim.Native.Nat.{ℕ, ◌+◌, ◌-◌, ◌/◌, ◌%◌, ◌≤◌, ◌<◌, min}
use native.Mathlib.Decide.{ℕ_discrete}
use native.Mathlib.Omega.{arith}
use borrow.Author.Tests.{eq-eqb, ne_eqb}
use borrow.Rule.Slice.PartMut.{put_mid, mid_of}
use lib.ListN.{length, take, drop, replicate, length-append, length-drop, length-replicate, drop_of_length-le, replicate-append-replicate}
use lib.Seq.{take_all, take_at, take-nil, take-add, drop_at, drop-drop, length-take-le}
use Rattle.common.proofs.Chunks.{length-chunks, length_rest}
use Rattle.reed_solomon.specs.Marks.{no_marks}
use Rattle.receiver.specs.declared.Receiver.{Receiver}
use Rattle.receiver.proofs.Reception.{blocks_count}
use Rattle.losses.specs.Watch.{waiting_of}
use Rattle.losses.specs.Feed.{bytes_held, held_marks, Listing, marks_of, ListsPiece, WritesLines}
use Rattle.losses.specs.Block.{marks_front, Watched, PartReady, PieceReady, TakesLines}
use Rattle.losses.specs.declared.Certainty.{Certainty}
use Rattle.losses.specs.declared.LossStream.{LossStream}
use Rattle.losses.proofs.Decisions.{writes_none}
use Rattle.losses.proofs.Blocks.{takes_few, takes_join}
use Rattle.losses.proofs.Watching.{watched_calls, lines_few}

-- ---- lines written behind lines

pub writes_both : {a b output exit exit' : List ℕ} {m n : ℕ} → WritesLines a output m exit → WritesLines b (drop m exit) n exit' → WritesLines (a ++ b) output (m + n) (take m exit ++ exit')
writes_both {a} {b} {output} {exit} {exit'} {m} {n} f g =
    let front : take m exit ≡ a = ap (take m) f.written ∙ take_at a (drop m output) m (sym f.counted) in
    let back : drop m exit ≡ drop m output = ap (drop m) f.written ∙ drop_at a (drop m output) m (sym f.counted) in
    record {
      counted = ap₂ (λ (i j : ℕ). i + j) f.counted g.counted ∙ sym (length-append a b);
      written =
          ap₂ (λ (u v : List ℕ). u ++ v) front (g.written ∙ ap (λ (l : List ℕ). b ++ drop n l) back ∙ ap (λ (l : List ℕ). b ++ l) (drop-drop n m output))
          ∙ sym (append_assoc a b (drop (m + n) output));
    }

pub writes_length : {a output exit : List ℕ} {m : ℕ} → WritesLines a output m exit → m ≤ length output → length exit ≡ length output
writes_length {a} {output} {exit} {m} w h = omega (arith, ap length w.written, length-append a (drop m output), length-drop m output, w.counted)

-- the same where the second list goes to the rest of the buffer
pub writes_part : {a b output exit exit' : List ℕ} {m n : ℕ} → m ≤ length output → WritesLines a output m exit → WritesLines b (mid_of m (length exit - m) exit) n exit' → length exit' ≡ length exit - m
    → WritesLines (a ++ b) output (m + n) (put_mid m (length exit - m) exit exit')
writes_part {a} {b} {output} {exit} {exit'} {m} {n} h f g e =
    let mid : mid_of m (length exit - m) exit ≡ drop m exit = take_all (length exit - m) (drop m exit) (omega (arith, length-drop m exit)) in
    let back : exit' ++ drop (length exit - m) (drop m exit) ≡ exit'
    = ap (λ (l : List ℕ). exit' ++ l) (drop_of_length-le (drop m exit) {i = length exit - m} (omega (arith, length-drop m exit))) ∙ append-nil exit' in
    subst (WritesLines (a ++ b) output (m + n)) (ap (λ (l : List ℕ). take m exit ++ l) (sym back))
    (writes_both f (subst (λ (l : List ℕ). WritesLines b l n exit') mid g))

-- ---- the marks of a part

pub zeros_part : (all at size : ℕ) → at + size ≤ all → take {A = ℕ} size (drop at (replicate all 0)) ≡ replicate size 0
zeros_part all at size h =
    let z : ℕ = 0 in
    let e : at + (size + (all - (at + size))) ≡ all = omega arith in
    let rest = replicate (all - (at + size)) z in
    ap (λ (n : ℕ). take size (drop at (replicate n z))) (sym e)
    ∙ ap (λ (l : List ℕ). take size (drop at l)) (sym (replicate-append-replicate at (size + (all - (at + size))) z))
    ∙ ap (take size) (drop_at (replicate at z) (replicate (size + (all - (at + size))) z) at (length-replicate at z))
    ∙ ap (take size) (sym (replicate-append-replicate size (all - (at + size)) z))
    ∙ take_at (replicate size z) rest size (length-replicate size z)

pub marks_part : (piece marks : List ℕ) (at size : ℕ) → (length marks ≡ 0) ⊎ (length marks ≡ length piece) → at + size ≤ length piece → size ≤ 204
    → take size (marks_front (take size (drop at marks))) ≡ take size (drop at (marks_of piece marks))
marks_part piece marks at size h l m = by (ℕ_discrete (length marks) 0)
  where
    by : Dec (length marks ≡ 0) → take size (marks_front (take size (drop at marks))) ≡ take size (drop at (marks_of piece marks))
    by (yes z) =
        let n : take size (drop at marks) ≡ [] = ap (take size) (drop_of_length-le marks {i = at} (omega arith)) ∙ take-nil size in
        ap (λ (x : List ℕ). take size (marks_front x)) n ∙ zeros_part 204 0 size (omega arith)
        ∙ sym (simp (eq-eqb (length marks) 0 z) (zeros_part (length piece) at size l))
    by (no z) =
        let e : length marks ≡ length piece = only h z in
        let n : length (take size (drop at marks)) ≡ size = length-take-le size (drop at marks) (omega (arith, length-drop at marks)) in
        take_at (take size (drop at marks)) (drop (length (take size (drop at marks))) no_marks) size n
        ∙ sym (simp (ne_eqb (length marks) 0 z) refl)
      where
        only : (length marks ≡ 0) ⊎ (length marks ≡ length piece) → (length marks ≡ 0 → ⊥) → length marks ≡ length piece
        only (inl y) f = absurd (f y)
        only (inr y) f = y

-- there are no marks, or enough of them
pub marks_enough : (piece marks : List ℕ) (at size : ℕ) → (length marks ≡ 0) ⊎ (length marks ≡ length piece) → at + size ≤ length piece
    → (length marks ≡ 0) ⊎ (at + size ≤ length marks)
marks_enough piece marks at size (inl e) h = inl e
marks_enough piece marks at size (inr e) h = inr (omega arith)

pub part_is : (l : List ℕ) (at size : ℕ) → take (at + size - at) (drop at l) ≡ take size (drop at l)
part_is l at size = let e : at + size - at ≡ size = omega arith in ap (λ (k : ℕ). take k (drop at l)) e

pub marks_count : (piece marks : List ℕ) → (length marks ≡ 0) ⊎ (length marks ≡ length piece) → length (marks_of piece marks) ≡ length piece
marks_count piece marks h = by (ℕ_discrete (length marks) 0)
  where
    by : Dec (length marks ≡ 0) → length (marks_of piece marks) ≡ length piece
    by (yes z) = simp (eq-eqb (length marks) 0 z) (length-replicate {A = ℕ} (length piece) 0)
    by (no z) = simp (ne_eqb (length marks) 0 z) (only h)
      where
        only : (length marks ≡ 0) ⊎ (length marks ≡ length piece) → length marks ≡ length piece
        only (inl y) = absurd (z y)
        only (inr y) = y

-- ---- what a piece leaves

blocks_taken : {s : Receiver} {k : Certainty} {bytes marks lines : List ℕ} {last : Receiver} {kept : Certainty} (l : Listing s k bytes marks lines last kept) → length l.calls ≡ length bytes / 204
blocks_taken {bytes = bytes} l = sym (blocks_count l.calls) ∙ ap length l.on.blocks ∙ length-chunks 204 bytes

module _ {i j : LossStream} {a ma lines : List ℕ} (p : length (bytes_held i) ≡ i.held) (t : ListsPiece i a ma lines j) where
  came_length : length (bytes_held i ++ a) ≡ i.held + length a
  came_length = length-append (bytes_held i) a ∙ ap (λ (n : ℕ). n + length a) p

  pub watched_next : Watched i.receiver i.certainty → Watched j.receiver j.certainty
  watched_next w =
      subst₂ Watched (sym t.listing.state) (sym t.listing.certainty) (watched_calls t.listing.calls i.receiver i.certainty w)

  pub held_next : j.held ≡ (i.held + length a) % 204
  held_next = t.held_is ∙ length_rest 204 (bytes_held i ++ a) ∙ ap (λ (n : ℕ). n % 204) came_length

  -- as many bytes are held as it says
  pub kept_next : length (bytes_held j) ≡ j.held
  kept_next = ap length t.bytes_kept ∙ sym t.held_is

  pub lines_room : length lines + waiting_of j.certainty ≤ waiting_of i.certainty + (i.held + length a) / 204
  lines_room =
      let n : length t.listing.calls ≡ (i.held + length a) / 204 = blocks_taken t.listing ∙ ap (λ (m : ℕ). m / 204) came_length in
      omega (arith, lines_few t.listing.calls i.receiver i.certainty, ap length t.listing.listed, ap waiting_of t.listing.certainty, n)

-- there is room for the lines of a part
part_room : (wi wj held at all count size room now part length middle : ℕ) → count + wj ≤ wi + (held + at) / 204 → wi + (held + all) / 204 ≤ room → at + size ≤ all
    → now ≡ (held + at) % 204 → part ≡ size → length ≡ room → middle ≡ length - count → count ≤ room → wj + (now + part) / 204 ≤ middle
part_room wi wj held at all count size room now part length middle a b c d e f g h =
    let k : (held + at) / 204 + (now + part) / 204 ≤ (held + all) / 204 = omega arith in
    omega arith

-- ---- the loop

pub record Progress (i : LossStream) (piece marks output₀ output : List ℕ) (j : LossStream) (at count : ℕ) : Type 0 where
  pub within : at ≤ length piece
  pub lines : List ℕ
  pub takes : ListsPiece i (take at piece) (take at (marks_of piece marks)) lines j
  pub writes : WritesLines lines output₀ count output

module _ (i : LossStream) (piece marks output₀ : List ℕ) (p : length i.pending ≡ 204) (m : length i.marks ≡ 204) (y : PieceReady i piece marks output₀) where
  held : length (bytes_held i) ≡ i.held
  held = length-take-le i.held i.pending (omega (arith, y.small))

  plain : i.held + 0 ≡ i.held
  plain = omega arith

  pub progress_start : Progress i piece marks output₀ output₀ i 0 0
  progress_start = record {
    within = omega arith;
    lines = [];
    takes =
        takes_few refl refl (sym (length-append (bytes_held i) [] ∙ ap (λ (n : ℕ). n + 0) held ∙ plain)) (sym (append-nil (bytes_held i))) (sym (append-nil (held_marks i)))
        (omega (arith, length-append (bytes_held i) [], length-take-le i.held i.pending (omega (arith, y.small)), y.small))
        (omega (arith, length-append (held_marks i) [], length-take-le i.held i.marks (omega (arith, y.small)), y.small));
    writes = writes_none output₀;
  }

  module _ {output : List ℕ} {j : LossStream} {at count : ℕ} (w : Progress i piece marks output₀ output j at count) where
    front_length : length (take at piece) ≡ at
    front_length = length-take-le at piece w.within

    kept : length (bytes_held j) ≡ j.held
    kept = kept_next held w.takes

    pub progress_room : count + waiting_of j.certainty ≤ waiting_of i.certainty + (i.held + at) / 204
    progress_room =
        let r = lines_room held w.takes in
        omega (arith, w.writes.counted, subst (λ (n : ℕ). length w.lines + waiting_of j.certainty ≤ waiting_of i.certainty + (i.held + n) / 204) front_length r)

    pub progress_count : count ≤ length output₀
    progress_count = omega (arith, progress_room, y.enough, w.within)

    pub progress_length : length output ≡ length output₀
    progress_length = writes_length w.writes progress_count

    -- the rest of the output
    room_length : length (mid_of count (length output - count) output) ≡ length output - count
    room_length = length-take-le (length output - count) (drop count output) (omega (arith, length-drop count output))

    pub progress_end : length piece ≤ at → TakesLines i piece (marks_of piece marks) output₀ count j output
    progress_end h = record {
      lines = w.lines;
      takes =
          subst₂ (λ (x z : List ℕ). ListsPiece i x z w.lines j) (take_all at piece h)
          (take_all at (marks_of piece marks) (omega (arith, marks_count piece marks y.marked))) w.takes;
      writes = w.writes;
    }

    pub progress_held : j.held ≡ (i.held + at) % 204
    progress_held = held_next held w.takes ∙ ap (λ (n : ℕ). (i.held + n) % 204) front_length

    pub progress_small : j.held < 204
    progress_small = omega (arith, progress_held)

    module _ (size : ℕ) (less : at < length piece) (s : size ≡ min (204 - j.held) (length piece - at)) where
      pub part_within : at + size ≤ length piece
      part_within = omega arith

      pub part_some : 0 < size
      part_some = omega (arith, progress_small)

      part_length : length (take size (drop at piece)) ≡ size
      part_length = length-take-le size (drop at piece) (omega (arith, part_within, length-drop at piece))

      -- the part of the piece and its marks
      module _ {part own : List ℕ} (b : part ≡ take size (drop at piece)) (o : own ≡ take size (drop at (marks_of piece marks))) where
        pub part_ready : PartReady j part own (mid_of count (length output - count) output)
        part_ready =
            let l : length part ≡ size = ap length b ∙ part_length in
            let k : length own ≡ size
            = ap length o ∙ length-take-le size (drop at (marks_of piece marks)) (omega (arith, part_within, length-drop at (marks_of piece marks), marks_count piece marks y.marked)) in
            let n = room_length in
            record {
              watched = watched_next held w.takes y.watched;
              small = progress_small;
              within = omega (arith, l, progress_small);
              marked = k ∙ sym l;
              enough = part_room (waiting_of i.certainty) (waiting_of j.certainty) i.held at (length piece) count size (length output₀) j.held (length part) (length output) (length (mid_of count (length output - count) output))
                  progress_room y.enough part_within progress_held l progress_length n progress_count;
            }

        -- how many lines there are then
        pub count_fits : {n : ℕ} {next : LossStream} {exit : List ℕ} → TakesLines j part own (mid_of count (length output - count) output) n next exit → count + n ≤ length output₀
        count_fits {n} {next} {exit} t =
            let r = lines_room kept t.takes in
            let f = part_ready in
            omega (arith, r, t.writes.counted, f.enough, progress_count, progress_length, room_length)

        pub progress_more : {n : ℕ} {next : LossStream} {exit : List ℕ} → TakesLines j part own (mid_of count (length output - count) output) n next exit
            → Progress i piece marks output₀ (put_mid count (length output - count) output exit) next (at + size) (count + n)
        progress_more {n} {next} {exit} t = record {
          within = part_within;
          lines = w.lines ++ t.lines;
          takes =
              subst₂ (λ (x z : List ℕ). ListsPiece i x z (w.lines ++ t.lines) next)
              (ap (λ (x : List ℕ). take at piece ++ x) b ∙ sym (take-add at size piece))
              (ap (λ (x : List ℕ). take at (marks_of piece marks) ++ x) o ∙ sym (take-add at size (marks_of piece marks)))
              (takes_join w.takes t.takes);
          writes = writes_part progress_count w.writes t.writes (writes_length t.writes (omega (arith, count_fits t, room_length, progress_length, progress_count)) ∙ room_length);
        }
