-- The list of a whole recording: a fresh stream is fed with it, and closed.
-- Assumes nothing.
use mathlib.Core.Path.{◌≡◌, refl, sym, ap, subst, ◌∙◌}
use mathlib.Core.Bool.{Bool, true, false}
use mathlib.Core.List.{List, [], ◌++◌}
use Prim.Native.Nat.{ℕ, ◌+◌, ◌-◌, ◌*◌, ◌/◌, ◌≤◌}
use native.Mathlib.Nat.{zero-add}
use native.Mathlib.Omega.{arith}
use borrow.Author.Tests.{eq-eqb, le-ltb, ltb-false}
use borrow.Rule.Slice.PartMut.{put_mid, mid_of}
use lib.Dec.{eqb, ltb}
use lib.ListN.{length, take, drop, length-drop}
use lib.Seq.{take_at, length-take-le}
use Rattle.common.specs.Choice.{pick}
use Rattle.receiver.specs.Receive.{fresh_receiver}
use Rattle.losses.specs.Watch.{waiting_of}
use Rattle.losses.specs.Feed.{fresh_loss_stream, marks_of, marks_fit, ListsPiece, WritesLines, loss_feed_number, FeedsLosses, refused, fed, loss_close_number, end_lines, close_lines}
use Rattle.losses.specs.History.{LossesCame}
use Rattle.losses.specs.Run.{list_number, ListsRecording, listed}
use Rattle.losses.specs.Run as run
use Rattle.losses.specs.declared.LossStream.{LossStream}
use Rattle.losses.proofs.Lines.{length_doubts}
use Rattle.losses.proofs.Pieces.{writes_part, writes_length, lines_room}
use Rattle.losses.proofs.Histories.{came_none, came_range, came_feeds, came_listed}

-- the tests of a fresh stream are those of a recording
fresh_number_lem : (bytes marks output : List ℕ) → loss_feed_number fresh_loss_stream bytes marks output ≡ list_number bytes marks output
unfolding fresh_loss_stream fresh_receiver
fresh_number_lem bytes marks output =
    ap (λ (t : Bool). pick t (pick (marks_fit bytes marks) (pick (ltb (length output) (0 + (0 + length bytes) / 204)) 4 (pick (ltb (204 * 4294967295) (length bytes)) 7 0)) 20) 5) (came_range came_none)
    ∙ ap (λ (n : ℕ). pick (marks_fit bytes marks) (pick (ltb (length output) n) 4 (pick (ltb (204 * 4294967295) (length bytes)) 7 0)) 20) (omega arith)

none_short : (b c d : Bool) → ◌≡◌ {A = ℕ} (pick b (pick c 4 (pick d 7 0)) 20) 0 → c ≡ false
none_short true true d e = absurd (omega arith)
none_short true false d e = refl
none_short false c d e = absurd (omega arith)

pub run_refused : {bytes marks output exit : List ℕ} {number count : ℕ} {next : LossStream} → FeedsLosses fresh_loss_stream bytes marks output number count next exit → (number ≡ 0 → ⊥)
    → ListsRecording bytes marks output number 0 exit
run_refused {bytes} {marks} {output} (refused n p e s w) z = run.refused (n ∙ fresh_number_lem bytes marks output) p refl w
run_refused (fed f n new t w) z = absurd (z n)

-- what is left to close
pub record Left (bytes marks output : List ℕ) (count : ℕ) (next : LossStream) (exit : List ℕ) : Type 0 where
  pub lines : List ℕ
  pub came : LossesCame bytes (marks_of bytes marks) lines next
  pub writes : WritesLines lines output count exit
  pub tests : list_number bytes marks output ≡ 0
  pub room : count + waiting_of next.certainty ≤ length output

-- at most a line for each block
fresh_room : {bytes marks new : List ℕ} {next : LossStream} → ListsPiece fresh_loss_stream bytes marks new next → length new + waiting_of next.certainty ≤ length bytes / 204
unfolding fresh_loss_stream
fresh_room {bytes} t = omega (arith, lines_room refl t, zero-add (length bytes))

pub run_fed : {bytes marks output exit : List ℕ} {number count : ℕ} {next : LossStream} → FeedsLosses fresh_loss_stream bytes marks output number count next exit → number ≡ 0
    → Left bytes marks output count next exit
run_fed (refused n p e s w) z = absurd (omega arith)
run_fed {bytes} {marks} {output} {exit} {number} {count} {next} (fed f n new t w) z =
    let g = sym (fresh_number_lem bytes marks output) ∙ f in
    let l = ltb-false (length output) (length bytes / 204) (none_short (marks_fit bytes marks) (ltb (length output) (length bytes / 204)) (ltb (204 * 4294967295) (length bytes)) g) in
    let o : take count exit ≡ new = ap (take count) w.written ∙ take_at new (drop count output) count (sym w.counted) in
    let r : LossesCame bytes (marks_of bytes marks) (take count exit) next
    = subst (λ (x : Bool). LossesCame (pick x bytes []) (pick x (marks_of bytes marks) []) (take count exit) next) (eq-eqb number 0 z)
    (came_feeds came_none bytes marks output exit number count next (fed f n new t w)) in
    record {
      lines = new;
      came = subst (λ (x : List ℕ). LossesCame bytes (marks_of bytes marks) x next) o r;
      writes = w;
      tests = g;
      room = omega (arith, w.counted, fresh_room t, l);
    }

pub left_count : {bytes marks output exit : List ℕ} {count : ℕ} {next : LossStream} → Left bytes marks output count next exit → (count ≤ length exit) × (length exit ≡ length output)
left_count {output = output} {exit} {count} l = let e = writes_length l.writes (omega (arith, l.room)) in (omega (arith, l.room, e), e)

module _ {bytes marks output exit : List ℕ} {count : ℕ} {next : LossStream} (l : Left bytes marks output count next exit) where
  rest-length : length (mid_of count (length exit - count) exit) ≡ length exit - count
  rest-length = length-take-le (length exit - count) (drop count exit) (omega (arith, length-drop count exit))

  -- there is room for what is left
  pub close_number : loss_close_number next (mid_of count (length exit - count) exit) ≡ 0
  close_number =
      let e = left_count l in
      let h : waiting_of next.certainty ≤ length (mid_of count (length exit - count) exit) = omega (arith, rest-length, l.room, e.1) in
      simp (came_range l.came, le-ltb _ _ h)

  pub run_closed : {n : ℕ} {exit' : List ℕ} → WritesLines (close_lines next (mid_of count (length exit - count) exit)) (mid_of count (length exit - count) exit) n exit' → ListsRecording bytes marks output 0 (count + n) (put_mid count (length exit - count) exit exit')
  run_closed {n} {exit'} w =
      let k = left_count l in
      let v : WritesLines (end_lines next) (mid_of count (length exit - count) exit) n exit' = subst (λ (z : ℕ). WritesLines (pick (eqb z 0) (end_lines next) []) (mid_of count (length exit - count) exit) n exit') close_number w in
      let m : n ≤ length (mid_of count (length exit - count) exit) = omega (arith, v.counted, length_doubts (next.receiver.counts.taken - 11 - waiting_of next.certainty) (waiting_of next.certainty), rest-length, l.room, k.1) in
      listed l.tests refl (l.lines ++ end_lines next) (came_listed l.came)
      (writes_part (omega (arith, l.room)) l.writes v (writes_length v m ∙ rest-length))
