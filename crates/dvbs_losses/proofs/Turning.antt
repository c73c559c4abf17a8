-- One piece more, the end of the list, and how the program may stop: what the values of program_io then say.
-- Assumes nothing.
use mathlib.Core.Path.{◌≡◌, refl, sym, ap, ap₂, subst, subst₂, ◌∙◌}
use mathlib.Core.Bool.{Bool, true, false}
use mathlib.Core.List.{List, [], ◌++◌, append_assoc, append-nil}
use mathlib.Core.Logic.{◌⊎◌, inl, inr}
use Prim.Native.Nat.{ℕ, ◌+◌, ◌-◌, ◌*◌, ◌/◌, ◌≤◌, ◌<◌}
use native.Mathlib.Decide.{dec_lt}
use native.Mathlib.Omega.{arith}
use borrow.Author.Tests.{eq-eqb, ne_eqb, lt-ltb, le-ltb}
use lib.Dec.{eqb}
use lib.IntN.{ℤ, pos}
use lib.Signed.{le_z}
use lib.ListN.{length, take, drop, replicate, length-append}
use lib.Seq.{take_all, take_at, drop-append_seam, length-take-le}
use Rattle.common.specs.Choice.{pick}
use Rattle.common.specs.Lists.{padded, largest}
use Rattle.common.proofs.Largest.{largest_zeros}
use Rattle.program_io.specs.Checksum.{no_bytes, traced}
use Rattle.program_io.specs.Files.{input_origin, origin_file, input_trace, input_over, input_failed, output_file, output_trace, output_failed, Fills}
use Rattle.program_io.specs.Files as files
use Rattle.program_io.specs.declared.calls.MarkedEnded.{MarkedEnded}
use Rattle.program_io.specs.declared.input.Input.{Input}
use Rattle.program_io.specs.declared.input.Filled.{Filled}
use Rattle.program_io.specs.declared.output.Output.{Output}
use Rattle.program_io.specs.declared.trace.Trace.{Trace}
use Rattle.program_io.proofs.Traces.{traced_on}
use Rattle.losses.specs.Watch.{waiting_of}
use Rattle.losses.specs.Feed.{fresh_loss_stream, capacity_of, marks_of, marks_fit, loss_feed_number, FeedsLosses, refused, fed, WritesLines, loss_close_number, end_lines, close_lines}
use Rattle.losses.specs.History.{LossesCame}
use Rattle.losses.specs.declared.LossStream.{LossStream}
use Rattle.losses.proofs.Decisions.{most_seven}
use Rattle.losses.proofs.Streams.{stream_range}
use Rattle.losses.proofs.Histories.{largest_both, largest_behind, came_none, came_range, came_capacity, came_feeds, came_listed}
use Rattle.answer_lines.specs.Lines.{list_text}
use Rattle.answer_lines.proofs.Lists.{list_append}
use Rattle.dvbs_losses.specs.Text.{rest_text, bad_mark_text}
use Rattle.dvbs_losses.specs.Ends.{Going, BadMark, Stops, Turns, AllRead, Whole, Cut, Failed, Status, part, Ends}
use Rattle.dvbs_losses.specs.Ends as ends
use Rattle.dvbs_losses.specs.declared.Turned.{Turned}
use Rattle.dvbs_losses.proofs.Lists.{padded_both, padded_length}

-- the lines that a feeding wrote
pub fed_count : {i next : LossStream} {piece marks output exit : List ℕ} {number count : ℕ} → FeedsLosses i piece marks output number count next exit → number ≡ 0 → length exit ≡ length output → count ≤ length output
fed_count (refused n p e s w) z l = omega arith
fed_count {output = output} {exit} {count = count} (fed f n new t w) z l = omega (arith, w.counted, ap length w.written, length-append new (drop count output))

module _ (bytes piece : List ℕ) {marks : Input} {output : Output} {i : LossStream} (g : Going bytes marks output i) (some : length piece ≡ 204)
    {buffer : List ℕ} {filled : Filled} (size : length buffer ≡ length piece) (f : Fills marks buffer filled) where
  more_length : length (take filled.length buffer) ≡ filled.length
  more_length = length-take-le filled.length buffer f.within

  more_fits : length (take filled.length buffer) ≤ length piece
  more_fits = let w = f.within in omega (arith, more_length)

  -- as many marks as bytes came, or none come any more
  either : (length g.own ≡ length bytes) ⊎ (length (take filled.length buffer) ≡ 0)
  either = by g.marks_all
    where
      by : (length g.own ≡ length bytes) ⊎ (input_over marks ≡ true) → (length g.own ≡ length bytes) ⊎ (length (take filled.length buffer) ≡ 0)
      by (inl e) = inl e
      by (inr o) = inr (more_length ∙ (f.over o).0)

  own_more : padded (length bytes) g.own ++ padded (length piece) (take filled.length buffer) ≡ padded (length (bytes ++ piece)) (g.own ++ take filled.length buffer)
  own_more =
      padded_both g.own (take filled.length buffer) (length bytes) (length piece) g.marks_fit_lem more_fits either
      ∙ ap (λ (n : ℕ). padded n (g.own ++ take filled.length buffer)) (sym (length-append bytes piece))

  marks_more : input_trace filled.input ≡ traced no_bytes (g.own ++ take filled.length buffer)
  marks_more = traced_on g.own (take filled.length buffer) g.marks_read f.trace

  all_more : (length (g.own ++ take filled.length buffer) ≡ length (bytes ++ piece)) ⊎ (input_over filled.input ≡ true)
  all_more = by g.marks_all (dec_lt filled.length (length buffer))
    where
      by : (length g.own ≡ length bytes) ⊎ (input_over marks ≡ true) → Dec (filled.length < length buffer)
          → (length (g.own ++ take filled.length buffer) ≡ length (bytes ++ piece)) ⊎ (input_over filled.input ≡ true)
      by (inr o) d = inr (ap (λ (x : ℤ). le_z x (pos 0)) (f.over o).1 ∙ o)
      by (inl e) (yes d) = inr (f.short d)
      by (inl e) (no d) = inl (omega (arith, length-append g.own (take filled.length buffer), length-append bytes piece, more_length, f.within))

  module _ {marked lines exit : List ℕ} {number count : ℕ} {next : LossStream} (e : marked ≡ padded 204 (take filled.length buffer)) (d : FeedsLosses i piece marked lines number count next exit) where
    m : marked ≡ padded (length piece) (take filled.length buffer)
    m = e ∙ ap (λ (n : ℕ). padded n (take filled.length buffer)) (sym some)

    marked_length : length marked ≡ length piece
    marked_length = ap length m ∙ padded_length (length piece) (take filled.length buffer) more_fits

    marks_kept : marks_of piece marked ≡ marked
    marks_kept = ap (λ (t : Bool). pick t (replicate (length piece) 0) marked) (ne_eqb (length marked) 0 (λ e. omega (arith, marked_length, some)))

    -- the lines were written
    pub going_on : number ≡ 0 → {written : Output} → files.Writes output (list_text (take count exit)) written → output_failed written ≡ false → Going (bytes ++ piece) filled.input written next
    going_on z {written} w u =
        let t = eq-eqb number 0 z in
        let c = came_feeds g.came piece marked lines exit number count next d in
        let b : LossesCame (bytes ++ piece) (padded (length (bytes ++ piece)) (g.own ++ take filled.length buffer)) (g.lines ++ take count exit) next
        = subst (λ (y : List ℕ). LossesCame (bytes ++ piece) y (g.lines ++ take count exit) next) own_more
        (subst₂ (λ (x y : List ℕ). LossesCame (bytes ++ x) (padded (length bytes) g.own ++ y) (g.lines ++ take count exit) next) (ap (λ (b : Bool). pick b piece []) t)
        (ap (λ (b : Bool). pick b (marks_of piece marked) []) t ∙ marks_kept ∙ m) c) in
        record {
          own = g.own ++ take filled.length buffer;
          lines = g.lines ++ take count exit;
          came = b;
          marks_read = marks_more;
          marks_fit_lem = omega (arith, length-append g.own (take filled.length buffer), length-append bytes piece, g.marks_fit_lem, more_fits);
          marks_all = all_more;
          written = traced_on (list_text g.lines) (list_text (take count exit)) g.written (w.whole u) ∙ ap (traced no_bytes) (sym (list_append g.lines (take count exit)));
        }

    -- a piece is refused for a mark that is none
    pub mark_bad : length lines ≡ 8 → length piece ≤ capacity_of i → (number ≡ 0 → ⊥) → BadMark filled.input
    mark_bad n k z = by (dec_lt (largest (g.own ++ take filled.length buffer)) 2)
      where
        by : Dec (largest (g.own ++ take filled.length buffer) < 2) → BadMark filled.input
        by (no h) = record { own = g.own ++ take filled.length buffer; read = marks_more; bad = omega arith }
        by (yes h) = absurd (z (accepted d))
          where
            few : largest (take filled.length buffer) < 2
            few = subst (λ (x : List ℕ). largest x < 2) (drop-append_seam g.own (take filled.length buffer)) (largest_behind (length g.own) (g.own ++ take filled.length buffer) h)

            small : largest marked < 2
            small = subst (λ (x : List ℕ). largest x < 2) (sym m) (largest_both (take filled.length buffer) (replicate (length piece - length (take filled.length buffer)) 0) few (omega (arith, largest_zeros (length piece - length (take filled.length buffer)))))

            fits : marks_fit piece marked ≡ true
            fits = simp (ne_eqb (length marked) 0 (λ e. omega (arith, marked_length, some)), eq-eqb (length marked) (length piece) marked_length, lt-ltb (largest marked) 2 small)

            room : waiting_of i.certainty + (i.held + length piece) / 204 ≤ length lines
            room = let r = stream_range i (came_range g.came) in omega (arith, r.waiting.0, r.small, some, most_seven i.receiver.sync.place)

            none : loss_feed_number i piece marked lines ≡ 0
            none = simp (came_range g.came, fits, le-ltb _ _ room, le-ltb _ _ k)

            accepted : FeedsLosses i piece marked lines number count next exit → number ≡ 0
            accepted (refused e p c s w) = e ∙ none
            accepted (fed e p new t w) = p

-- ---- the end

pub close_count : (i : LossStream) {lines exit : List ℕ} {count : ℕ} → WritesLines (close_lines i lines) lines count exit → length exit ≡ length lines → count ≤ length lines
close_count i {lines} {exit} {count} w l = omega (arith, w.counted, ap length w.written, length-append (close_lines i lines) (drop count lines))

pub cut_of : {bytes : List ℕ} {marks : Input} {output : Output} {i : LossStream} → Going bytes marks output i → Cut output
cut_of g = record { lines = g.lines; written = g.written }

pub finished : {input marks : Input} {output : Output} {i : LossStream} {rest : ℕ} (a : AllRead input marks output i rest) → input_failed input ≡ false → input_failed marks ≡ false
    → {lines exit text : List ℕ} {count : ℕ} → WritesLines (close_lines i lines) lines count exit → length lines ≡ 8 → text ≡ list_text (take count exit) ++ rest_text rest
    → {written last : Output} → files.Writes output text written → files.Closes written last → output_failed last ≡ false
    → {errors : Output} → output_trace errors ≡ no_bytes → (status : ℤ) → Whole (record { status = status; input = input; marks = marks; output = last; errors = errors })
finished {input} {marks} {output} {i} {rest} a u unfailed {lines} {exit} {text} {count} w n e {written} {last} f h v q status =
    let g = a.going in
    let range = came_range g.came in
    let room : waiting_of i.certainty ≤ length lines = let r = stream_range i range in omega (arith, r.waiting.0, most_seven i.receiver.sync.place) in
    let z : loss_close_number i lines ≡ 0 = simp (range, le-ltb _ _ room) in
    let k : WritesLines (end_lines i) lines count exit = subst (λ (x : ℕ). WritesLines (pick (eqb x 0) (end_lines i) []) lines count exit) z w in
    let t : take count exit ≡ end_lines i = ap (take count) k.written ∙ take_at (end_lines i) (drop count lines) count (sym k.counted) in
    let x : text ≡ list_text (end_lines i) ++ rest_text rest = e ∙ ap (λ (l : List ℕ). list_text l ++ rest_text rest) t in
    record {
      bytes = a.bytes;
      after_it = a.after_it;
      own = g.own;
      lines = g.lines ++ end_lines i;
      whole = a.whole;
      few = omega (arith, a.few, a.rest_is);
      listed = came_listed g.came;
      read = a.read;
      ended = a.ended u;
      marks_read = g.marks_read;
      marks_all = g.marks_all;
      marks_unfailed = unfailed;
      written =
          h.trace
          ∙ traced_on (list_text g.lines) (list_text (end_lines i) ++ rest_text rest) g.written (f.whole (h.started v) ∙ ap (traced (output_trace output)) x)
          ∙ ap (traced no_bytes) (sym (append_assoc (list_text g.lines) (list_text (end_lines i)) (rest_text rest))
          ∙ ap₂ (λ (l : List ℕ) (r : ℕ). l ++ rest_text r) (sym (list_append g.lines (end_lines i))) (sym a.rest_is));
      unfailed = v;
      closed = h.closed v;
      untold = q;
    }

-- ---- the loop

pub record Running (start : Input) (input own : Input) (output errors : Output) (i : LossStream) (blocks : ℕ) : Type 0 where
  pub bytes : List ℕ
  pub going : Going bytes own output i
  pub counted : length bytes ≡ 204 * blocks
  pub most : blocks ≤ 4294967295
  pub read : input_trace input ≡ traced no_bytes bytes
  pub over : input_over input ≡ false
  pub input_is : origin_file (input_origin input) ≡ pos 0
  pub marks_are : input_origin own ≡ input_origin start
  pub output_is : output_file output ≡ pos 1
  pub untold : files.FreshOutput (pos 2) errors

pub running_none : {start input : Input} {output errors : Output} → input_trace start ≡ no_bytes → files.StandardInput input → files.FreshOutput (pos 1) output → files.FreshOutput (pos 2) errors
    → Running start input start output errors fresh_loss_stream 0
running_none t s f e = record {
  bytes = [];
  going = record { own = []; lines = []; came = came_none; marks_read = t; marks_fit_lem = omega arith; marks_all = inl refl; written = f.trace };
  counted = refl;
  most = omega arith;
  read = s.trace;
  over = s.going;
  input_is = s.file;
  marks_are = refl;
  output_is = f.file;
  untold = e;
}

module _ {start input own : Input} {output errors : Output} {i : LossStream} {blocks : ℕ} (r : Running start input own output errors i blocks) where
  pub running_capacity : blocks < 4294967295 → 204 ≤ capacity_of i
  running_capacity h = omega (arith, came_capacity r.going.came, r.counted)

  -- no block more was read
  pub running_rest : {buffer : List ℕ} {filled : Filled} → Fills input buffer filled → length buffer ≡ 204 → filled.length < 204 → AllRead filled.input own output i filled.length × (output_trace errors ≡ no_bytes)
  running_rest {buffer} {filled} f n h = (
    record {
      bytes = r.bytes;
      after_it = take filled.length buffer;
      going = r.going;
      read = traced_on r.bytes (take filled.length buffer) r.read f.trace;
      rest_is = length-take-le filled.length buffer f.within;
      few = h;
      whole = omega (arith, r.counted);
      ended = λ e. inl (ap (λ (t : Bool). pick t false (input_over filled.input)) e ∙ f.short (omega (arith, n, h)));
    },
    r.untold.trace,
  )

  pub running_full : 4294967295 ≤ blocks → AllRead input own output i 0 × (output_trace errors ≡ no_bytes)
  running_full h = (
    record {
      bytes = r.bytes;
      after_it = [];
      going = r.going;
      read = r.read ∙ ap (traced no_bytes) (sym (append-nil r.bytes));
      rest_is = refl;
      few = omega arith;
      whole = omega (arith, r.counted);
      ended = λ e. inr (omega (arith, r.counted, r.most, h));
    },
    r.untold.trace,
  )

  module _ {buffer block : List ℕ} {filled : Filled} (f : Fills input buffer filled) (b : block ≡ buffer) (n : length buffer ≡ 204) (full : 204 ≤ filled.length) {t : Turned} (w : Turns own output errors i block t) where
    came : take filled.length buffer ≡ block
    came = take_all filled.length buffer (omega (arith, n, full)) ∙ sym b

    pub running_more : blocks < 4294967295 → t.failed ≡ false → Running start filled.input t.marks t.output t.errors t.stream (blocks + 1)
    running_more h e = record {
      bytes = r.bytes ++ block;
      going = w.goes r.bytes r.going e;
      counted = length-append r.bytes block ∙ omega (arith, r.counted, ap length b, n);
      most = omega arith;
      read = traced_on r.bytes block r.read (f.trace ∙ ap (traced (input_trace input)) came);
      over = f.full r.over (omega (arith, n, full, f.within));
      input_is = ap origin_file f.origin ∙ r.input_is;
      marks_are = w.marks_are ∙ r.marks_are;
      output_is = w.output_is ∙ r.output_is;
      untold = subst (files.FreshOutput (pos 2)) (sym (w.untold e)) r.untold;
    }

    pub running_stops : t.failed ≡ true → (e : MarkedEnded) → e.status ≡ pos 1 → e.input ≡ filled.input → e.marks ≡ t.marks → e.output ≡ t.output → e.errors ≡ t.errors → Ends start e
    running_stops h e s a m o p = record {
      input_is = ap (λ (x : Input). origin_file (input_origin x)) a ∙ ap origin_file f.origin ∙ r.input_is;
      marks_are = ap input_origin m ∙ w.marks_are ∙ r.marks_are;
      output_is = ap output_file o ∙ w.output_is ∙ r.output_is;
      errors_are = ap output_file p ∙ w.errors_are ∙ r.untold.file;
      status = part s (by (w.stops r.bytes r.going h));
    }
      where
        cut : t.output ≡ output → Cut e.output
        cut q = subst Cut (sym (o ∙ q)) (cut_of r.going)

        nothing : t.errors ≡ errors → output_trace e.errors ≡ no_bytes
        nothing u = ap output_trace (p ∙ u) ∙ r.untold.trace

        by : Stops output errors t.marks t.output t.errors → Failed e
        by (ends.marks_failed g q u) = ends.marks_failed (ap input_failed m ∙ g) (cut q) (nothing u)
        by (ends.output_failed_lem g u) = ends.output_failed_lem (ap output_failed o ∙ g) (nothing u)
        by (ends.mark_refused g q v) =
            ends.mark_refused (subst BadMark (sym m) g) (cut q)
            (λ u. ap output_trace p ∙ v.whole (sym (ap output_failed p) ∙ u) ∙ ap (λ (x : Trace). traced x bad_mark_text) r.untold.trace)

pub ends_finished : {start input own : Input} {output errors : Output} {i : LossStream} {blocks : ℕ} (r : Running start input own output errors i blocks) (before : Input) → input_origin before ≡ input_origin input → (e : MarkedEnded)
    → Status e × (input_origin e.input ≡ input_origin before) × (input_origin e.marks ≡ input_origin own) × (output_file e.output ≡ output_file output) × (output_file e.errors ≡ output_file errors) → Ends start e
ends_finished r before q e f = record {
  input_is = ap origin_file (f.1 ∙ q) ∙ r.input_is;
  marks_are = f.2 ∙ r.marks_are;
  output_is = f.3 ∙ r.output_is;
  errors_are = f.4 ∙ r.untold.file;
  status = f.0;
}
