-- `losses::LossStream::feed` meets its contract.
-- Assumes nothing.
use mathlib.Core.Path.{◌≡◌, refl, sym, ap, ◌∙◌}
use mathlib.Core.Bool.{Bool, true}
use Prim.Native.Nat.{◌+◌, ◌/◌, ◌≤◌, ◌<◌}
use native.Mathlib.Omega.{arith}
use borrow.Author.Tests.{lt-ltb, le-ltb}
use lib.ListN.{length}
use Rattle.common.specs.Choice.{pick}
use Rattle.losses.specs.Watch.{waiting_of}
use Rattle.losses.specs.Feed.{loss_stream_in_range, marks_fit, capacity_of, refused, fed}
use Rattle.losses.proofs.Decisions.{most_seven}
use Rattle.losses.proofs.Streams.{StreamRange, stream_range, fit_count}
use Rattle.losses.proofs.LossStream.feed.Goals as goal

pub returns-then-not-in_range : goal.returns-then-not-in_range
returns-then-not-in_range c = refused (simp (sym c.in_range.ensures ∙ c.if-not-in_range.true)) (omega arith) refl refl refl

pub returns-then-not-marks_fit : goal.returns-then-not-marks_fit
returns-then-not-marks_fit c =
    let good : loss_stream_in_range c.args.self ≡ true = sym c.in_range.ensures ∙ c.if-not-in_range.false in
    refused (simp (good, sym c.marks_fit.ensures ∙ c.if-not-marks_fit.true)) (omega arith) refl refl refl

pub blocks_in-requires : goal.blocks_in-requires
blocks_in-requires c =
    let good : loss_stream_in_range c.args.self ≡ true = sym c.in_range.ensures ∙ c.if-not-in_range.false in
    let ranges : StreamRange c.args.self = stream_range c.args.self (good) in
    (ranges).small

pub overflow_add-waiting : goal.overflow_add-waiting
overflow_add-waiting c =
    let good : loss_stream_in_range c.args.self ≡ true = sym c.in_range.ensures ∙ c.if-not-in_range.false in
    let ranges : StreamRange c.args.self = stream_range c.args.self (good) in
    let few : waiting_of c.args.self.certainty ≤ 7 = omega (arith, (ranges).waiting.0, most_seven c.args.self.receiver.sync.place) in
    omega (arith, c.blocks_in.ensures, c.waiting.ensures, (ranges).small, few, c.well_formed)

pub returns-then-lines-waiting : goal.returns-then-lines-waiting
returns-then-lines-waiting c =
    let good : loss_stream_in_range c.args.self ≡ true = sym c.in_range.ensures ∙ c.if-not-in_range.false in
    let fit : marks_fit c.args.piece.now c.args.marks.now ≡ true = sym c.marks_fit.ensures ∙ c.if-not-marks_fit.false in
    let a = c.args in
    let t : length a.lines.now < waiting_of a.self.certainty + (a.self.held + length a.piece.now) / 204 = omega (arith, c.if-lines-waiting.true, c.blocks_in.ensures, c.waiting.ensures) in
    refused (simp (good, fit, lt-ltb _ _ t)) (omega arith) refl refl refl

pub returns-then-capacity-piece : goal.returns-then-capacity-piece
returns-then-capacity-piece c =
    let good : loss_stream_in_range c.args.self ≡ true = sym c.in_range.ensures ∙ c.if-not-in_range.false in
    let fit : marks_fit c.args.piece.now c.args.marks.now ≡ true = sym c.marks_fit.ensures ∙ c.if-not-marks_fit.false in
    let enough : let a = c.args in
    waiting_of a.self.certainty + (a.self.held + length a.piece.now) / 204 ≤ length a.lines.now = omega (arith, c.if-lines-waiting.false, c.blocks_in.ensures, c.waiting.ensures) in
    let capacity : c.capacity.result ≡ capacity_of c.args.self = let i = c.args.self in
    c.capacity.ensures ∙ ap (λ (t : Bool). pick t (capacity_of i) 0) (good) in
    let a = c.args in
    let t : capacity_of a.self < length a.piece.now = omega (arith, c.if-capacity-piece.true, capacity) in
    refused (simp (good, fit, le-ltb _ _ (enough), lt-ltb _ _ t)) (omega arith) refl refl refl

pub take_piece-requires : goal.take_piece-requires
take_piece-requires c =
    let good : loss_stream_in_range c.args.self ≡ true = sym c.in_range.ensures ∙ c.if-not-in_range.false in
    let ranges : StreamRange c.args.self = stream_range c.args.self (good) in
    let fit : marks_fit c.args.piece.now c.args.marks.now ≡ true = sym c.marks_fit.ensures ∙ c.if-not-marks_fit.false in
    let enough : let a = c.args in
    waiting_of a.self.certainty + (a.self.held + length a.piece.now) / 204 ≤ length a.lines.now = omega (arith, c.if-lines-waiting.false, c.blocks_in.ensures, c.waiting.ensures) in
    let a = c.args in
    let r = ranges in
    record { watched = r.watched; small = r.small; marked = fit_count a.piece.now a.marks.now (fit); enough = enough }

pub returns : goal.returns
returns c =
    let good : loss_stream_in_range c.args.self ≡ true = sym c.in_range.ensures ∙ c.if-not-in_range.false in
    let fit : marks_fit c.args.piece.now c.args.marks.now ≡ true = sym c.marks_fit.ensures ∙ c.if-not-marks_fit.false in
    let enough : let a = c.args in
    waiting_of a.self.certainty + (a.self.held + length a.piece.now) / 204 ≤ length a.lines.now = omega (arith, c.if-lines-waiting.false, c.blocks_in.ensures, c.waiting.ensures) in
    let capacity : c.capacity.result ≡ capacity_of c.args.self = let i = c.args.self in
    c.capacity.ensures ∙ ap (λ (t : Bool). pick t (capacity_of i) 0) (good) in
    let a = c.args in
    let t = c.take_piece.ensures in
    let n : length a.piece.now ≤ capacity_of a.self = omega (arith, c.if-capacity-piece.false, capacity) in
    fed (simp (good, fit, le-ltb _ _ (enough), le-ltb _ _ n)) refl t.lines t.takes t.writes
