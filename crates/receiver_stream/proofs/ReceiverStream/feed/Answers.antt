-- `receiver_stream::ReceiverStream::feed` meets its contract.
-- Assumes nothing.
use mathlib.Core.Path.{◌≡◌, refl, sym, ap, ◌∙◌}
use mathlib.Core.Bool.{Bool, true}
use Prim.Native.Nat.{◌+◌, ◌*◌, ◌/◌, ◌≤◌, ◌<◌}
use native.Mathlib.Omega.{arith}
use borrow.Author.Tests.{eqb-true, lt-ltb, le-ltb}
use lib.Dec.{eqb, ltb}
use lib.ListN.{length}
use Rattle.common.specs.Choice.{pick}
use Rattle.common.specs.Lists.{largest}
use Rattle.common.proofs.Choice.{both_true}
use Rattle.recording.specs.Recording.{marks_for}
use Rattle.receiver_stream.proofs.Pieces.{stream_range}
use Rattle.receiver_stream.specs.Feed.{receiver_stream_in_range, capacity_of, refused, fed}
use Rattle.receiver_stream.proofs.ReceiverStream.feed.Goals as goal

pub returns-then-not-in_range : goal.returns-then-not-in_range
returns-then-not-in_range c = refused (simp (sym c.in_range.ensures ∙ c.if-not-in_range.true)) (omega arith) refl refl refl

pub returns-then-not-are_marks_for : goal.returns-then-not-are_marks_for
returns-then-not-are_marks_for c =
    let good : receiver_stream_in_range c.args.self ≡ true = sym c.in_range.ensures ∙ c.if-not-in_range.false in
    refused (simp (good, sym c.are_marks_for.ensures ∙ c.if-not-are_marks_for.true)) (omega arith) refl refl refl

pub whole_blocks-requires : goal.whole_blocks-requires
whole_blocks-requires c =
    let good : receiver_stream_in_range c.args.self ≡ true = sym c.in_range.ensures ∙ c.if-not-in_range.false in
    let few : c.args.self.held < 204 = (stream_range c.args.self (good)).1 in
    few

pub overflow_mul-whole_blocks : goal.overflow_mul-whole_blocks
overflow_mul-whole_blocks c =
    let good : receiver_stream_in_range c.args.self ≡ true = sym c.in_range.ensures ∙ c.if-not-in_range.false in
    let few : c.args.self.held < 204 = (stream_range c.args.self (good)).1 in
    omega (arith, c.whole_blocks.ensures, few)

pub returns-then-output-whole_blocks : goal.returns-then-output-whole_blocks
returns-then-output-whole_blocks c =
    let good : receiver_stream_in_range c.args.self ≡ true = sym c.in_range.ensures ∙ c.if-not-in_range.false in
    let marked : let a = c.args in marks_for a.piece.now a.marks.now ≡ true = sym c.are_marks_for.ensures ∙ c.if-not-are_marks_for.false in
    let t : length c.args.output.now < 188 * ((c.args.self.held + length c.args.piece.now) / 204) = omega (arith, c.if-output-whole_blocks.true, c.whole_blocks.ensures) in
    refused (simp (good, marked, lt-ltb _ _ t)) (omega arith) refl refl refl

pub returns-then-capacity-piece : goal.returns-then-capacity-piece
returns-then-capacity-piece c =
    let good : receiver_stream_in_range c.args.self ≡ true = sym c.in_range.ensures ∙ c.if-not-in_range.false in
    let marked : let a = c.args in marks_for a.piece.now a.marks.now ≡ true = sym c.are_marks_for.ensures ∙ c.if-not-are_marks_for.false in
    let enough : let a = c.args in
    188 * ((a.self.held + length a.piece.now) / 204) ≤ length a.output.now = omega (arith, c.if-output-whole_blocks.false, c.whole_blocks.ensures) in
    let capacity : c.capacity.result ≡ capacity_of c.args.self = let i = c.args.self in
    c.capacity.ensures ∙ ap (λ (t : Bool). pick t (capacity_of i) 0) (good) in
    let a = c.args in
    let t : capacity_of a.self < length a.piece.now = omega (arith, c.if-capacity-piece.true, capacity) in
    refused (simp (good, marked, le-ltb _ _ (enough), lt-ltb _ _ t)) (omega arith) refl refl refl

pub take_piece-requires : goal.take_piece-requires
take_piece-requires c =
    let good : receiver_stream_in_range c.args.self ≡ true = sym c.in_range.ensures ∙ c.if-not-in_range.false in
    let few : c.args.self.held < 204 = (stream_range c.args.self (good)).1 in
    let marked : let a = c.args in marks_for a.piece.now a.marks.now ≡ true = sym c.are_marks_for.ensures ∙ c.if-not-are_marks_for.false in
    let enough : let a = c.args in
    188 * ((a.self.held + length a.piece.now) / 204) ≤ length a.output.now = omega (arith, c.if-output-whole_blocks.false, c.whole_blocks.ensures) in
    let a = c.args in
    let p = both_true (eqb (length a.marks.now) (length a.piece.now)) (ltb (largest a.marks.now) 2) (marked) in
    (few, eqb-true (length a.marks.now) (length a.piece.now) p.0, enough)

pub returns : goal.returns
returns c =
    let good : receiver_stream_in_range c.args.self ≡ true = sym c.in_range.ensures ∙ c.if-not-in_range.false in
    let marked : let a = c.args in marks_for a.piece.now a.marks.now ≡ true = sym c.are_marks_for.ensures ∙ c.if-not-are_marks_for.false in
    let enough : let a = c.args in
    188 * ((a.self.held + length a.piece.now) / 204) ≤ length a.output.now = omega (arith, c.if-output-whole_blocks.false, c.whole_blocks.ensures) in
    let capacity : c.capacity.result ≡ capacity_of c.args.self = let i = c.args.self in
    c.capacity.ensures ∙ ap (λ (t : Bool). pick t (capacity_of i) 0) (good) in
    let a = c.args in
    let t : length a.piece.now ≤ capacity_of a.self = omega (arith, c.if-capacity-piece.false, capacity) in
    fed (simp (good, marked, le-ltb _ _ (enough), le-ltb _ _ t)) refl c.take_piece.ensures
