-- `receiver_stream::take_blocks` meets its contract.
-- Assumes nothing.
use mathlib.Core.Path.{◌≡◌, refl, sym, ap, ◌∙◌}
use mathlib.Core.Logic.{inr}
use Prim.Native.Nat.{ℕ, ◌-◌, ◌%◌}
use native.Mathlib.Omega.{arith}
use borrow.Rule.Slice.PartMut.{same_len_mid}
use lib.ListN.{length, drop, length-drop}
use lib.Seq.{length-take-le}
use Rattle.receiver_stream.proofs.Pieces.{start_within, piece_filler, marks_filler, first_within, rest_fits, count_within, take_pieces}
use borrow.Author.Rules.{rules}
use Rattle.receiver_stream.proofs.take_blocks.Goals as goal

pub slice_bounds-finish_block-end : goal.slice_bounds-finish_block-end
slice_bounds-finish_block-end c =
    let size : length c.args.stream.pending ≡ 204 = search rules in
    let sizes : length c.args.stream.marks ≡ 204 = search rules in
    let m = c.missing-start in
    sym (piece_filler c.args.stream (size) (sizes) c.requires.0 c.args.piece.now c.args.marks.now c.args.output.now c.requires.1 c.requires.2 c.requires.3 m.result m.ensures)

pub slice_bounds-finish_block-end-2 : goal.slice_bounds-finish_block-end-2
slice_bounds-finish_block-end-2 c =
    let size : length c.args.stream.pending ≡ 204 = search rules in
    let sizes : length c.args.stream.marks ≡ 204 = search rules in
    let m = c.missing-start in
    sym (marks_filler c.args.stream (size) (sizes) c.requires.0 c.args.piece.now c.args.marks.now c.args.output.now c.requires.1 c.requires.2 c.requires.3 m.result m.ensures)

pub finish_block-first-requires : goal.finish_block-first-requires
finish_block-first-requires c =
    let size : length c.args.stream.pending ≡ 204 = search rules in
    let sizes : length c.args.stream.marks ≡ 204 = search rules in
    let m = c.missing-start in
    let l = piece_filler c.args.stream (size) (sizes) c.requires.0 c.args.piece.now c.args.marks.now c.args.output.now c.requires.1 c.requires.2 c.requires.3 m.result m.ensures in
    let k = marks_filler c.args.stream (size) (sizes) c.requires.0 c.args.piece.now c.args.marks.now c.args.output.now c.requires.1 c.requires.2 c.requires.3 m.result m.ensures in
    (c.requires.0, l ∙ m.ensures, k ∙ sym l, omega (arith, l, m.ensures, c.requires.0, c.requires.1, c.requires.3))

pub slice_bounds-receive_marked_blocks-count-3 : goal.slice_bounds-receive_marked_blocks-count-3
slice_bounds-receive_marked_blocks-count-3 c =
    let size : length c.args.stream.pending ≡ 204 = search rules in
    let sizes : length c.args.stream.marks ≡ 204 = search rules in
    let m = c.missing-start in
    first_within c.args.stream (size) (sizes) c.requires.0 c.args.piece.now c.args.marks.now c.args.output.now c.requires.1 c.requires.2 c.requires.3 m.result m.ensures c.finish_block-first.ensures

pub slice_bounds-receive_marked_blocks-start-3 : goal.slice_bounds-receive_marked_blocks-start-3
slice_bounds-receive_marked_blocks-start-3 c =
    let size : length c.args.stream.pending ≡ 204 = search rules in
    let sizes : length c.args.stream.marks ≡ 204 = search rules in
    let m = c.missing-start in
    first_within c.args.stream (size) (sizes) c.requires.0 c.args.piece.now c.args.marks.now c.args.output.now c.requires.1 c.requires.2 c.requires.3 m.result m.ensures c.finish_block-first.ensures

pub receive_marked_blocks-batch-requires : goal.receive_marked_blocks-batch-requires
receive_marked_blocks-batch-requires c =
    let size : length c.args.stream.pending ≡ 204 = search rules in
    let sizes : length c.args.stream.marks ≡ 204 = search rules in
    let m = c.missing-start in
    let a = c.args.piece.now in
    let b = c.args.marks.now in
    let w = start_within c.args.stream (size) (sizes) c.requires.0 c.args.piece.now c.args.marks.now c.args.output.now c.requires.1 c.requires.2 c.requires.3 m.result m.ensures in
    let x = length-take-le (length a - m.result) (drop m.result a) (omega (arith, length-drop m.result a)) in
    let y = length-take-le (length b - m.result) (drop m.result b) (omega (arith, length-drop m.result b)) in
    (rest_fits c.args.stream (size) (sizes) c.requires.0 c.args.piece.now c.args.marks.now c.args.output.now c.requires.1 c.requires.2 c.requires.3 m.result m.ensures c.finish_block-first.ensures, inr (y ∙ ap (λ (n : ℕ). n - m.result) c.requires.2 ∙ sym x))

pub overflow_add-count : goal.overflow_add-count
overflow_add-count c =
    let size : length c.args.stream.pending ≡ 204 = search rules in
    let sizes : length c.args.stream.marks ≡ 204 = search rules in
    let m = c.missing-start in
    let w = count_within c.args.stream (size) (sizes) c.requires.0 c.args.piece.now c.args.marks.now c.args.output.now c.requires.1 c.requires.2 c.requires.3 m.result m.ensures c.finish_block-first.ensures c.receive_marked_blocks-batch.ensures in
    omega (arith, w, c.well_formed)

pub overflow_sub-rest : goal.overflow_sub-rest
overflow_sub-rest c =
    let size : length c.args.stream.pending ≡ 204 = search rules in
    let sizes : length c.args.stream.marks ≡ 204 = search rules in
    let m = c.missing-start in
    start_within c.args.stream (size) (sizes) c.requires.0 c.args.piece.now c.args.marks.now c.args.output.now c.requires.1 c.requires.2 c.requires.3 m.result m.ensures

pub slice_bounds-joined-count-2 : goal.slice_bounds-joined-count-2
slice_bounds-joined-count-2 c =
    omega (arith, c.requires.2)

pub slice_bounds-joined-start-2 : goal.slice_bounds-joined-start-2
slice_bounds-joined-start-2 c =
    omega (arith, c.requires.2)

pub joined-marks-requires : goal.joined-marks-requires
joined-marks-requires c =
    let m = c.missing-start.result in
    let a = c.args.piece.now in
    let b = c.args.marks.now in
    let end = length a - (length a - m) % 204 in
    let x = length-take-le (length b - end) (drop end b) (omega (arith, length-drop end b)) in
    omega (arith, x, c.requires.2)

pub shape_of-output : goal.shape_of-output
shape_of-output c =
    let f = c.finish_block-first in
    let g = c.receive_marked_blocks-batch in
    same_len_mid f.result.count (length f.new.output - f.result.count) f.new.output g.new.output g.auto.output ∙ f.auto.output

pub returns : goal.returns
returns c =
    let size : length c.args.stream.pending ≡ 204 = search rules in
    let sizes : length c.args.stream.marks ≡ 204 = search rules in
    let m = c.missing-start in
    take_pieces c.args.stream (size) (sizes) c.requires.0 c.args.piece.now c.args.marks.now c.args.output.now c.requires.1 c.requires.2 c.requires.3 m.result m.ensures c.finish_block-first.ensures c.receive_marked_blocks-batch.ensures c.joined-pending.result c.joined-marks.result _ _ refl refl c.joined-pending.ensures c.joined-marks.ensures
