-- `losses::take_piece` meets its contract.
-- Assumes nothing.
use mathlib.Core.Path.{◌≡◌, sym, ap, ◌∙◌}
use Prim.Native.Nat.{◌≤◌}
use native.Mathlib.Omega.{arith}
use lib.ListN.{length, take}
use lib.Seq.{length-take-le}
use Rattle.losses.proofs.Pieces.{progress_start, progress_count, progress_length, progress_end, progress_small, part_within, part_some, part_ready, progress_more, marks_part, marks_enough, part_is, count_fits}
use borrow.Author.Rules.{rules}
use Rattle.losses.proofs.take_piece.Goals as goal

pub loop-at-init : goal.loop-at-init
loop-at-init c =
    let size : length c.args.stream.pending ≡ 204 = search rules in
    let many : length c.args.stream.marks ≡ 204 = search rules in
    progress_start c.args.stream c.args.piece.now c.args.marks.now c.args.lines.now (size) (many) c.requires

pub overflow_sub-piece : goal.overflow_sub-piece
overflow_sub-piece c = c.loop-at.invariant.within

pub part_length-size-requires : goal.part_length-size-requires
part_length-size-requires c =
    let size : length c.args.stream.pending ≡ 204 = search rules in
    let many : length c.args.stream.marks ≡ 204 = search rules in
    let l = c.loop-at in
    let i = c.args.stream in
    let h = c.loop-at-test.true in
    omega (arith, progress_small i c.args.piece.now c.args.marks.now c.args.lines.now (size) (many) c.requires l.invariant)

pub overflow_add-end : goal.overflow_add-end
overflow_add-end c =
    let size : length c.args.stream.pending ≡ 204 = search rules in
    let many : length c.args.stream.marks ≡ 204 = search rules in
    let l = c.loop-at in
    let i = c.args.stream in
    let h = c.loop-at-test.true in
    omega (arith, part_within i c.args.piece.now c.args.marks.now c.args.lines.now (size) (many) c.requires l.invariant c.part_length-size.result h c.part_length-size.ensures)

pub marks_at-own-requires : goal.marks_at-own-requires
marks_at-own-requires c =
    let size : length c.args.stream.pending ≡ 204 = search rules in
    let many : length c.args.stream.marks ≡ 204 = search rules in
    let l = c.loop-at in
    let i = c.args.stream in
    let h = c.loop-at-test.true in
    (omega (arith, c.part_length-size.ensures), marks_enough c.args.piece.now c.args.marks.now l.at c.part_length-size.result c.requires.marked (part_within i c.args.piece.now c.args.marks.now c.args.lines.now (size) (many) c.requires l.invariant c.part_length-size.result h c.part_length-size.ensures))

pub slice_bounds-take_part-end : goal.slice_bounds-take_part-end
slice_bounds-take_part-end c =
    let size : length c.args.stream.pending ≡ 204 = search rules in
    let many : length c.args.stream.marks ≡ 204 = search rules in
    let l = c.loop-at in
    let i = c.args.stream in
    let h = c.loop-at-test.true in
    omega (arith, part_within i c.args.piece.now c.args.marks.now c.args.lines.now (size) (many) c.requires l.invariant c.part_length-size.result h c.part_length-size.ensures)

pub slice_bounds-own-end : goal.slice_bounds-own-end
slice_bounds-own-end c = omega (arith, c.part_length-size.ensures)

pub slice_bounds-take_part-end-in-loop-at : goal.slice_bounds-take_part-end-in-loop-at
slice_bounds-take_part-end-in-loop-at c =
    let m : length c.marks_at-own.result ≡ 204 = search rules in
    sym (length-take-le c.part_length-size.result c.marks_at-own.result (omega (arith, m, c.part_length-size.ensures)))

pub offset_bounds-lines-count : goal.offset_bounds-lines-count
offset_bounds-lines-count c =
    let size : length c.args.stream.pending ≡ 204 = search rules in
    let many : length c.args.stream.marks ≡ 204 = search rules in
    let l = c.loop-at in
    let i = c.args.stream in
    let h : l.count ≤ length l.lines = omega (arith, progress_count i c.args.piece.now c.args.marks.now c.args.lines.now (size) (many) c.requires l.invariant, progress_length i c.args.piece.now c.args.marks.now c.args.lines.now (size) (many) c.requires l.invariant) in
    omega (arith, h, c.well_formed, progress_length i c.args.piece.now c.args.marks.now c.args.lines.now (size) (many) c.requires l.invariant)

pub slice_bounds-take_part-count-in-loop-at : goal.slice_bounds-take_part-count-in-loop-at
slice_bounds-take_part-count-in-loop-at c =
    let size : length c.args.stream.pending ≡ 204 = search rules in
    let many : length c.args.stream.marks ≡ 204 = search rules in
    let l = c.loop-at in
    let i = c.args.stream in
    omega (arith, progress_count i c.args.piece.now c.args.marks.now c.args.lines.now (size) (many) c.requires l.invariant, progress_length i c.args.piece.now c.args.marks.now c.args.lines.now (size) (many) c.requires l.invariant)

pub slice_bounds-take_part-start-in-loop-at : goal.slice_bounds-take_part-start-in-loop-at
slice_bounds-take_part-start-in-loop-at c =
    let size : length c.args.stream.pending ≡ 204 = search rules in
    let many : length c.args.stream.marks ≡ 204 = search rules in
    let l = c.loop-at in
    let i = c.args.stream in
    omega (arith, progress_count i c.args.piece.now c.args.marks.now c.args.lines.now (size) (many) c.requires l.invariant, progress_length i c.args.piece.now c.args.marks.now c.args.lines.now (size) (many) c.requires l.invariant)

pub take_part-taken-requires : goal.take_part-taken-requires
take_part-taken-requires c =
    let size : length c.args.stream.pending ≡ 204 = search rules in
    let many : length c.args.stream.marks ≡ 204 = search rules in
    let l = c.loop-at in
    let i = c.args.stream in
    let h = c.loop-at-test.true in
    part_ready i c.args.piece.now c.args.marks.now c.args.lines.now (size) (many) c.requires l.invariant c.part_length-size.result h c.part_length-size.ensures (part_is c.args.piece.now l.at c.part_length-size.result) (ap (take c.part_length-size.result) c.marks_at-own.ensures ∙ marks_part c.args.piece.now c.args.marks.now l.at c.part_length-size.result c.requires.marked (part_within i c.args.piece.now c.args.marks.now c.args.lines.now (size) (many) c.requires l.invariant c.part_length-size.result h c.part_length-size.ensures) (omega (arith, c.part_length-size.ensures)))

pub overflow_add-count : goal.overflow_add-count
overflow_add-count c =
    let size : length c.args.stream.pending ≡ 204 = search rules in
    let many : length c.args.stream.marks ≡ 204 = search rules in
    let l = c.loop-at in
    let i = c.args.stream in
    let h = c.loop-at-test.true in
    let t = c.take_part-taken in
    let f = count_fits i c.args.piece.now c.args.marks.now c.args.lines.now (size) (many) c.requires l.invariant c.part_length-size.result h c.part_length-size.ensures (part_is c.args.piece.now l.at c.part_length-size.result) (ap (take c.part_length-size.result) c.marks_at-own.ensures ∙ marks_part c.args.piece.now c.args.marks.now l.at c.part_length-size.result c.requires.marked (part_within i c.args.piece.now c.args.marks.now c.args.lines.now (size) (many) c.requires l.invariant c.part_length-size.result h c.part_length-size.ensures) (omega (arith, c.part_length-size.ensures))) t.ensures in
    omega (arith, f, c.well_formed)

pub loop-at-smaller : goal.loop-at-smaller
loop-at-smaller c =
    let size : length c.args.stream.pending ≡ 204 = search rules in
    let many : length c.args.stream.marks ≡ 204 = search rules in
    let l = c.loop-at in
    let i = c.args.stream in
    let h = c.loop-at-test.true in
    omega (arith, part_some i c.args.piece.now c.args.marks.now c.args.lines.now (size) (many) c.requires l.invariant c.part_length-size.result h c.part_length-size.ensures, part_within i c.args.piece.now c.args.marks.now c.args.lines.now (size) (many) c.requires l.invariant c.part_length-size.result h c.part_length-size.ensures)

pub loop-at-preserved : goal.loop-at-preserved
loop-at-preserved c =
    let size : length c.args.stream.pending ≡ 204 = search rules in
    let many : length c.args.stream.marks ≡ 204 = search rules in
    let l = c.loop-at in
    let i = c.args.stream in
    let h = c.loop-at-test.true in
    let t = c.take_part-taken in
    progress_more i c.args.piece.now c.args.marks.now c.args.lines.now (size) (many) c.requires l.invariant c.part_length-size.result h c.part_length-size.ensures (part_is c.args.piece.now l.at c.part_length-size.result) (ap (take c.part_length-size.result) c.marks_at-own.ensures ∙ marks_part c.args.piece.now c.args.marks.now l.at c.part_length-size.result c.requires.marked (part_within i c.args.piece.now c.args.marks.now c.args.lines.now (size) (many) c.requires l.invariant c.part_length-size.result h c.part_length-size.ensures) (omega (arith, c.part_length-size.ensures))) t.ensures

pub shape_of-lines : goal.shape_of-lines
shape_of-lines c =
    let size : length c.args.stream.pending ≡ 204 = search rules in
    let many : length c.args.stream.marks ≡ 204 = search rules in
    let l = c.loop-at in
    let i = c.args.stream in
    progress_length i c.args.piece.now c.args.marks.now c.args.lines.now (size) (many) c.requires l.invariant

pub returns : goal.returns
returns c =
    let size : length c.args.stream.pending ≡ 204 = search rules in
    let many : length c.args.stream.marks ≡ 204 = search rules in
    let l = c.loop-at in
    let i = c.args.stream in
    progress_end i c.args.piece.now c.args.marks.now c.args.lines.now (size) (many) c.requires l.invariant c.loop-at-test.false
