-- `reed_solomon::decode_marked` meets its contract: with more than sixteen marks no codeword is near enough, a block whose residue is zero is a codeword, and any other is corrected.
-- Assumes nothing.
use mathlib.Core.Path.{refl, sym, ap, ◌∙◌}
use native.Mathlib.Omega.{arith}
use Rattle.common.proofs.Entries.{bytes_of}
use Rattle.reed_solomon.specs.Marks.{Marks}
use Rattle.reed_solomon.specs.Steps.{all_zero}
use Rattle.reed_solomon.proofs.Marks.{marks_of_lem, marks_not}
use Rattle.reed_solomon.proofs.Outcome.{clean}
use Rattle.reed_solomon.proofs.decode_marked.Goals as goal

pub returns-then-not-are_marks : goal.returns-then-not-are_marks
returns-then-not-are_marks c = (c.if-block-ne204.false, marks_not c.args.marks.now (sym c.are_marks.ensures ∙ c.if-not-are_marks.true), refl)

pub count_marks-f-requires : goal.count_marks-f-requires
count_marks-f-requires c =
    let valid : Marks c.args.marks.now = marks_of_lem c.args.marks.now (sym c.are_marks.ensures ∙ c.if-not-are_marks.false) in
    valid

pub returns-then-f-gt16 : goal.returns-then-f-gt16
returns-then-f-gt16 c =
    let valid : Marks c.args.marks.now = marks_of_lem c.args.marks.now (sym c.are_marks.ensures ∙ c.if-not-are_marks.false) in
    (c.if-block-ne204.false, valid, record { unchanged = refl; far = λ d w. omega (arith, c.count_marks-f.ensures, c.if-f-gt16.true) })

pub returns-then-is_zero : goal.returns-then-is_zero
returns-then-is_zero c =
    let valid : Marks c.args.marks.now = marks_of_lem c.args.marks.now (sym c.are_marks.ensures ∙ c.if-not-are_marks.false) in
    let n = c.if-block-ne204.false in
    let m = valid in (
      n,
      m,
      clean c.args.block.now n c.args.marks.now m.size (omega (arith, c.count_marks-f.ensures, c.if-f-gt16.false)) (bytes_of c.args.block.now (λ i. (c.slice_known-1.given i).fits))
          (ap all_zero (sym c.residue-residue.ensures) ∙ sym c.is_zero.ensures ∙ c.if-is_zero.true),
    )

pub correct_errors-requires : goal.correct_errors-requires
correct_errors-requires c =
    let valid : Marks c.args.marks.now = marks_of_lem c.args.marks.now (sym c.are_marks.ensures ∙ c.if-not-are_marks.false) in
    (c.if-block-ne204.false, c.residue-residue.ensures, valid, c.count_marks-f.ensures, omega arith)
