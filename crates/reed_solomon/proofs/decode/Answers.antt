-- `reed_solomon::decode` meets its contract: a block whose residue is zero is a codeword, and any other is corrected, as one without marks.
-- Assumes nothing.
use mathlib.Core.Path.{refl, sym, ap, ◌∙◌}
use native.Mathlib.Omega.{arith}
use Rattle.std.proofs.Common.{Ok}
use Rattle.common.proofs.Entries.{bytes_of}
use Rattle.reed_solomon.specs.Code.{no_change}
use Rattle.reed_solomon.specs.Marks.{no_marks}
use Rattle.reed_solomon.specs.Steps.{all_zero}
use Rattle.reed_solomon.proofs.Marks.{no_marks_lem}
use Rattle.reed_solomon.proofs.MarkedDistance.{marked_none, without_marks}
use Rattle.reed_solomon.proofs.Outcome.{clean}
use Rattle.reed_solomon.proofs.decode.Goals as goal

pub returns-then-is_zero : goal.returns-then-is_zero
returns-then-is_zero c =
    let m = c.args.block.now in
    let n = c.if-block-ne204.false in
    without_marks m m (Ok no_change)
    (n, no_marks_lem, clean m n no_marks refl (omega (arith, marked_none 204)) (bytes_of m (λ i. (c.slice_known-1.given i).fits)) (ap all_zero (sym c.residue-residue.ensures) ∙ sym c.is_zero.ensures ∙ c.if-is_zero.true))

pub correct_errors-requires : goal.correct_errors-requires
correct_errors-requires c = (c.if-block-ne204.false, c.residue-residue.ensures, no_marks_lem, sym (marked_none 204), omega arith)

pub returns : goal.returns
returns c = without_marks c.args.block.now c.correct_errors.new.block c.correct_errors.result c.correct_errors.ensures
