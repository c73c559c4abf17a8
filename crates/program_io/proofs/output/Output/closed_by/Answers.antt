-- `program_io::output::Output::closed_by` meets its contract.
-- Assumes nothing.
use Rattle.std.proofs.Common.{◌≡◌, true, false, ℤ, pos, sym, refl, ◌∙◌, subst, true≢false, w32, to_z, of_z, rules}
use lib.Signed.{lt_z}
use Rattle.program_io.proofs.output.Output.closed_by.Goals as goal

pub returns-then-answer-lt0 : goal.returns-then-answer-lt0
returns-then-answer-lt0 c =
    let l = c.lost.ensures in
    let z = c.args.answer in
    let e : to_z w32 (of_z w32 z) ≡ z = search rules in
    record { file = l.file; trace = l.trace; failed = l.failed ∙ sym (subst (λ (x : ℤ). lt_z x (pos 0) ≡ true) e c.if-answer-lt0.true); closed = λ u. absurd (true≢false (sym l.failed ∙ u)) }

pub returns : goal.returns
returns c =
    let z = c.args.answer in
    let e : to_z w32 (of_z w32 z) ≡ z = search rules in
    record { file = search rules; trace = refl; failed = sym (subst (λ (x : ℤ). lt_z x (pos 0) ≡ false) e c.if-answer-lt0.false); closed = λ u. refl }
