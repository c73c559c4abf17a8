-- `report_form::move_input` meets its contract.
-- Assumes nothing.
use mathlib.Core.Path.{◌≡◌, refl, sym, subst, ◌∙◌}
use mathlib.Core.List.{[]}
use Prim.Native.Nat.{ℕ, ◌≤◌}
use native.Mathlib.Omega.{arith}
use lib.ListN.{length}
use lib.Seq.{length-take-le}
use Rattle.report_lines.specs.Line.{line_text}
use Rattle.answer.proofs.Positive.{number_positive}
use Rattle.report.proofs.Moving.{move_within}
use Rattle.program_io.specs.Files.{Writes}
use Rattle.report_form.proofs.Ending.{ends_input, ends_refused, ends_output, ends_whole}
use Rattle.report_form.proofs.move_input.Goals as goal

pub returns-then-failed : goal.returns-then-failed
returns-then-failed c =
    let full : length c.fill-filled.new.buffer ≡ 512 = c.fill-filled.auto.buffer in
    ends_input c.args.form c.requires.0 c.fill-filled.ensures c.requires.1 c.requires.2 (full) (sym c.failed.ensures ∙ c.if-failed.true)

pub slice_bounds-move_report-end : goal.slice_bounds-move_report-end
slice_bounds-move_report-end c = let r = c.fill-filled in sym (length-take-le r.result.length r.new.buffer r.ensures.within)

pub returns-in-Err : goal.returns-in-Err
returns-in-Err c =
    let full : length c.fill-filled.new.buffer ≡ 512 = c.fill-filled.auto.buffer in
    let n = c.number.ensures in
    let w = c.in-Err in
    ends_refused c.args.form c.requires.0 c.fill-filled.ensures c.requires.1 c.requires.2 (full) (sym c.failed.ensures ∙ c.if-failed.false)
    w.ensures (λ z. omega (arith, number_positive w.refusal))
    (subst (λ (m : ℕ). Writes c.args.errors (line_text [] m) c.tell_number.result) n c.tell_number.ensures)

pub slice_bounds-text-end : goal.slice_bounds-text-end
slice_bounds-text-end c =
    let within : c.in-Ok.size ≤ length c.move_report.new.output = let h = move_within c.in-Ok.ensures in omega (arith, h, c.move_report.auto.output) in
    within

pub returns-then-failed-2 : goal.returns-then-failed-2
returns-then-failed-2 c =
    let full : length c.fill-filled.new.buffer ≡ 512 = c.fill-filled.auto.buffer in
    ends_output c.args.form c.requires.0 c.fill-filled.ensures c.requires.1 c.requires.2 (full) (sym c.failed.ensures ∙ c.if-failed.false)
    c.in-Ok.ensures refl c.write_text-output.ensures c.close-output.ensures
    (sym c.failed-2.ensures ∙ c.if-failed-2.true)

pub returns : goal.returns
returns c =
    let full : length c.fill-filled.new.buffer ≡ 512 = c.fill-filled.auto.buffer in
    ends_whole c.args.form c.requires.0 c.fill-filled.ensures c.requires.1 c.requires.2 (full) (sym c.failed.ensures ∙ c.if-failed.false)
    c.in-Ok.ensures refl c.write_text-output.ensures c.close-output.ensures
    (sym c.failed-2.ensures ∙ c.if-failed-2.false)
