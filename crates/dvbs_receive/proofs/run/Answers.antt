-- `dvbs_receive::run` meets its contract.
-- Assumes nothing.
use mathlib.Core.Path.{◌≡◌, refl, sym, ◌∙◌}
use mir.Syntax.{w32}
use mir.Val.{to_z, of_z}
use Rattle.dvbs_receive.specs.Ends.{part, marks_failed}
use Rattle.dvbs_receive.proofs.Endings.{stream_came, ends_told, ends_failed, ends_refused}
use borrow.Author.Rules.{rules}
use Rattle.dvbs_receive.proofs.run.Goals as goal

pub returns-then-failed : goal.returns-then-failed
returns-then-failed c =
    let e = c.errors-errors.ensures in
    record {
      input_is = c.standard-input.ensures.file;
      marks_are = refl;
      output_is = c.standard-output.ensures.file;
      errors_are = e.file;
      status = part refl (marks_failed (sym c.failed.ensures ∙ c.if-failed.true) e.trace);
    }

pub tell_report-told-requires : goal.tell_report-told-requires
tell_report-told-requires c =
    let s = stream_came c.receive_all-pass.ensures.ends c.in-Whole.is in
    (s.0, s.1, c.errors-errors.ensures)

pub returns-in-Whole : goal.returns-in-Whole
returns-in-Whole c =
    let t = c.tell_report-told in
    let q : to_z w32 (of_z w32 t.result.status) ≡ t.result.status = search rules in
    ends_told c.receive_all-pass.ensures c.standard-input.ensures c.standard-output.ensures c.errors-errors.ensures c.in-Whole.is t.ensures q

pub returns-in-Failed : goal.returns-in-Failed
returns-in-Failed c = ends_failed c.receive_all-pass.ensures c.standard-input.ensures c.standard-output.ensures c.errors-errors.ensures c.in-Failed.is

pub returns-in-Refused : goal.returns-in-Refused
returns-in-Refused c =
    ends_refused c.receive_all-pass.ensures c.standard-input.ensures c.standard-output.ensures c.errors-errors.ensures _ c.in-Refused.is c.tell_mark-errors.ensures
