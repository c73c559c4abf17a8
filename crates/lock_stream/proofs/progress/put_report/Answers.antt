-- `lock_stream::progress::put_report` meets its contract.
-- Assumes nothing.
use mathlib.Core.Path.{sym, subst, ◌∙◌}
use native.Mathlib.Omega.{arith}
use lib.ListN.{length, length-replicate}
use lib.Seq.{length-take-le}
use Prim.Native.Nat.{ℕ, ◌≤◌}
use Rattle.report.specs.Text.{report_text}
use Rattle.report.proofs.AsWritten.{size_given}
use Rattle.receiver_stream.specs.Reporting.{report_of}
use Rattle.lock_stream.proofs.Reports.{ReportWritten, report_written, report_appended}
use Rattle.lock_stream.proofs.progress.put_report.Goals as goal

pub slice_bounds-own-end : goal.slice_bounds-own-end
slice_bounds-own-end c =
    let written : let a = c.args in ReportWritten (report_text (report_of a.counts a.rest)) c.write_report.new.output c.unwrap_or-n.result = let a = c.args in subst (ReportWritten (report_text (report_of a.counts a.rest)) c.write_report.new.output) (sym (c.unwrap_or-n.ensures ∙ size_given c.write_report.result)) (report_written a.counts a.rest c.requires.0 c.requires.1 _ (omega (arith, length-replicate {A = ℕ} 320 0)) c.report_of-report.ensures c.write_report.ensures) in
    let within : c.unwrap_or-n.result ≤ length c.write_report.new.output = omega (arith, (written).short, c.write_report.auto.output) in
    within

pub slice_bounds-put-end : goal.slice_bounds-put-end
slice_bounds-put-end c =
    let written : let a = c.args in ReportWritten (report_text (report_of a.counts a.rest)) c.write_report.new.output c.unwrap_or-n.result = let a = c.args in subst (ReportWritten (report_text (report_of a.counts a.rest)) c.write_report.new.output) (sym (c.unwrap_or-n.ensures ∙ size_given c.write_report.result)) (report_written a.counts a.rest c.requires.0 c.requires.1 _ (omega (arith, length-replicate {A = ℕ} 320 0)) c.report_of-report.ensures c.write_report.ensures) in
    let within : c.unwrap_or-n.result ≤ length c.write_report.new.output = omega (arith, (written).short, c.write_report.auto.output) in
    sym (length-take-le _ _ (within))

pub put-requires : goal.put-requires
put-requires c =
    let written : let a = c.args in ReportWritten (report_text (report_of a.counts a.rest)) c.write_report.new.output c.unwrap_or-n.result = let a = c.args in subst (ReportWritten (report_text (report_of a.counts a.rest)) c.write_report.new.output) (sym (c.unwrap_or-n.ensures ∙ size_given c.write_report.result)) (report_written a.counts a.rest c.requires.0 c.requires.1 _ (omega (arith, length-replicate {A = ℕ} 320 0)) c.report_of-report.ensures c.write_report.ensures) in
    let within : c.unwrap_or-n.result ≤ length c.write_report.new.output = omega (arith, (written).short, c.write_report.auto.output) in
    omega (arith, length-take-le c.unwrap_or-n.result c.write_report.new.output (within), (written).short, c.requires.2)

pub overflow_add-result : goal.overflow_add-result
overflow_add-result c =
    let written : let a = c.args in ReportWritten (report_text (report_of a.counts a.rest)) c.write_report.new.output c.unwrap_or-n.result = let a = c.args in subst (ReportWritten (report_text (report_of a.counts a.rest)) c.write_report.new.output) (sym (c.unwrap_or-n.ensures ∙ size_given c.write_report.result)) (report_written a.counts a.rest c.requires.0 c.requires.1 _ (omega (arith, length-replicate {A = ℕ} 320 0)) c.report_of-report.ensures c.write_report.ensures) in
    omega (arith, (written).short)

pub returns : goal.returns
returns c =
    let written : let a = c.args in ReportWritten (report_text (report_of a.counts a.rest)) c.write_report.new.output c.unwrap_or-n.result = let a = c.args in subst (ReportWritten (report_text (report_of a.counts a.rest)) c.write_report.new.output) (sym (c.unwrap_or-n.ensures ∙ size_given c.write_report.result)) (report_written a.counts a.rest c.requires.0 c.requires.1 _ (omega (arith, length-replicate {A = ℕ} 320 0)) c.report_of-report.ensures c.write_report.ensures) in
    let within : c.unwrap_or-n.result ≤ length c.write_report.new.output = omega (arith, (written).short, c.write_report.auto.output) in
    report_appended (written) (length-take-le _ _ (within)) c.requires.2 c.put.ensures
