-- `pass_report::print` meets its contract.
-- Assumes nothing.
use mathlib.Core.Path.{refl, sym, ap, ◌∙◌}
use Rattle.program_io.specs.Checksum.{traced}
use Rattle.program_io.specs.declared.trace.Trace.{Trace}
use Rattle.report.specs.Text.{report_text}
use Rattle.receiver_stream.specs.Reporting.{stream_report}
use Rattle.pass_report.specs.Ends.{printed, lost}
use Rattle.pass_report.proofs.print.Goals as goal

pub returns-then-failed : goal.returns-then-failed
returns-then-failed c =
    let k = c.close-output.ensures in
    let w = c.write_report-output.ensures in
    lost refl refl (k.file ∙ w.file ∙ c.requires.1.file) (sym c.failed.ensures ∙ c.if-failed.true)

pub returns-else-failed : goal.returns-else-failed
returns-else-failed c =
    let k = c.close-output.ensures in
    let w = c.write_report-output.ensures in
    let o = c.requires.1 in
    let u = sym c.failed.ensures ∙ c.if-failed.false in
    printed refl refl (k.file ∙ w.file ∙ o.file) u (k.closed u)
    (k.trace ∙ w.whole (k.started u) ∙ ap (λ (t : Trace). traced t (report_text (stream_report c.args.stream))) o.trace)
