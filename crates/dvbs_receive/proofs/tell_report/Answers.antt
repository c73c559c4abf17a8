-- `dvbs_receive::tell_report` meets its contract.
-- Assumes nothing.
use mathlib.Core.Path.{refl, sym, ap, ◌∙◌}
use Rattle.program_io.specs.Checksum.{traced}
use Rattle.program_io.specs.declared.trace.Trace.{Trace}
use Rattle.report.specs.Text.{report_text}
use Rattle.receiver_stream.specs.Reporting.{stream_report}
use Rattle.dvbs_receive.specs.Ends.{told, lost, untold}
use Rattle.dvbs_receive.proofs.tell_report.Goals as goal

pub returns-then-failed : goal.returns-then-failed
returns-then-failed c =
    let p = c.requires in
    lost refl c.close-output.ensures.file (sym c.failed.ensures ∙ c.if-failed.true) p.2.file p.2.trace

pub returns-then-failed-2 : goal.returns-then-failed-2
returns-then-failed-2 c =
    untold refl c.close-output.ensures.file (c.write_report-errors.ensures.file ∙ c.requires.2.file) (sym c.failed-2.ensures ∙ c.if-failed-2.true)

pub returns-else-failed-2 : goal.returns-else-failed-2
returns-else-failed-2 c =
    let k = c.close-output.ensures in
    let w = c.write_report-errors.ensures in
    let p = c.requires in
    let u = sym c.failed.ensures ∙ c.if-failed.false in
    let v = sym c.failed-2.ensures ∙ c.if-failed-2.false in
    told refl k.file k.trace u (k.closed u) (w.file ∙ p.2.file) v
    (w.whole v ∙ ap (λ (t : Trace). traced t (report_text (stream_report c.args.stream))) p.2.trace)
