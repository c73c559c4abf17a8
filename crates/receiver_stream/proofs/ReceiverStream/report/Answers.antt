-- `receiver_stream::ReceiverStream::report` meets its contract.
-- Assumes nothing.
use mathlib.Core.Path.{sym, ◌∙◌}
use Rattle.receiver_stream.proofs.Reporting.{reports}
use Rattle.receiver_stream.proofs.ReceiverStream.report.Goals as goal

pub returns-then-not-in_range : goal.returns-then-not-in_range
returns-then-not-in_range c =
    let a = c.args in
    let e = sym c.in_range.ensures ∙ c.if-not-in_range.true in
    reports a.self a.output.now _ _ _ (record { number_is = simp e; size_is = simp e; output_is = simp e })

pub returns : goal.returns
returns c =
    let a = c.args in
    let e = sym c.in_range.ensures ∙ c.if-not-in_range.false in
    let w = c.write_report.ensures in
    let r = c.report_of.ensures in
    reports a.self a.output.now _ _ _ (record { number_is = w.number_is ∙ simp (r, e); size_is = w.size_is ∙ simp (r, e); output_is = w.output_is ∙ simp (r, e) })
