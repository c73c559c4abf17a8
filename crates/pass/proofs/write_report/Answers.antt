-- `pass::write_report` meets its contract.
-- Assumes nothing.
use mathlib.Core.Path.{◌≡◌, sym, ap, subst, ◌∙◌}
use mathlib.Core.List.{List}
use Prim.Native.Nat.{ℕ, ◌+◌, ◌≤◌}
use native.Mathlib.Omega.{arith}
use borrow.Author.Tests.{le-ltb}
use lib.ListN.{length, take, drop, replicate}
use lib.Seq.{take_at}
use Rattle.program_io.specs.Files.{Writes}
use Rattle.report.specs.Text.{report_text, text_number}
use Rattle.report.proofs.AsWritten.{size_given, written_size, written_output}
use Rattle.report.proofs.Fronts.{report_short}
use Rattle.receiver_stream.specs.History.{ReceiverCame}
use Rattle.receiver_stream.specs.Reporting.{stream_report}
use Rattle.receiver_stream.proofs.Reporting.{report_total}
use Rattle.pass.proofs.write_report.Goals as goal

pub slice_bounds-text-end : goal.slice_bounds-text-end
slice_bounds-text-end c =
    let came : ReceiverCame c.args.stream = c.requires in
    let text : List ℕ = report_text (stream_report c.args.stream) in
    let room : length (text) ≤ 310 = report_short (stream_report c.args.stream) in
    let due : text_number (text) (replicate 320 0) ≡ 0 = let h = room in simp (le-ltb 320 (length (text)) (omega (arith, h))) in
    let size : c.unwrap_or-n.result ≡ length (text) = c.unwrap_or-n.ensures ∙ size_given c.report.result ∙ written_size (c.report.ensures.whole _ _ _ _ came.reception (report_total _ _ _ _ came.reception)) (due) in
    omega (arith, size, room)

pub returns : goal.returns
returns c =
    let came : ReceiverCame c.args.stream = c.requires in
    let text : List ℕ = report_text (stream_report c.args.stream) in
    let room : length (text) ≤ 310 = report_short (stream_report c.args.stream) in
    let due : text_number (text) (replicate 320 0) ≡ 0 = let h = room in simp (le-ltb 320 (length (text)) (omega (arith, h))) in
    let size : c.unwrap_or-n.result ≡ length (text) = c.unwrap_or-n.ensures ∙ size_given c.report.result ∙ written_size (c.report.ensures.whole _ _ _ _ came.reception (report_total _ _ _ _ came.reception)) (due) in
    let text_is : take c.unwrap_or-n.result c.report.new.output ≡ text = ap (take c.unwrap_or-n.result) (written_output (c.report.ensures.whole _ _ _ _ came.reception (report_total _ _ _ _ came.reception)) (due))
    ∙ take_at (text) (drop (0 + length (text)) (replicate 320 0)) c.unwrap_or-n.result (sym size) in
    subst (λ (l : List ℕ). Writes c.args.output l c.write_text.result) (text_is) c.write_text.ensures
