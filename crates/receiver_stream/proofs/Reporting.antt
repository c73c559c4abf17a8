-- The report of a pass: the writer takes the numbers of every stream receiver in range, and the text is that of all the bytes that came.
-- Assumes nothing.
use mathlib.Core.Path.{◌≡◌, refl, sym, ap, ap₂, subst, ◌∙◌}
use mathlib.Core.Bool.{true}
use mathlib.Core.List.{List}
use Prim.Native.Nat.{ℕ, ◌<◌}
use native.Mathlib.Omega.{arith}
use borrow.Author.Tests.{eq-eqb}
use Rattle.reception_counts.specs.declared.Counts.{Counts}
use Rattle.reception_counts.proofs.Ranges.{CountsRange, counts_range}
use Rattle.receiver.proofs.Calls.{state_range}
use Rattle.receiver.specs.declared.Receiver.{Receiver}
use Rattle.recording.proofs.Decided.{recording_unique}
use Rattle.report.specs.Text.{row, fits, sums, report_text, text_number, WritesText}
use Rattle.report.proofs.Counting.{told_fits}
use Rattle.receiver_stream.specs.Feed.{receiver_stream_in_range}
use Rattle.receiver_stream.specs.History.{Reception}
use Rattle.receiver_stream.specs.Reporting.{report_of, stream_report, stream_report_number, PassReport, Reports}
use Rattle.receiver_stream.specs.declared.ReceiverStream.{ReceiverStream}
use Rattle.receiver_stream.proofs.Pieces.{stream_range}
use Rattle.receiver_stream.proofs.Laws.{reception_held, reception_range}

-- ---- the writer does not refuse it

pub counts_fit : (n : Counts) (rest : ℕ) → CountsRange n → rest < 204 → fits (report_of n rest) ≡ true
unfolding row
counts_fit n rest c h =
    let t = c.most in
    let m = c.middle in
    let b = c.bytes in
    let e = c.eightfold in
    told_fits (report_of n rest) n.bits refl t (omega arith) (omega arith) (omega arith) (omega arith) (omega arith) (omega arith) (omega arith) (omega arith)

pub counts_add : (n : Counts) (rest : ℕ) → CountsRange n → sums (report_of n rest) ≡ true
unfolding sums
counts_add n rest c = simp (eq-eqb _ _ c.middle, eq-eqb _ _ c.filled)

pub in_range_written : (i : ReceiverStream) → receiver_stream_in_range i ≡ true → (fits (stream_report i) ≡ true) × (sums (stream_report i) ≡ true)
in_range_written i e =
    let r = stream_range i e in
    let c = counts_range i.receiver.counts (state_range i.receiver r.0).counts in
    (counts_fit i.receiver.counts i.held c r.1, counts_add i.receiver.counts i.held c)

-- so of the answers of the writer only 0 and 4 are left
answer_left : (i : ReceiverStream) (output : List ℕ) → receiver_stream_in_range i ≡ true → stream_report_number i output ≡ text_number (report_text (stream_report i)) output
answer_left i output e = let p = in_range_written i e in simp (e, p.0, p.1) refl

-- ---- the report on all that came

report_text_lem : {bytes marks written text : List ℕ} {i : ReceiverStream} → Reception bytes marks written i → PassReport bytes marks text → report_text (stream_report i) ≡ text
report_text_lem {bytes} r p =
    let e = recording_unique r.recording p.recording in
    ap₂ (λ (s : Receiver) (n : ℕ). report_text (report_of s.counts n)) e.state (reception_held r) ∙ sym p.text_is

pub report_total : (bytes marks written : List ℕ) (i : ReceiverStream) → Reception bytes marks written i → PassReport bytes marks (report_text (stream_report i))
report_total bytes marks written i r = record {
  packets = r.packets;
  last = i.receiver;
  recording = r.recording;
  text_is = ap (λ (n : ℕ). report_text (report_of i.receiver.counts n)) (reception_held r);
}

pub reports : (i : ReceiverStream) (output : List ℕ) (number count : ℕ) (exit : List ℕ)
    → WritesText (stream_report_number i output) (report_text (stream_report i)) output number count exit → Reports i output number count exit
reports i output number count exit w = record {
  writes = w;
  whole = λ bytes marks written text r p.
      subst (λ (x : List ℕ). WritesText (text_number x output) x output number count exit) (report_text_lem r p)
      (subst (λ (k : ℕ). WritesText k (report_text (stream_report i)) output number count exit) (answer_left i output (reception_range r)) w);
}
