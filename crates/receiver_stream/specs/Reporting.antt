-- The report of a pass: the numbers of a stream receiver as a report of form 2, and what writing it gives.
-- Clauses: document 01, "Receiver"; document 02, P7.
-- Assumes nothing.
use Rattle.std.specs.Prelude.{◌≡◌, List, ◌∷◌, ℕ, ◌%◌, length}
use Rattle.common.specs.Refusal.{unless, first_due}
use Rattle.reception_counts.specs.declared.Counts.{Counts}
use Rattle.receiver.specs.Receive.{fresh_receiver}
use Rattle.receiver.specs.declared.Receiver.{Receiver}
use Rattle.recording.specs.Recording.{Recording}
use Rattle.report.specs.declared.Bits.TheVariants.{Number}
use Rattle.report.specs.declared.Report.{Report}
use Rattle.report.specs.Text.{report_text, text_number, write_tests, WritesText}
use Rattle.receiver_stream.specs.Feed.{receiver_stream_in_range}
use Rattle.receiver_stream.specs.History.{Reception}
use Rattle.receiver_stream.specs.declared.ReceiverStream.{ReceiverStream}

-- the report on these counts, with so many bytes after the last whole block
abbrev pub report_of : Counts → ℕ → Report
report_of n rest = record {
  taken = n.taken;
  filling = n.filling;
  delivered = n.delivered;
  lost = n.lost;
  waiting = n.waiting;
  outofstep = n.outofstep;
  changed = n.changed;
  bits = Number n.bits;
  rest = rest;
}

abbrev pub stream_report : ReceiverStream → Report
stream_report i = report_of i.receiver.counts i.held

-- what writing the report of all that came answers: 5 for a state out of range, and else what the writer does
abbrev pub stream_report_number : ReceiverStream → List ℕ → ℕ
stream_report_number i output = first_due (unless (receiver_stream_in_range i) 5 ∷ write_tests (stream_report i) output)

-- the text of the report on bytes with their marks as one recording
pub record PassReport (bytes marks text : List ℕ) : Type 0 where
  pub packets : List (List ℕ)
  pub last : Receiver
  pub recording : Recording fresh_receiver bytes marks packets last
  pub text_is : text ≡ report_text (report_of last.counts (length bytes % 204))

-- What writing the report promises: of every stream receiver what the definitions give of its counts and the bytes held, and of one that bytes
-- came to the report on those bytes, with their marks, as one recording.
pub record Reports (i : ReceiverStream) (output : List ℕ) (number count : ℕ) (exit : List ℕ) : Type 0 where
  pub writes : WritesText (stream_report_number i output) (report_text (stream_report i)) output number count exit
  pub whole : (bytes marks written text : List ℕ) → Reception bytes marks written i → PassReport bytes marks text → WritesText (text_number text output) text output number count exit
