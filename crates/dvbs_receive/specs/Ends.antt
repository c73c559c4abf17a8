-- How dvbs_receive may end, and what its status then says. The files are values of program_io, which only its reads and writes make.
-- Clauses: document 01, "Receiver"; document 02, P7 and P11.
-- Assumes nothing.
use Rattle.std.specs.Prelude.{◌≡◌, Bool, true, false, not, List, [], ◌∷◌, ◌⊎◌, ℕ, ltb, ℤ, pos}
use Rattle.common.specs.Choice.{pick}
use Rattle.answer_lines.specs.Lines.{refusal_text}
use Rattle.program_io.specs.Checksum.{no_bytes, traced}
use Rattle.program_io.specs.Calls.{asked_of, NamedInput, AnswersCall}
use Rattle.program_io.specs.Files.{input_origin, origin_file, input_ended, input_failed, output_file, output_trace, output_failed, output_closed}
use Rattle.program_io.specs.Words.{argument_count, word_argument, word_bytes, word_is_option}
use Rattle.program_io.specs.declared.calls.Asked.{Asked}
use Rattle.program_io.specs.declared.calls.Asked.TheVariants.{Help, Version, Work}
use Rattle.program_io.specs.declared.calls.MarkedEnded.{MarkedEnded}
use Rattle.program_io.specs.declared.input.Input.{Input}
use Rattle.program_io.specs.declared.output.Output.{Output}
use Rattle.program_io.specs.declared.words.Arguments.{Arguments}
use Rattle.program_io.specs.declared.words.Word.{Word}
use Rattle.report.specs.Text.{report_text}
use Rattle.receiver_stream.specs.Feed.{capacity_of}
use Rattle.receiver_stream.specs.Reporting.{stream_report}
use Rattle.receiver_stream.specs.declared.ReceiverStream.{ReceiverStream}
use Rattle.pass.specs.Pass.{PassCame, BadMark}
use Rattle.dvbs_receive.specs.declared.PassTold.{PassTold}

-- dvbs_receive
abbrev pub program_name : List ℕ
program_name =
    0x64 ∷ 0x76 ∷ 0x62 ∷ 0x73 ∷ 0x5F ∷ 0x72 ∷ 0x65 ∷ 0x63 ∷ 0x65 ∷ 0x69 ∷ 0x76 ∷ 0x65 ∷ []

-- usage: dvbs_receive [MARKS] < blocks > packets
abbrev pub usage_text : List ℕ
usage_text =
    0x75 ∷ 0x73 ∷ 0x61 ∷ 0x67 ∷ 0x65 ∷ 0x3A ∷ 0x20 ∷ 0x64 ∷ 0x76 ∷ 0x62 ∷ 0x73 ∷ 0x5F ∷ 0x72 ∷ 0x65 ∷ 0x63 ∷ 0x65 ∷ 0x69 ∷ 0x76 ∷ 0x65 ∷ 0x20 ∷ 0x5B
    ∷ 0x4D ∷ 0x41 ∷ 0x52 ∷ 0x4B ∷ 0x53 ∷ 0x5D ∷ 0x20 ∷ 0x3C ∷ 0x20 ∷ 0x62 ∷ 0x6C ∷ 0x6F ∷ 0x63 ∷ 0x6B ∷ 0x73 ∷ 0x20 ∷ 0x3E ∷ 0x20 ∷ 0x70 ∷ 0x61 ∷
    0x63 ∷ 0x6B ∷ 0x65 ∷ 0x74 ∷ 0x73 ∷ 0x0A ∷ []

-- the call is for the program's work, with no argument, or one that may name a file
abbrev pub right_call : Asked → ℕ → Bool → Bool
right_call Help count option = false
right_call Version count option = false
right_call Work count option = pick (ltb 1 count) false (not option)

-- The output was closed, and the report told whole; or one of the two failed, and where it was the first, nothing was told.
pub data Tells (stream : ReceiverStream) (output : Output) (r : PassTold) : Type 0 where
  told : r.status ≡ pos 0 → output_file r.output ≡ output_file output → output_trace r.output ≡ output_trace output → output_failed r.output ≡ false
      → output_closed r.output ≡ true → output_file r.errors ≡ pos 2 → output_failed r.errors ≡ false
      → output_trace r.errors ≡ traced no_bytes (report_text (stream_report stream)) → Tells stream output r
  lost : r.status ≡ pos 1 → output_file r.output ≡ output_file output → output_failed r.output ≡ true → output_file r.errors ≡ pos 2
      → output_trace r.errors ≡ no_bytes → Tells stream output r
  untold : r.status ≡ pos 1 → output_file r.output ≡ output_file output → output_file r.errors ≡ pos 2 → output_failed r.errors ≡ true → Tells stream output r

-- status 0: all was read, up to the end of the input or the last block that can be counted, and what it comes to was written; the output was closed,
-- and the report was told
pub record Whole (start : Input) (r : MarkedEnded) : Type 0 where
  pub stream : ReceiverStream
  pub all : PassCame true start r.input r.marks r.output stream
  pub ended : (input_ended r.input ≡ true) ⊎ (capacity_of stream ≡ 0)
  pub closed : output_closed r.output ≡ true
  pub told_whole : output_failed r.errors ≡ false
  pub told : output_trace r.errors ≡ traced no_bytes (report_text (stream_report stream))

-- status 1: what failed, and then no line of the report was told; or a mark above 1, which was told with its block
pub data Failed (r : MarkedEnded) : Type 0 where
  input_failed_lem : input_failed r.input ≡ true → output_trace r.errors ≡ no_bytes → Failed r
  marks_failed : input_failed r.marks ≡ true → output_trace r.errors ≡ no_bytes → Failed r
  output_failed_lem : output_failed r.output ≡ true → output_trace r.errors ≡ no_bytes → Failed r
  errors_failed : output_failed r.errors ≡ true → Failed r
  mark_refused : (block : ℕ) → BadMark r.marks block → output_trace r.errors ≡ traced no_bytes (refusal_text block 20) → Failed r

pub data Status (start : Input) (r : MarkedEnded) : Type 0 where
  whole : r.status ≡ pos 0 → Whole start r → Status start r
  part : r.status ≡ pos 1 → Failed r → Status start r

-- the files are standard input, the marks as they were made, standard output and standard error
pub record Ends (start : Input) (r : MarkedEnded) : Type 0 where
  pub input_is : origin_file (input_origin r.input) ≡ pos 0
  pub marks_are : input_origin r.marks ≡ input_origin start
  pub output_is : output_file r.output ≡ pos 1
  pub errors_are : output_file r.errors ≡ pos 2
  pub status : Status start r

-- The status of the program: that of what every program answers, which is 2 for a wrong call; or how the pass ended.
pub data Exits (status : ℤ) : Type 0 where
  answered : AnswersCall program_name usage_text (λ a w. right_call (asked_of (argument_count a) (word_bytes w)) (argument_count a) (word_is_option w) ≡ false) status → Exits status
  ran : (a : Arguments) (w : Word) (marks : Input) (r : MarkedEnded) → word_argument w ≡ 1
      → right_call (asked_of (argument_count a) (word_bytes w)) (argument_count a) (word_is_option w) ≡ true → NamedInput (argument_count a) marks → Ends marks r
      → status ≡ r.status → Exits status
