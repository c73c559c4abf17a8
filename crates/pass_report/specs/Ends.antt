-- How pass_report may end, and what its status then says. The files are values of program_io, which only its reads and writes make.
-- Clauses: document 01, "Receiver"; document 02, P7.
-- Assumes nothing.
use Rattle.std.specs.Prelude.{◌≡◌, Bool, true, false, List, [], ◌∷◌, ◌⊎◌, ℕ, eqb, ℤ, pos, length, replicate}
use Rattle.program_io.specs.Checksum.{no_bytes, traced}
use Rattle.program_io.specs.Calls.{asked_of, AnswersCall}
use Rattle.program_io.specs.Files.{input_origin, origin_file, input_trace, input_ended, input_failed, output_file, output_trace, output_failed, output_closed}
use Rattle.program_io.specs.Words.{argument_count, word_argument, word_bytes}
use Rattle.program_io.specs.declared.calls.Asked.{Asked}
use Rattle.program_io.specs.declared.calls.Asked.TheVariants.{Help, Version, Work}
use Rattle.program_io.specs.declared.input.Input.{Input}
use Rattle.program_io.specs.declared.words.Arguments.{Arguments}
use Rattle.program_io.specs.declared.words.Word.{Word}
use Rattle.report.specs.Text.{report_text}
use Rattle.receiver_stream.specs.Feed.{capacity_of}
use Rattle.receiver_stream.specs.History.{Reception}
use Rattle.receiver_stream.specs.Reporting.{stream_report}
use Rattle.receiver_stream.specs.declared.ReceiverStream.{ReceiverStream}
use Rattle.pass.specs.declared.Ending.{Ending}
use Rattle.pass.specs.declared.Ending.TheVariants.{Whole as AllRead, Failed as Failure, Refused}
use Rattle.pass_report.specs.declared.PassEnded.{PassEnded}

-- pass_report
abbrev pub program_name : List ℕ
program_name =
    0x70 ∷ 0x61 ∷ 0x73 ∷ 0x73 ∷ 0x5F ∷ 0x72 ∷ 0x65 ∷ 0x70 ∷ 0x6F ∷ 0x72 ∷ 0x74 ∷ []

-- usage: pass_report < blocks
abbrev pub usage_text : List ℕ
usage_text =
    0x75 ∷ 0x73 ∷ 0x61 ∷ 0x67 ∷ 0x65 ∷ 0x3A ∷ 0x20 ∷ 0x70 ∷ 0x61 ∷ 0x73 ∷ 0x73 ∷ 0x5F ∷ 0x72 ∷ 0x65 ∷ 0x70 ∷ 0x6F ∷ 0x72 ∷ 0x74 ∷ 0x20 ∷ 0x3C ∷ 0x20
    ∷ 0x62 ∷ 0x6C ∷ 0x6F ∷ 0x63 ∷ 0x6B ∷ 0x73 ∷ 0x0A ∷ []

-- the call is for the program's work, with no argument
abbrev pub right_call : Asked → ℕ → Bool
right_call Help count = false
right_call Version count = false
right_call Work count = eqb count 0

-- a pass that read and took all
abbrev pub is_whole : Ending → Bool
is_whole AllRead = true
is_whole Failure = false
is_whole (Refused block) = false

-- the report was written whole to standard output, and that was closed; or it failed
pub data Prints (stream : ReceiverStream) (input : Input) (r : PassEnded) : Type 0 where
  printed : r.status ≡ pos 0 → r.input ≡ input → output_file r.output ≡ pos 1 → output_failed r.output ≡ false → output_closed r.output ≡ true
      → output_trace r.output ≡ traced no_bytes (report_text (stream_report stream)) → Prints stream input r
  lost : r.status ≡ pos 1 → r.input ≡ input → output_file r.output ≡ pos 1 → output_failed r.output ≡ true → Prints stream input r

-- status 0: all was read, up to the end of the input or the last block that can be counted, and the report on what it comes to, with no byte marked, is
-- all that was written; the output was closed
pub record Whole (r : PassEnded) : Type 0 where
  pub bytes : List ℕ
  pub packets : List ℕ
  pub stream : ReceiverStream
  pub reception : Reception bytes (replicate (length bytes) 0) packets stream
  pub read : input_trace r.input ≡ traced no_bytes bytes
  pub ended : (input_ended r.input ≡ true) ⊎ (capacity_of stream ≡ 0)
  pub unfailed : output_failed r.output ≡ false
  pub closed : output_closed r.output ≡ true
  pub written : output_trace r.output ≡ traced no_bytes (report_text (stream_report stream))

-- status 1: the input failed, and nothing was written; or the output failed
pub data Failed (r : PassEnded) : Type 0 where
  input_failed_lem : input_failed r.input ≡ true → output_trace r.output ≡ no_bytes → Failed r
  output_failed_lem : output_failed r.output ≡ true → Failed r

pub data Status (r : PassEnded) : Type 0 where
  whole : r.status ≡ pos 0 → Whole r → Status r
  part : r.status ≡ pos 1 → Failed r → Status r

-- the files are standard input and standard output
pub record Ends (r : PassEnded) : Type 0 where
  pub input_is : origin_file (input_origin r.input) ≡ pos 0
  pub output_is : output_file r.output ≡ pos 1
  pub status : Status r

-- The status of the program: that of what every program answers, which is 2 for a wrong call; or how the pass ended.
pub data Exits (status : ℤ) : Type 0 where
  answered : AnswersCall program_name usage_text (λ a w. right_call (asked_of (argument_count a) (word_bytes w)) (argument_count a) ≡ false) status → Exits status
  ran : (a : Arguments) (w : Word) (r : PassEnded) → word_argument w ≡ 1 → right_call (asked_of (argument_count a) (word_bytes w)) (argument_count a) ≡ true → Ends r
      → status ≡ r.status → Exits status
