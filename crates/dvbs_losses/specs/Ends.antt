-- How dvbs_losses may end, and what its status then says. The files are values of program_io, which only its reads and writes make.
-- Clauses: document 02, P5 and P11.
-- Assumes nothing.
use Rattle.std.specs.Prelude.{◌≡◌, Bool, true, false, not, List, [], ◌∷◌, ◌++◌, ◌⊎◌, ℕ, ◌*◌, ◌%◌, ◌≤◌, ◌<◌, ltb, ℤ, pos, length}
use Rattle.common.specs.Choice.{pick}
use Rattle.common.specs.Lists.{padded, largest}
use Rattle.program_io.specs.Checksum.{no_bytes, traced}
use Rattle.program_io.specs.Calls.{asked_of, NamedInput, AnswersCall}
use Rattle.program_io.specs.Files.{input_origin, origin_file, input_trace, input_over, input_ended, input_failed, output_file, output_trace, output_failed, output_closed, Writes}
use Rattle.program_io.specs.Words.{argument_count, word_argument, word_bytes, word_is_option}
use Rattle.program_io.specs.declared.calls.Asked.TheVariants.{Work}
use Rattle.program_io.specs.declared.calls.MarkedEnded.{MarkedEnded}
use Rattle.program_io.specs.declared.input.Input.{Input}
use Rattle.program_io.specs.declared.output.Output.{Output}
use Rattle.program_io.specs.declared.words.Arguments.{Arguments}
use Rattle.program_io.specs.declared.words.Word.{Word}
use Rattle.losses.specs.History.{LossesCame, LossList}
use Rattle.losses.specs.declared.LossStream.{LossStream}
use Rattle.answer_lines.specs.Lines.{list_text}
use Rattle.dvbs_losses.specs.Text.{rest_text, bad_mark_text}
use Rattle.dvbs_losses.specs.declared.Turned.{Turned}

-- dvbs_losses
abbrev pub program_name : List ℕ
program_name = 0x64 ∷ 0x76 ∷ 0x62 ∷ 0x73 ∷ 0x5F ∷ 0x6C ∷ 0x6F ∷ 0x73 ∷ 0x73 ∷ 0x65 ∷ 0x73 ∷ []

-- usage: dvbs_losses [MARKS] < blocks
abbrev pub usage_text : List ℕ
usage_text = 0x75 ∷ 0x73 ∷ 0x61 ∷ 0x67 ∷ 0x65 ∷ 0x3A ∷ 0x20 ∷ 0x64 ∷ 0x76 ∷ 0x62 ∷ 0x73 ∷ 0x5F ∷ 0x6C ∷ 0x6F ∷ 0x73 ∷ 0x73 ∷ 0x65 ∷ 0x73 ∷ 0x20 ∷ 0x5B ∷ 0x4D ∷ 0x41 ∷ 0x52 ∷ 0x4B ∷ 0x53 ∷ 0x5D ∷ 0x20 ∷ 0x3C ∷ 0x20 ∷ 0x62 ∷ 0x6C ∷ 0x6F ∷ 0x63 ∷ 0x6B ∷ 0x73 ∷ 0x0A ∷ []

-- no argument, or one that may name a file
abbrev pub right_call : ℕ → Bool → Bool
right_call count option = pick (ltb 1 count) false (not option)

-- These bytes came, and the lines that they decide were written. A mark was read for each, unless that file is over; where none came it is 0.
pub record Going (bytes : List ℕ) (marks : Input) (output : Output) (i : LossStream) : Type 0 where
  pub own : List ℕ
  pub lines : List ℕ
  pub came : LossesCame bytes (padded (length bytes) own) lines i
  pub marks_read : input_trace marks ≡ traced no_bytes own
  pub marks_fit_lem : length own ≤ length bytes
  pub marks_all : (length own ≡ length bytes) ⊎ (input_over marks ≡ true)
  pub written : output_trace output ≡ traced no_bytes (list_text lines)

-- a mark above 1 was read
pub record BadMark (marks : Input) : Type 0 where
  pub own : List ℕ
  pub read : input_trace marks ≡ traced no_bytes own
  pub bad : 1 < largest own

-- What stopped a turn: a read of the marks that failed, a write, or a mark that is none. But for the write, nothing was written; but for the mark, nothing
-- was told.
pub data Stops (before untold : Output) (marks : Input) (output errors : Output) : Type 0 where
  marks_failed : input_failed marks ≡ true → output ≡ before → errors ≡ untold → Stops before untold marks output errors
  output_failed_lem : output_failed output ≡ true → errors ≡ untold → Stops before untold marks output errors
  mark_refused : BadMark marks → output ≡ before → Writes untold bad_mark_text errors → Stops before untold marks output errors

-- a block, after what came before it
pub record Turns (marks : Input) (output errors : Output) (i : LossStream) (block : List ℕ) (r : Turned) : Type 0 where
  pub marks_are : input_origin r.marks ≡ input_origin marks
  pub output_is : output_file r.output ≡ output_file output
  pub errors_are : output_file r.errors ≡ output_file errors
  pub untold : r.failed ≡ false → r.errors ≡ errors
  pub goes : (bytes : List ℕ) → Going bytes marks output i → r.failed ≡ false → Going (bytes ++ block) r.marks r.output r.stream
  pub stops : (bytes : List ℕ) → Going bytes marks output i → r.failed ≡ true → Stops output errors r.marks r.output r.errors

-- All was read, up to the end of the input or the last block that can be counted, unless a read failed; the bytes after the last whole block were read
-- too, and not taken.
pub record AllRead (input marks : Input) (output : Output) (i : LossStream) (rest : ℕ) : Type 0 where
  pub bytes : List ℕ
  pub after_it : List ℕ
  pub going : Going bytes marks output i
  pub read : input_trace input ≡ traced no_bytes (bytes ++ after_it)
  pub rest_is : length after_it ≡ rest
  pub few : rest < 204
  pub whole : length bytes % 204 ≡ 0
  pub ended : input_failed input ≡ false → (input_ended input ≡ true) ⊎ (length bytes ≡ 204 * 4294967295)

-- status 0: all was read; the list of its whole blocks was written, with the number of bytes after them as its last line, and the output was closed;
-- nothing was told
pub record Whole (r : MarkedEnded) : Type 0 where
  pub bytes : List ℕ
  pub after_it : List ℕ
  pub own : List ℕ
  pub lines : List ℕ
  pub whole : length bytes % 204 ≡ 0
  pub few : length after_it < 204
  pub listed : LossList bytes (padded (length bytes) own) lines
  pub read : input_trace r.input ≡ traced no_bytes (bytes ++ after_it)
  pub ended : (input_ended r.input ≡ true) ⊎ (length bytes ≡ 204 * 4294967295)
  pub marks_read : input_trace r.marks ≡ traced no_bytes own
  pub marks_all : (length own ≡ length bytes) ⊎ (input_over r.marks ≡ true)
  pub marks_unfailed : input_failed r.marks ≡ false
  pub written : output_trace r.output ≡ traced no_bytes (list_text lines ++ rest_text (length after_it))
  pub unfailed : output_failed r.output ≡ false
  pub closed : output_closed r.output ≡ true
  pub untold : output_trace r.errors ≡ no_bytes

-- lines were written, and no last line
pub record Cut (output : Output) : Type 0 where
  pub lines : List ℕ
  pub written : output_trace output ≡ traced no_bytes (list_text lines)

-- status 1: what failed, which program_io says, and the program told nothing; or a mark above 1, which it told unless standard error failed. Where it was
-- not the output that failed, the list has no last line.
pub data Failed (r : MarkedEnded) : Type 0 where
  input_failed_lem : input_failed r.input ≡ true → Cut r.output → output_trace r.errors ≡ no_bytes → Failed r
  marks_failed : input_failed r.marks ≡ true → Cut r.output → output_trace r.errors ≡ no_bytes → Failed r
  mark_refused : BadMark r.marks → Cut r.output → (output_failed r.errors ≡ false → output_trace r.errors ≡ traced no_bytes bad_mark_text) → Failed r
  output_failed_lem : output_failed r.output ≡ true → output_trace r.errors ≡ no_bytes → Failed r

pub data Status (r : MarkedEnded) : Type 0 where
  whole : r.status ≡ pos 0 → Whole r → Status r
  part : r.status ≡ pos 1 → Failed r → Status r

-- the files are standard input, the marks as they were made, standard output and standard error
pub record Ends (start : Input) (r : MarkedEnded) : Type 0 where
  pub input_is : origin_file (input_origin r.input) ≡ pos 0
  pub marks_are : input_origin r.marks ≡ input_origin start
  pub output_is : output_file r.output ≡ pos 1
  pub errors_are : output_file r.errors ≡ pos 2
  pub status : Status r

-- The status of the program: what every program answers where it is asked for its usage or its version; 2 for a wrong call; or how the list ended.
pub data Exits (status : ℤ) : Type 0 where
  answered : AnswersCall program_name usage_text (λ a w. right_call (argument_count a) (word_is_option w) ≡ false) status → Exits status
  ran : (a : Arguments) (w : Word) (marks : Input) (r : MarkedEnded) → word_argument w ≡ 1 → asked_of (argument_count a) (word_bytes w) ≡ Work
      → right_call (argument_count a) (word_is_option w) ≡ true → NamedInput (argument_count a) marks → Ends marks r → status ≡ r.status → Exits status
