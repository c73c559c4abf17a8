-- How a run of report_form may end, and what its status then says. The files are values of program_io, which its reads and writes alone make.
-- Clause: document 02, P7.
-- Assumes nothing.
use Rattle.std.specs.Prelude.{◌≡◌, true, false, List, [], ◌∷◌, ◌++◌, ℕ, ◌<◌, eqb, ℤ, pos, replicate}
use Rattle.common.specs.Choice.{pick}
use Rattle.report_lines.specs.Line.{line_text}
use Rattle.report.specs.Move.{Moves, MovedText}
use Rattle.program_io.specs.Checksum.{no_bytes, traced}
use Rattle.program_io.specs.Words.{argument_count, word_argument, word_bytes, same_bytes}
use Rattle.program_io.specs.Files.{input_origin, origin_file, input_trace, input_ended, input_failed, output_file, output_trace, output_failed, output_closed}
use Rattle.program_io.specs.Calls.{asked_of, AnswersCall}
use Rattle.program_io.specs.declared.words.Arguments.{Arguments}
use Rattle.program_io.specs.declared.words.Word.{Word}
use Rattle.program_io.specs.declared.calls.Asked.TheVariants.{Work}
use Rattle.program_io.specs.declared.calls.Ended.{Ended}

-- the output that a report is moved to
abbrev pub lent : List ℕ
lent = replicate 320 0

-- Status 0: all of the input was read, it is a report that may be moved to the form, and its text there was written to standard output, which was closed.
pub record Whole (form : ℕ) (r : Ended) : Type 0 where
  pub bytes : List ℕ
  pub read : input_trace r.input ≡ traced no_bytes bytes
  pub ended : input_ended r.input ≡ true
  pub text : List ℕ
  pub moved : MovedText bytes form text
  pub written : output_trace r.output ≡ traced no_bytes text
  pub written_whole : output_failed r.output ≡ false
  pub closed : output_closed r.output ≡ true

-- These bytes were read. With whatever follows them, and nothing does where the input has ended, they are refused with this number. It was told on
-- standard error, and nothing was written.
pub record ReportRefused (form number : ℕ) (r : Ended) : Type 0 where
  pub bytes : List ℕ
  pub read : input_trace r.input ≡ traced no_bytes bytes
  pub unfailed : input_failed r.input ≡ false
  pub refused : (more : List ℕ) → (input_ended r.input ≡ true → more ≡ []) → Moves (bytes ++ more) form lent number 0 lent
  pub some : number ≡ 0 → ⊥
  pub told : output_failed r.errors ≡ false → output_trace r.errors ≡ traced no_bytes (line_text [] number)
  pub unwritten : output_trace r.output ≡ no_bytes

-- a read failed, and nothing was written; or the output failed; no number is told
pub data Failed (r : Ended) : Type 0 where
  input_failed_lem : input_failed r.input ≡ true → output_trace r.output ≡ no_bytes → output_trace r.errors ≡ no_bytes → Failed r
  output_failed_lem : output_failed r.output ≡ true → output_trace r.errors ≡ no_bytes → Failed r

pub data Status (form : ℕ) (r : Ended) : Type 0 where
  whole : r.status ≡ pos 0 → Whole form r → Status form r
  refused : (number : ℕ) → r.status ≡ pos 1 → ReportRefused form number r → Status form r
  part : r.status ≡ pos 1 → Failed r → Status form r

pub record Ends (form : ℕ) (r : Ended) : Type 0 where
  pub input_is : origin_file (input_origin r.input) ≡ pos 0
  pub output_is : output_file r.output ≡ pos 1
  pub errors_is : output_file r.errors ≡ pos 2
  pub status : Status form r

-- ---- the words of the command line

-- form 1 or 2, for one word that is this digit, and 0, which is none, for any other words
abbrev pub form_of : ℕ → List ℕ → ℕ
form_of count first = pick (eqb count 1) (pick (same_bytes first (0x31 ∷ [])) 1 (pick (same_bytes first (0x32 ∷ [])) 2 0)) 0

-- usage: report_form FORM < report > report, FORM 1 or 2
abbrev pub usage : List ℕ
usage =
    0x75 ∷ 0x73 ∷ 0x61 ∷ 0x67 ∷ 0x65 ∷ 0x3A ∷ 0x20 ∷ 0x72 ∷ 0x65 ∷ 0x70 ∷ 0x6F ∷ 0x72 ∷ 0x74 ∷ 0x5F ∷ 0x66 ∷ 0x6F ∷ 0x72 ∷ 0x6D ∷ 0x20 ∷ 0x46 ∷ 0x4F ∷ 0x52
    ∷ 0x4D ∷ 0x20 ∷ 0x3C ∷ 0x20 ∷ 0x72 ∷ 0x65 ∷ 0x70 ∷ 0x6F ∷ 0x72 ∷ 0x74 ∷ 0x20 ∷ 0x3E ∷ 0x20 ∷ 0x72 ∷ 0x65 ∷ 0x70 ∷ 0x6F ∷ 0x72 ∷ 0x74 ∷ 0x2C ∷ 0x20 ∷ 0x46
    ∷ 0x4F ∷ 0x52 ∷ 0x4D ∷ 0x20 ∷ 0x31 ∷ 0x20 ∷ 0x6F ∷ 0x72 ∷ 0x20 ∷ 0x32 ∷ 0x0A ∷ []

-- report_form
abbrev pub name : List ℕ
name = 0x72 ∷ 0x65 ∷ 0x70 ∷ 0x6F ∷ 0x72 ∷ 0x74 ∷ 0x5F ∷ 0x66 ∷ 0x6F ∷ 0x72 ∷ 0x6D ∷ []

-- the arguments of a call, and its first word
pub record Called (a : Arguments) (first : Word) : Type 0 where
  pub first_is : word_argument first ≡ 1
  pub work : asked_of (argument_count a) (word_bytes first) ≡ Work

-- The status of the program: that of giving the usage or the version, where these are asked for; 2 and the usage on standard error where the words ask for
-- no form; else how the run ended.
pub data Exits (status : ℤ) : Type 0 where
  answered : AnswersCall name usage (λ a first. form_of (argument_count a) (word_bytes first) ≡ 0) status → Exits status
  ran : (a : Arguments) (first : Word) (r : Ended) → Called a first → 0 < form_of (argument_count a) (word_bytes first) → Ends (form_of (argument_count a) (word_bytes first)) r → status ≡ r.status → Exits status
