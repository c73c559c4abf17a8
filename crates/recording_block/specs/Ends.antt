-- How recording_block may end, and what its status then says. The files are values of program_io, which only its reads and writes make.
-- Clause: document 02, P5.
-- Assumes nothing.
use Rattle.std.specs.Prelude.{◌≡◌, Bool, true, false, List, [], ◌∷◌, ◌⊎◌, ℕ, ◌*◌, ◌<◌, eqb, ℤ, pos, length, replicate}
use Rattle.common.specs.Choice.{pick}
use Rattle.answer.specs.Number as numbers
use Rattle.answer_lines.specs.Lines.{block_text}
use Rattle.program_io.specs.Checksum.{no_bytes, traced}
use Rattle.program_io.specs.Calls.{asked_of, AnswersCall}
use Rattle.program_io.specs.Files.{input_origin, origin_argument, origin_start, input_trace, input_ended, input_failed, output_file, output_trace, output_failed, output_closed}
use Rattle.program_io.specs.Words.{argument_count, word_argument, word_bytes, word_is_option, parsed}
use Rattle.program_io.specs.declared.calls.Answered.{Answered}
use Rattle.program_io.specs.declared.calls.Asked.{Asked}
use Rattle.program_io.specs.declared.calls.Asked.TheVariants.{Help, Version, Work}
use Rattle.program_io.specs.declared.input.Input.{Input}
use Rattle.program_io.specs.declared.output.Output.{Output}
use Rattle.program_io.specs.declared.words.Arguments.{Arguments}
use Rattle.program_io.specs.declared.words.Word.{Word}
use Rattle.program_io.specs.declared.words.Parsed.{Parsed}
use Rattle.program_io.specs.declared.words.Parsed.TheVariants.{Number, Large, Malformed}
use Rattle.reed_solomon.specs.Decode.{Decoded, changed_by}
use Rattle.reed_solomon.specs.declared.Changed.{Changed}
use Rattle.recording.specs.Block.{block_count, GivesBlock}
use Rattle.program_io.specs.declared.calls.Ended.{Ended}
use Rattle.recording_block.specs.declared.BlockRequest.{BlockRequest}
use Rattle.recording_block.specs.declared.BlockRequest.TheVariants.{Block, Past, Other}

-- recording_block
abbrev pub program_name : List ℕ
program_name =
    0x72 ∷ 0x65 ∷ 0x63 ∷ 0x6F ∷ 0x72 ∷ 0x64 ∷ 0x69 ∷ 0x6E ∷ 0x67 ∷ 0x5F ∷ 0x62 ∷ 0x6C ∷ 0x6F ∷ 0x63 ∷ 0x6B ∷ []

-- usage: recording_block FILE P > block, P the number of a block, the first being 0
abbrev pub usage_text : List ℕ
usage_text =
    0x75 ∷ 0x73 ∷ 0x61 ∷ 0x67 ∷ 0x65 ∷ 0x3A ∷ 0x20 ∷ 0x72 ∷ 0x65 ∷ 0x63 ∷ 0x6F ∷ 0x72 ∷ 0x64 ∷ 0x69 ∷ 0x6E ∷ 0x67 ∷ 0x5F ∷ 0x62 ∷ 0x6C ∷ 0x6F ∷ 0x63
    ∷ 0x6B ∷ 0x20 ∷ 0x46 ∷ 0x49 ∷ 0x4C ∷ 0x45 ∷ 0x20 ∷ 0x50 ∷ 0x20 ∷ 0x3E ∷ 0x20 ∷ 0x62 ∷ 0x6C ∷ 0x6F ∷ 0x63 ∷ 0x6B ∷ 0x2C ∷ 0x20 ∷ 0x50 ∷ 0x20 ∷
    0x74 ∷ 0x68 ∷ 0x65 ∷ 0x20 ∷ 0x6E ∷ 0x75 ∷ 0x6D ∷ 0x62 ∷ 0x65 ∷ 0x72 ∷ 0x20 ∷ 0x6F ∷ 0x66 ∷ 0x20 ∷ 0x61 ∷ 0x20 ∷ 0x62 ∷ 0x6C ∷ 0x6F ∷ 0x63 ∷ 0x6B
    ∷ 0x2C ∷ 0x20 ∷ 0x74 ∷ 0x68 ∷ 0x65 ∷ 0x20 ∷ 0x66 ∷ 0x69 ∷ 0x72 ∷ 0x73 ∷ 0x74 ∷ 0x20 ∷ 0x62 ∷ 0x65 ∷ 0x69 ∷ 0x6E ∷ 0x67 ∷ 0x20 ∷ 0x30 ∷ 0x0A ∷ []

-- what a word asks for: block p is corrected at call p + 12 of a receiver, which takes no more than 4,294,967,295
abbrev pub as_block : Parsed → BlockRequest
as_block (Number p) = Block p
as_block Large = Past
as_block Malformed = Other

abbrev pub block_in : List ℕ → BlockRequest
block_in word = as_block (parsed word 4294967283)

-- what a call asks for: two arguments, of which the first names a file and the second a block; anything else is for what every program answers
abbrev pub request_of : Asked → ℕ → Bool → List ℕ → BlockRequest
request_of Help count option word = Other
request_of Version count option word = Other
request_of Work count option word = pick (eqb count 2) (pick option Other (block_in word)) Other

-- Of the file that the first argument names, from byte 204 p on, twelve blocks were read, or all up to its end. This is what asking them for
-- block 0 answers, and where that is 0, the block was written, and else nothing.
pub record BlockAnswered (p number : ℕ) (changed : Changed) (input : Input) (output : Output) : Type 0 where
  pub file : origin_argument (input_origin input) ≡ 1
  pub start : origin_start (input_origin input) ≡ 204 * p
  pub part : List ℕ
  pub read : input_trace input ≡ traced no_bytes part
  pub all : (length part ≡ 2448) ⊎ (input_ended input ≡ true)
  pub decoded : Decoded
  pub block : List ℕ
  pub gives : GivesBlock part (block_count part) 0 (replicate 204 0) decoded block
  pub number_is : number ≡ numbers.answered decoded
  pub changed_is : changed ≡ changed_by decoded
  pub unfailed : output_failed output ≡ false
  pub written : output_trace output ≡ traced no_bytes (pick (eqb number 0) block [])

-- standard output was closed, and the line of the answer was told whole
pub record Told (number : ℕ) (changed : Changed) (r : Ended) : Type 0 where
  pub closed : output_closed r.output ≡ true
  pub unfailed : output_failed r.errors ≡ false
  pub text : output_trace r.errors ≡ traced no_bytes (block_text number changed.bytes changed.bits)

-- what failed; then the line was not told
pub data Failed (r : Ended) : Type 0 where
  input_failed_lem : input_failed r.input ≡ true → output_trace r.errors ≡ no_bytes → Failed r
  output_failed_lem : output_failed r.output ≡ true → output_trace r.errors ≡ no_bytes → Failed r
  errors_failed : output_failed r.errors ≡ true → Failed r

-- 0 exactly where the block was given
pub data Status (p : ℕ) (r : Ended) : Type 0 where
  given : (changed : Changed) → r.status ≡ pos 0 → BlockAnswered p 0 changed r.input r.output → Told 0 changed r → Status p r
  none : (number : ℕ) (changed : Changed) → r.status ≡ pos 1 → 0 < number → BlockAnswered p number changed r.input r.output → Told number changed r → Status p r
  part : r.status ≡ pos 1 → Failed r → Status p r

pub record Ends (p : ℕ) (r : Ended) : Type 0 where
  pub output_is : output_file r.output ≡ pos 1
  pub errors_are : output_file r.errors ≡ pos 2
  pub status : Status p r

-- a block past every recording: answer 16
pub record Beyond (r : Answered) : Type 0 where
  pub status : r.status ≡ pos 1
  pub file : output_file r.output ≡ pos 2
  pub text : output_failed r.output ≡ false → output_trace r.output ≡ traced no_bytes (block_text 16 0 0)

-- The status of the program, by what the call asks for.
pub data Exits (status : ℤ) : Type 0 where
  answered : AnswersCall program_name usage_text (λ a w. (v : Word) × (word_argument v ≡ 2) × (request_of (asked_of (argument_count a) (word_bytes w)) (argument_count a) (word_is_option w) (word_bytes v) ≡ Other)) status → Exits status
  beyond : (a : Arguments) (w v : Word) (r : Answered) → word_argument w ≡ 1 → word_argument v ≡ 2
      → request_of (asked_of (argument_count a) (word_bytes w)) (argument_count a) (word_is_option w) (word_bytes v) ≡ Past → Beyond r → status ≡ r.status → Exits status
  ran : (a : Arguments) (w v : Word) (p : ℕ) (r : Ended) → word_argument w ≡ 1 → word_argument v ≡ 2
      → request_of (asked_of (argument_count a) (word_bytes w)) (argument_count a) (word_is_option w) (word_bytes v) ≡ Block p → Ends p r → status ≡ r.status → Exits status
