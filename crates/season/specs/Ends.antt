-- How a run of season may end, and what its status then says. The files are values of program_io, which its reads and writes alone make.
-- Clause: document 02, P13.
-- Assumes nothing.
use Rattle.std.specs.Prelude.{◌≡◌, true, false, is_ok, List, [], ◌∷◌, ◌++◌, ◌⊎◌, ℕ, ℤ, pos}
use Rattle.season_totals.specs.Season.{Seasons, season_text}
use Rattle.season_totals.specs.Progress.{CameTo}
use Rattle.program_io.specs.Checksum.{no_bytes, traced}
use Rattle.program_io.specs.Words.{argument_count, word_argument, word_bytes}
use Rattle.program_io.specs.Files.{input_origin, origin_file, input_trace, input_ended, input_failed, input_over, output_file, output_trace, output_failed, output_closed}
use Rattle.program_io.specs.Calls.{asked_of, AnswersCall}
use Rattle.program_io.specs.declared.words.Arguments.{Arguments}
use Rattle.program_io.specs.declared.words.Word.{Word}
use Rattle.program_io.specs.declared.calls.Asked.TheVariants.{Work}
use Rattle.season.specs.declared.SeasonCame.{SeasonCame}
use Rattle.season.specs.declared.SeasonEnded.{SeasonEnded}

-- What was read of standard input, and the season that it came to: up to the end of the input, or to where the season is refused, whatever follows.
pub record Comes (r : SeasonCame) : Type 0 where
  pub input_is : origin_file (input_origin r.input) ≡ pos 0
  pub bytes : List ℕ
  pub read : input_trace r.input ≡ traced no_bytes bytes
  pub is : CameTo bytes r.season
  pub all : (input_over r.input ≡ true) ⊎ (is_ok r.season.answer ≡ false)

-- These bytes were read. With whatever follows them, and nothing does where the input has ended, they are a season with this answer and these totals,
-- and its text was written to standard output, which was closed.
pub record Printed (number : ℕ) (r : SeasonEnded) : Type 0 where
  pub bytes : List ℕ
  pub read : input_trace r.input ≡ traced no_bytes bytes
  pub unfailed : input_failed r.input ≡ false
  pub totals : List ℕ
  pub season : (more : List ℕ) → (input_ended r.input ≡ true → more ≡ []) → Seasons (bytes ++ more) number totals
  pub written : output_trace r.output ≡ traced no_bytes (season_text number totals)
  pub written_whole : output_failed r.output ≡ false
  pub closed : output_closed r.output ≡ true

-- a read failed, and nothing was written; or the output failed
pub data Failed (r : SeasonEnded) : Type 0 where
  input_failed_lem : input_failed r.input ≡ true → output_trace r.output ≡ no_bytes → Failed r
  output_failed_lem : output_failed r.output ≡ true → Failed r

-- 0 exactly where all of the input was read, and is a season
pub data Status (r : SeasonEnded) : Type 0 where
  whole : r.status ≡ pos 0 → input_ended r.input ≡ true → Printed 0 r → Status r
  refused : (number : ℕ) → r.status ≡ pos 1 → (number ≡ 0 → ⊥) → Printed number r → Status r
  part : r.status ≡ pos 1 → Failed r → Status r

pub record Ends (r : SeasonEnded) : Type 0 where
  pub input_is : origin_file (input_origin r.input) ≡ pos 0
  pub output_is : output_file r.output ≡ pos 1
  pub status : Status r

-- ---- the words of the command line

-- usage: season < reports
abbrev pub usage : List ℕ
usage =
    0x75 ∷ 0x73 ∷ 0x61 ∷ 0x67 ∷ 0x65 ∷ 0x3A ∷ 0x20 ∷ 0x73 ∷ 0x65 ∷ 0x61 ∷ 0x73 ∷ 0x6F ∷ 0x6E ∷ 0x20 ∷ 0x3C ∷ 0x20 ∷ 0x72 ∷ 0x65 ∷ 0x70 ∷ 0x6F ∷ 0x72 ∷ 0x74
    ∷ 0x73 ∷ 0x0A ∷ []

-- season
abbrev pub name : List ℕ
name = 0x73 ∷ 0x65 ∷ 0x61 ∷ 0x73 ∷ 0x6F ∷ 0x6E ∷ []

-- the arguments of a call, and its first word
pub record Called (a : Arguments) (first : Word) : Type 0 where
  pub first_is : word_argument first ≡ 1
  pub work : asked_of (argument_count a) (word_bytes first) ≡ Work

-- The status of the program: that of giving the usage or the version, where these are asked for; 2 and the usage on standard error where there are other
-- words; else how the run ended.
pub data Exits (status : ℤ) : Type 0 where
  answered : AnswersCall name usage (λ a first. (argument_count a ≡ 0 → ⊥)) status → Exits status
  ran : (a : Arguments) (first : Word) (r : SeasonEnded) → Called a first → argument_count a ≡ 0 → Ends r → status ≡ r.status → Exits status
