-- What every program does where it is asked for its usage or its version, or called wrongly.
-- Assumes nothing.
use Rattle.std.specs.Prelude.{◌≡◌, ℕ, true, false, List, [], ◌∷◌, ◌++◌, ℤ, pos, ◌==◌, ◌≢◌}
use Rattle.common.specs.Choice.{pick}
use Rattle.program_io.specs.Checksum.{no_bytes, traced}
use Rattle.program_io.specs.Files.{output_file, output_trace, output_failed, output_closed, NoInput, OpenedInput}
use Rattle.program_io.specs.Words.{same_bytes, argument_count, word_argument, word_bytes}
use Rattle.program_io.specs.declared.words.Arguments.{Arguments}
use Rattle.program_io.specs.declared.words.Word.{Word}
use Rattle.program_io.specs.declared.input.Input.{Input}
use Rattle.program_io.specs.declared.output.Output.{Output}
use Rattle.program_io.specs.declared.calls.Asked.{Asked}
use Rattle.program_io.specs.declared.calls.Asked.TheVariants.{Help, Version, Work}
use Rattle.program_io.specs.declared.calls.Answered.{Answered}

-- --help
abbrev pub help_word : List ℕ
help_word = 0x2D ∷ 0x2D ∷ 0x68 ∷ 0x65 ∷ 0x6C ∷ 0x70 ∷ []

-- --version
abbrev pub version_word : List ℕ
version_word = 0x2D ∷ 0x2D ∷ 0x76 ∷ 0x65 ∷ 0x72 ∷ 0x73 ∷ 0x69 ∷ 0x6F ∷ 0x6E ∷ []

-- what so many arguments, with this as the first, ask for
abbrev pub asked_of : ℕ → List ℕ → Asked
asked_of count first = pick (count == 1) (pick (same_bytes first help_word) Help (pick (same_bytes first version_word) Version Work)) Work

-- NAME 1.0.0
abbrev pub version_text : List ℕ → List ℕ
version_text name = name ++ 0x20 ∷ 0x31 ∷ 0x2E ∷ 0x30 ∷ 0x2E ∷ 0x30 ∷ 0x0A ∷ []

-- The end of what was given to an output: 0 exactly where it was closed and nothing failed, else 1.
pub data EndsGiven (o : Output) (r : Answered) : Type 0 where
  whole : r.status ≡ pos 0 → output_file r.output ≡ output_file o → output_failed o ≡ false → output_failed r.output ≡ false
      → output_closed r.output ≡ true → output_trace r.output ≡ output_trace o → EndsGiven o r
  part : r.status ≡ pos 1 → output_file r.output ≡ output_file o → output_failed r.output ≡ true → EndsGiven o r

-- A text on standard output: 0 exactly where it was written whole and the output was closed, else 1.
pub data Gives (text : List ℕ) (r : Answered) : Type 0 where
  given : r.status ≡ pos 0 → output_file r.output ≡ pos 1 → output_failed r.output ≡ false → output_closed r.output ≡ true
      → output_trace r.output ≡ traced no_bytes text → Gives text r
  lost : r.status ≡ pos 1 → output_file r.output ≡ pos 1 → output_failed r.output ≡ true → Gives text r

-- A text on standard error, and 2.
pub record Refuses (text : List ℕ) (r : Answered) : Type 0 where
  pub status : r.status ≡ pos 2
  pub file : output_file r.output ≡ pos 2
  pub told : output_failed r.output ≡ false → output_trace r.output ≡ traced no_bytes text

-- What was asked for is given: the usage, or the name and version; and where the call was for the program's work, and wrong, the usage is told.
pub data Answers (asked : Asked) (name usage : List ℕ) (r : Answered) : Type 0 where
  help_given : asked ≡ Help → Gives usage r → Answers asked name usage r
  version_given : asked ≡ Version → Gives (version_text name) r → Answers asked name usage r
  refused : asked ≡ Work → Refuses usage r → Answers asked name usage r

-- The status of a program that answers so, by the number of its arguments and the first of them, where `Wrong` says which calls for its work are wrong.
pub data AnswersCall (name usage : List ℕ) (Wrong : Arguments → Word → Type 0) (status : ℤ) : Type 0 where
  told : (a : Arguments) (w : Word) (r : Answered) → word_argument w ≡ 1 → (asked_of (argument_count a) (word_bytes w) ≡ Work → Wrong a w)
      → Answers (asked_of (argument_count a) (word_bytes w)) name usage r → status ≡ r.status → AnswersCall name usage Wrong status

-- the file that the first argument names, from its start, before it is read; or none, where there is no argument
pub data NamedInput (count : ℕ) (i : Input) : Type 0 where
  without : count ≡ 0 → NoInput i → NamedInput count i
  named : (count ≢ 0) → OpenedInput 1 0 i → NamedInput count i
