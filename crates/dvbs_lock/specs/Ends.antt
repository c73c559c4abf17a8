-- How dvbs_lock may end, and what its status then says. The files are values of program_io, which its reads and writes alone make.
-- Clauses: document 02, P1, P5, P7 and P8; docs/ACQUISITION.md.
-- Assumes nothing.
use Rattle.std.specs.Prelude.{◌≡◌, Bool, true, false, List, [], ◌∷◌, ◌++◌, ℕ, ◌+◌, ◌≤◌, ◌<◌, eqb, ltb, ℤ, pos, length, Option, Some, None, IfSome}
use Rattle.common.specs.Choice.{pick}
use Rattle.program_io.specs.Checksum.{no_bytes, traced}
use Rattle.program_io.specs.Files.{StandardFiles, input_trace, input_over, input_ended, input_failed, output_file, output_trace, output_failed, output_closed}
use Rattle.program_io.specs.Words.{argument_count, word_argument, word_bytes, same_bytes}
use Rattle.program_io.specs.Calls.{asked_of, AnswersCall}
use Rattle.program_io.specs.declared.input.Input.{Input}
use Rattle.program_io.specs.declared.output.Output.{Output}
use Rattle.program_io.specs.declared.words.Arguments.{Arguments}
use Rattle.program_io.specs.declared.words.Word.{Word}
use Rattle.program_io.specs.declared.calls.Asked.TheVariants.{Work}
use Rattle.program_io.specs.declared.calls.Ended.{Ended}
use Rattle.rate_words.specs.Words.{mode_named}
use Rattle.lock_stream.specs.Progress.{closing_text}
use Rattle.lock_stream.specs.Source.{came_of}
use Rattle.lock_stream.specs.Stream.{StreamReady, LockSteps, LockEnds}
use Rattle.lock_stream.specs.declared.LockStream.{LockStream}
use Rattle.dvbs_lock.specs.Numbers.{numbers_of, rest_bytes}
use Rattle.dvbs_lock.specs.declared.Source.{Source}
use Rattle.dvbs_lock.specs.declared.Source.TheVariants.{Rate, AnyRate, Bits}
use Rattle.dvbs_lock.specs.declared.NumbersTaken.{NumbersTaken}
use Rattle.dvbs_lock.specs.declared.LocksFinished.{LocksFinished}

-- ---- the call

-- dvbs_lock
abbrev pub program_name : List ℕ
program_name = 0x64 ∷ 0x76 ∷ 0x62 ∷ 0x73 ∷ 0x5F ∷ 0x6C ∷ 0x6F ∷ 0x63 ∷ 0x6B ∷ []

-- usage: dvbs_lock RATE < points > packets
abbrev pub usage_text : List ℕ
usage_text = 0x75 ∷ 0x73 ∷ 0x61 ∷ 0x67 ∷ 0x65 ∷ 0x3A ∷ 0x20 ∷ 0x64 ∷ 0x76 ∷ 0x62 ∷ 0x73 ∷ 0x5F ∷ 0x6C ∷ 0x6F ∷ 0x63 ∷ 0x6B ∷ 0x20 ∷ 0x52 ∷ 0x41 ∷ 0x54 ∷ 0x45 ∷ 0x20 ∷ 0x3C ∷ 0x20 ∷ 0x70 ∷ 0x6F ∷ 0x69 ∷ 0x6E ∷ 0x74 ∷ 0x73 ∷ 0x20 ∷ 0x3E ∷ 0x20 ∷ 0x70 ∷ 0x61 ∷ 0x63 ∷ 0x6B ∷ 0x65 ∷ 0x74 ∷ 0x73 ∷ 0x0A ∷ []

-- any
abbrev pub any_word : List ℕ
any_word = 0x61 ∷ 0x6E ∷ 0x79 ∷ []

-- bits
abbrev pub bits_word : List ℕ
bits_word = 0x62 ∷ 0x69 ∷ 0x74 ∷ 0x73 ∷ []

-- a rate, 0 to 4
abbrev pub rate_of : ℕ → ℕ
rate_of mode = pick (ltb mode 5) mode 7

-- What so many arguments with this word ask for: a rate, 5 for any rate, 6 for bits, or 7 where it is none of these.
abbrev pub source_asked : ℕ → List ℕ → ℕ
source_asked count word = pick (eqb count 1) (pick (same_bytes word any_word) 5 (pick (same_bytes word bits_word) 6 (rate_of (mode_named word)))) 7

-- what is asked for, where this is its number
abbrev pub Asks : Option Source → ℕ → Type 0
Asks None n = n ≡ 7
Asks (Some (Rate rate)) n = (rate < 5) × (rate ≡ n)
Asks (Some AnyRate) n = n ≡ 5
Asks (Some Bits) n = n ≡ 6

-- ---- numbers that are taken

-- These numbers were taken, and what they gave and told was written.
pub record Going (bits : Bool) (rate : ℕ) (came : List ℕ) (output errors : Output) (s : LockStream) : Type 0 where
  pub packets : List ℕ
  pub text : List ℕ
  pub steps : LockSteps bits rate came packets text s
  pub written : output_trace output ≡ traced no_bytes packets
  pub told : output_trace errors ≡ traced no_bytes text

-- what stops it: a write that failed
pub data Stops (output errors : Output) : Type 0 where
  output_stopped : output_failed output ≡ true → Stops output errors
  errors_stopped : output_failed errors ≡ true → Stops output errors

-- Numbers are taken, behind those that were taken before.
pub record Takes (output errors : Output) (s : LockStream) (numbers : List ℕ) (r : NumbersTaken) : Type 0 where
  pub output_is : output_file r.output ≡ output_file output
  pub errors_are : output_file r.errors ≡ output_file errors
  pub stops : r.failed ≡ true → Stops r.output r.errors
  pub ready : StreamReady r.stream
  pub counted : r.failed ≡ false → came_of r.stream.source ≡ came_of s.source + length numbers
  pub goes : r.failed ≡ false → (bits : Bool) (rate : ℕ) (came : List ℕ) → Going bits rate came output errors s → Going bits rate (came ++ numbers) r.output r.errors r.stream

-- ---- the end of the numbers

-- What the end gave and told was written behind the rest.
pub record Ending (s : LockStream) (over : Option ℕ) (before-output before-errors output errors : Output) (t : LockStream) : Type 0 where
  pub packets : List ℕ
  pub text : List ℕ
  pub ends : LockEnds s over packets text t
  pub written : output_trace output ≡ traced (output_trace before-output) packets
  pub told : output_trace errors ≡ traced (output_trace before-errors) text

pub record Finishes (output errors : Output) (s : LockStream) (r : LocksFinished) : Type 0 where
  pub output_is : output_file r.output ≡ output_file output
  pub errors_are : output_file r.errors ≡ output_file errors
  pub stops : r.left ≡ None → Stops r.output r.errors
  pub ready : StreamReady r.stream
  pub few : IfSome r.left (λ left. left < 1632)
  pub ending : (left : ℕ) → r.left ≡ Some left → Ending s (Some left) output errors r.output r.errors r.stream

-- ---- all of the input

-- All was read, unless a read failed, and its numbers were taken.
pub record AllRead (bits : Bool) (rate : ℕ) (input : Input) (output errors : Output) (s : LockStream) (rest : ℕ) : Type 0 where
  pub bytes : List ℕ
  pub going : Going bits rate (numbers_of bits bytes) output errors s
  pub ready : StreamReady s
  pub read : input_trace input ≡ traced no_bytes bytes
  pub over : input_over input ≡ true
  pub rest_is : rest ≡ rest_bytes bits (length bytes)

-- more was read than can be counted
pub record TooMuch (bits : Bool) (input : Input) : Type 0 where
  pub bytes : List ℕ
  pub read : input_trace input ≡ traced no_bytes bytes
  pub many : 1152921504606740000 < length (numbers_of bits bytes)

-- All was read and taken. The packets were written, and standard output was closed. The lines of each event and the last lines were told.
pub record Whole (bits : Bool) (rate : ℕ) (r : Ended) (found : Bool) : Type 0 where
  pub bytes : List ℕ
  pub packets : List ℕ
  pub text : List ℕ
  pub last_packets : List ℕ
  pub last_text : List ℕ
  pub left : ℕ
  pub stream : LockStream
  pub last : LockStream
  pub read : input_trace r.input ≡ traced no_bytes bytes
  pub ended : input_ended r.input ≡ true
  pub steps : LockSteps bits rate (numbers_of bits bytes) packets text stream
  pub ends : LockEnds stream (Some left) last_packets last_text last
  pub found_is : found ≡ last.progress.found
  pub written : output_trace r.output ≡ traced no_bytes (packets ++ last_packets)
  pub closed : output_closed r.output ≡ true
  pub unfailed : output_failed r.output ≡ false
  pub told : output_trace r.errors ≡ traced no_bytes (text ++ last_text ++ closing_text last.source.bits last.progress (came_of last.source) left (rest_bytes bits (length bytes)))
  pub told_whole : output_failed r.errors ≡ false

-- what was told of the numbers that came, and no last lines
pub record Cut (bits : Bool) (rate : ℕ) (r : Ended) : Type 0 where
  pub came : List ℕ
  pub stream : LockStream
  pub going : Going bits rate came r.output r.errors stream

pub data Failed (bits : Bool) (rate : ℕ) (r : Ended) : Type 0 where
  input_failed_lem : input_failed r.input ≡ true → Cut bits rate r → Failed bits rate r
  output_failed_lem : output_failed r.output ≡ true → Failed bits rate r
  errors_failed : output_failed r.errors ≡ true → Failed bits rate r
  too_long : TooMuch bits r.input → Failed bits rate r

-- 0 exactly where all was read and written and there was a lock; 1 where there was none, or something failed
abbrev pub status_of : Bool → ℤ
status_of found = pick found (pos 0) (pos 1)

pub data Status (bits : Bool) (rate : ℕ) (r : Ended) : Type 0 where
  whole : (found : Bool) → r.status ≡ status_of found → Whole bits rate r found → Status bits rate r
  part : r.status ≡ pos 1 → Failed bits rate r → Status bits rate r

pub record Ends (bits : Bool) (rate : ℕ) (r : Ended) : Type 0 where
  pub files : StandardFiles r.input r.output r.errors
  pub status : Status bits rate r

-- the status of a run
pub record Runs (bits : Bool) (rate : ℕ) (status : ℤ) : Type 0 where
  pub ended : Ended
  pub ends : Ends bits rate ended
  pub status_is : status ≡ ended.status

-- The status of the program: what every program answers where it is asked for its usage or its version; 2 for a wrong call; or how the run ended.
pub data Exits (status : ℤ) : Type 0 where
  answered : AnswersCall program_name usage_text (λ a w. 7 ≤ source_asked (argument_count a) (word_bytes w)) status → Exits status
  of_symbols : (a : Arguments) (w : Word) (r : Ended) → word_argument w ≡ 1 → asked_of (argument_count a) (word_bytes w) ≡ Work → source_asked (argument_count a) (word_bytes w) < 6
      → Ends false (source_asked (argument_count a) (word_bytes w)) r → status ≡ r.status → Exits status
  of_bits : (a : Arguments) (w : Word) (r : Ended) → word_argument w ≡ 1 → asked_of (argument_count a) (word_bytes w) ≡ Work → source_asked (argument_count a) (word_bytes w) ≡ 6
      → Ends true 5 r → status ≡ r.status → Exits status
