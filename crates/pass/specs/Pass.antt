-- A pass over an input of received bytes and one of marks, and how it may end.
-- Clauses: document 01, "Receiver"; document 02, P11.
-- Assumes nothing.
use Rattle.std.specs.Prelude.{◌≡◌, Bool, true, false, List, [], ◌∷◌, ◌⊎◌, ℕ, suc, ◌/◌, ◌≤◌, ◌<◌, ltb, length, take}
use Rattle.common.specs.Choice.{pick}
use Rattle.common.specs.Lists.{padded}
use Rattle.program_io.specs.Checksum.{no_bytes, traced}
use Rattle.program_io.specs.Files.{input_origin, input_trace, input_last, input_ended, input_failed, input_over, output_file, output_trace, output_failed, Writes}
use Rattle.program_io.specs.declared.input.Input.{Input}
use Rattle.program_io.specs.declared.input.Filled.{Filled}
use Rattle.program_io.specs.declared.output.Output.{Output}
use Rattle.receiver_stream.specs.Feed.{capacity_of}
use Rattle.receiver_stream.specs.History.{Reception}
use Rattle.receiver_stream.specs.declared.ReceiverStream.{ReceiverStream}
use Rattle.pass.specs.declared.Ending.{Ending}
use Rattle.pass.specs.declared.Ending.TheVariants.{Whole, Failed, Refused}
use Rattle.pass.specs.declared.Pass.{Pass}

-- the place of the first mark above 1, or how many marks there are
abbrev pub first_above : List ℕ → ℕ
first_above [] = 0
first_above (m ∷ ms) = pick (ltb 1 m) 0 (suc (first_above ms))

-- The marks of so many bytes. Those that came stand at the front of the buffer, and 0 for each byte for which none came. Fewer came only where that
-- input is over.
pub record MarksRead (i : Input) (n : ℕ) (buffer : List ℕ) (r : Filled) : Type 0 where
  pub origin : input_origin r.input ≡ input_origin i
  pub trace : input_trace r.input ≡ traced (input_trace i) (take r.length buffer)
  pub within : r.length ≤ n
  pub marks : take n buffer ≡ padded n (take r.length buffer)
  pub over : input_over i ≡ true → (r.length ≡ 0) × (input_last r.input ≡ input_last i)
  pub short : r.length < n → input_over r.input ≡ true

-- packets are written where they are wanted
pub data HandsOn (o : Output) (wanted : Bool) (packets : List ℕ) (r : Output) : Type 0 where
  written : wanted ≡ true → Writes o packets r → HandsOn o wanted packets r
  kept : wanted ≡ false → r ≡ o → HandsOn o wanted packets r

abbrev pub ending_of : Bool → Ending
ending_of failed = pick failed Failed Whole

-- All these bytes were read, and these marks, of which no read failed: one for each byte, unless their input is over; where none came it is 0, and so it is of
-- every byte where that input was over from the start. This is what they come to, and the packets were written where they are wanted.
pub record PassCame (wanted : Bool) (start input marks : Input) (output : Output) (stream : ReceiverStream) : Type 0 where
  pub bytes : List ℕ
  pub came : List ℕ
  pub packets : List ℕ
  pub reception : Reception bytes (padded (length bytes) came) packets stream
  pub read : input_trace input ≡ traced no_bytes bytes
  pub marks_read : input_trace marks ≡ traced no_bytes came
  pub marks_fit_lem : length came ≤ length bytes
  pub marks_all : (length came ≡ length bytes) ⊎ (input_over marks ≡ true)
  pub marks_unfailed : input_failed marks ≡ false
  pub unmarked : input_over start ≡ true → (came ≡ []) × (input_last marks ≡ input_last start)
  pub unfailed : output_failed output ≡ false
  pub written : output_trace output ≡ traced no_bytes (pick wanted packets [])

-- a mark above 1 came, the first of them in this block, counted from 0
pub record BadMark (marks : Input) (block : ℕ) : Type 0 where
  pub came : List ℕ
  pub marks_read : input_trace marks ≡ traced no_bytes came
  pub above : first_above came < length came
  pub block_is : block ≡ first_above came / 204

pub data Ends (wanted : Bool) (start : Input) (r : Pass) : Type 0 where
  whole : r.ending ≡ Whole → PassCame wanted start r.input r.marks r.output r.stream → (input_ended r.input ≡ true) ⊎ (capacity_of r.stream ≡ 0) → Ends wanted start r
  input_failed_lem : r.ending ≡ Failed → input_failed r.input ≡ true → Ends wanted start r
  marks_failed : r.ending ≡ Failed → input_failed r.marks ≡ true → (input_ended start ≡ true → ⊥) → Ends wanted start r
  output_failed_lem : r.ending ≡ Failed → output_failed r.output ≡ true → wanted ≡ true → Ends wanted start r
  refused : (block : ℕ) → r.ending ≡ Refused block → BadMark r.marks block → (input_ended start ≡ true → ⊥) → Ends wanted start r

-- The inputs and the output stay what they are; where no packets are wanted, nothing is done with the output. Whole is all of the input up to its end, or
-- to the last block that can be counted.
pub record Passes (input marks : Input) (output : Output) (wanted : Bool) (r : Pass) : Type 0 where
  pub input_origin_lem : input_origin r.input ≡ input_origin input
  pub marks_origin : input_origin r.marks ≡ input_origin marks
  pub file : output_file r.output ≡ output_file output
  pub unwanted : wanted ≡ false → r.output ≡ output
  pub ends : Ends wanted marks r
