-- What the reads and the writes of a program leave in the values that stand for its files. Their fields are private: a value is a fresh one, or
-- what a read or a write of this crate left.
-- Assumes nothing.
use Rattle.std.specs.Prelude.{◌≡◌, ℕ, ◌+◌, ◌-◌, ◌<◌, ◌≤◌, Bool, true, false, List, length, take, drop, ℤ, pos, int_le, int_lt}
use Rattle.common.specs.Choice.{pick}
use Rattle.io.specs.Counts.{clamp_len}
use Rattle.program_io.specs.Moving.{Moved}
use Rattle.program_io.specs.Checksum.{no_bytes, traced}
use Rattle.program_io.specs.declared.trace.Trace.{Trace}
use Rattle.program_io.specs.declared.input.Origin.{Origin}
use Rattle.program_io.specs.declared.input.Input.{Input}
use Rattle.program_io.specs.declared.input.Filled.{Filled}
use Rattle.program_io.specs.declared.input.Piece.{Piece}
use Rattle.program_io.specs.declared.output.Output.{Output}
use Rattle.program_io.specs.declared.output.Put.{Put}

-- where an input comes from: its descriptor, which argument named it, 0 for none, and the place where reading began
abbrev pub input_origin : Input → Origin
input_origin i = i.origin

abbrev pub origin_file : Origin → ℤ
origin_file o = o.fd

abbrev pub origin_argument : Origin → ℕ
origin_argument o = o.argument

abbrev pub origin_start : Origin → ℕ
origin_start o = o.start

-- the checksum of all bytes that were read
abbrev pub input_trace : Input → Trace
input_trace i = i.trace

-- what the last read answered
abbrev pub input_last : Input → ℤ
input_last i = i.last

-- A read of a buffer that is not empty answers below 0 where it fails, and 0 at the end of the file. Nothing is read after either.
abbrev pub input_failed : Input → Bool
input_failed i = int_lt (input_last i) (pos 0)

abbrev pub input_over : Input → Bool
input_over i = int_le (input_last i) (pos 0)

abbrev pub input_ended : Input → Bool
input_ended i = pick (input_failed i) false (input_over i)

-- the descriptor, the checksum of all bytes that were written, whether a write or the closing failed, and whether it is closed
abbrev pub output_file : Output → ℤ
output_file o = o.fd

abbrev pub output_trace : Output → Trace
output_trace o = o.trace

abbrev pub output_failed : Output → Bool
output_failed o = o.failed

abbrev pub output_closed : Output → Bool
output_closed o = o.closed

-- standard input before the first read
pub record StandardInput (i : Input) : Type 0 where
  pub file : origin_file (input_origin i) ≡ pos 0
  pub argument : origin_argument (input_origin i) ≡ 0
  pub start : origin_start (input_origin i) ≡ 0
  pub trace : input_trace i ≡ no_bytes
  pub going : input_over i ≡ false

-- an input that has ended from the start
pub record NoInput (i : Input) : Type 0 where
  pub argument : origin_argument (input_origin i) ≡ 0
  pub start : origin_start (input_origin i) ≡ 0
  pub trace : input_trace i ≡ no_bytes
  pub ended : input_ended i ≡ true

-- a file that an argument names, before the first read; it is no standard stream, and has failed exactly where it has no descriptor
pub record OpenedInput (argument start : ℕ) (i : Input) : Type 0 where
  pub argument_is : origin_argument (input_origin i) ≡ argument
  pub start_is : origin_start (input_origin i) ≡ start
  pub trace : input_trace i ≡ no_bytes
  pub going : input_ended i ≡ false
  pub failed : input_failed i ≡ int_lt (origin_file (input_origin i)) (pos 0)
  pub other : input_failed i ≡ false → int_lt (origin_file (input_origin i)) (pos 3) ≡ false

-- before the first write, to a descriptor
pub record FreshOutput (fd : ℤ) (o : Output) : Type 0 where
  pub file : output_file o ≡ fd
  pub trace : output_trace o ≡ no_bytes
  pub failed : output_failed o ≡ false
  pub closed : output_closed o ≡ false

-- One read into a part of a buffer: what it answered is kept, the length is what it answered, and what stands before the part is as it was.
pub record ReadsOnce (from end : ℕ) (before buffer : List ℕ) (r : Piece) : Type 0 where
  pub moved : Moved (end - from) r.got
  pub length_is : r.length ≡ clamp_len r.got (end - from)
  pub front : take from buffer ≡ take from before

-- The same of an input. Nothing is read where it is over, or the part is empty. The length is what the read answered, and the checksum goes on over
-- the bytes that came.
pub record ReadsInto (i : Input) (from end : ℕ) (before buffer : List ℕ) (r : Filled) : Type 0 where
  pub origin : input_origin r.input ≡ input_origin i
  pub trace : input_trace r.input ≡ traced (input_trace i) (take r.length (drop from buffer))
  pub within : from + r.length ≤ end
  pub front : take from buffer ≡ take from before
  pub over : input_over i ≡ true → (r.length ≡ 0) × (input_last r.input ≡ input_last i)
  pub none : from ≡ end → (r.length ≡ 0) × (input_last r.input ≡ input_last i)
  pub answer : input_over i ≡ false → from < end → (Moved (end - from) (input_last r.input)) × (r.length ≡ clamp_len (input_last r.input) (end - from))

-- One read at the front of a buffer. Where none came of a read that asked for some, the input is over; where some came, it is not.
pub record Reads (i : Input) (most : ℕ) (buffer : List ℕ) (r : Filled) : Type 0 where
  pub origin : input_origin r.input ≡ input_origin i
  pub trace : input_trace r.input ≡ traced (input_trace i) (take r.length buffer)
  pub within : r.length ≤ most
  pub over : input_over i ≡ true → (r.length ≡ 0) × (input_last r.input ≡ input_last i)
  pub none : r.length ≡ 0 → 0 < most → input_over r.input ≡ true
  pub some : 0 < r.length → input_over r.input ≡ false

-- Reads until the buffer is full. The bytes that came stand at its front. Fewer came only where the input is over.
pub record Fills (i : Input) (buffer : List ℕ) (r : Filled) : Type 0 where
  pub origin : input_origin r.input ≡ input_origin i
  pub trace : input_trace r.input ≡ traced (input_trace i) (take r.length buffer)
  pub within : r.length ≤ length buffer
  pub over : input_over i ≡ true → (r.length ≡ 0) × (input_last r.input ≡ input_last i)
  pub short : r.length < length buffer → input_over r.input ≡ true
  pub full : input_over i ≡ false → r.length ≡ length buffer → input_over r.input ≡ false

-- the same output as one that failed
pub record Loses (o r : Output) : Type 0 where
  pub file : output_file r ≡ output_file o
  pub trace : output_trace r ≡ output_trace o
  pub failed : output_failed r ≡ true
  pub closed : output_closed r ≡ output_closed o

-- After a write of the bytes from a place on that was answered so: it failed exactly where that is below 0, and else it took as many bytes, over which the
-- checksum goes on.
pub record WrittenBy (o : Output) (bytes : List ℕ) (from : ℕ) (got : ℤ) (r : Put) : Type 0 where
  pub file : output_file r.output ≡ output_file o
  pub failed : output_failed r.output ≡ int_lt got (pos 0)
  pub length_is : r.length ≡ clamp_len got (length bytes - from)
  pub trace : output_failed r.output ≡ false → output_trace r.output ≡ traced (output_trace o) (take r.length (drop from bytes))
  pub closed : output_closed r.output ≡ output_closed o

-- One write of the bytes from a place on: unless it failed, the checksum goes on over those that it took.
pub record WritesFrom (o : Output) (bytes : List ℕ) (from : ℕ) (r : Put) : Type 0 where
  pub file : output_file r.output ≡ output_file o
  pub within : from + r.length ≤ length bytes
  pub trace : output_failed r.output ≡ false → output_trace r.output ≡ traced (output_trace o) (take r.length (drop from bytes))
  pub unclosed : output_failed r.output ≡ false → (output_closed o ≡ false) × (output_closed r.output ≡ false)

-- A write of some bytes: where nothing failed, all of them were taken. Nothing is written after a failure.
pub record Writes (o : Output) (bytes : List ℕ) (r : Output) : Type 0 where
  pub file : output_file r ≡ output_file o
  pub whole : output_failed r ≡ false → output_trace r ≡ traced (output_trace o) bytes
  pub unclosed : output_failed r ≡ false → output_closed r ≡ output_closed o
  pub started : output_failed r ≡ false → output_failed o ≡ false
  pub failed : output_failed o ≡ true → r ≡ o

-- After a closing that was answered so: it failed exactly where that is below 0, and else it is closed.
pub record ClosedBy (o : Output) (answer : ℤ) (r : Output) : Type 0 where
  pub file : output_file r ≡ output_file o
  pub trace : output_trace r ≡ output_trace o
  pub failed : output_failed r ≡ int_lt answer (pos 0)
  pub closed : output_failed r ≡ false → output_closed r ≡ true

-- Closing an output: where nothing failed, it is closed.
pub record Closes (o r : Output) : Type 0 where
  pub file : output_file r ≡ output_file o
  pub trace : output_trace r ≡ output_trace o
  pub closed : output_failed r ≡ false → output_closed r ≡ true
  pub started : output_failed r ≡ false → output_failed o ≡ false
  pub failed : output_failed o ≡ true → r ≡ o

-- standard input, standard output and standard error
pub record StandardFiles (input : Input) (output errors : Output) : Type 0 where
  pub input_file : origin_file (input_origin input) ≡ pos 0
  pub input_argument : origin_argument (input_origin input) ≡ 0
  pub input_start : origin_start (input_origin input) ≡ 0
  pub output_file_lem : output_file output ≡ pos 1
  pub errors_file : output_file errors ≡ pos 2
