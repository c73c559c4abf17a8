-- How a run of dvbs_read or dvbs_read_soft may end, and what its status then says. The files are values of program_io, which its reads and writes alone make.
-- Clauses: document 02, P1 and P8.
-- Assumes nothing.
use Rattle.std.specs.Prelude.{◌≡◌, Bool, true, false, List, ◌++◌, ℕ, ◌+◌, ◌-◌, ◌%◌, ◌≤◌, ◌<◌, eqb, ℤ, pos, length, get_or, take, drop}
use Rattle.common.specs.Choice.{pick}
use Rattle.puncturing.specs.Mode.{qpsk_count}
use Rattle.reader_stream.specs.Stream.{ReaderReady}
use Rattle.reader_stream.specs.History.{SymbolsEnded}
use Rattle.program_io.specs.Checksum.{no_bytes, traced}
use Rattle.program_io.specs.Files.{StandardFiles, input_origin, input_trace, input_over, input_ended, input_failed, output_trace, output_failed, output_closed, Reads}
use Rattle.program_io.specs.Words.{argument_count, word_argument, word_bytes}
use Rattle.program_io.specs.Calls.{asked_of, AnswersCall}
use Rattle.program_io.specs.declared.input.Input.{Input}
use Rattle.program_io.specs.declared.input.Filled.{Filled}
use Rattle.program_io.specs.declared.output.Output.{Output}
use Rattle.program_io.specs.declared.words.Arguments.{Arguments}
use Rattle.program_io.specs.declared.words.Word.{Word}
use Rattle.program_io.specs.declared.calls.Asked.TheVariants.{Work}
use Rattle.rate_words.specs.Words.{mode_named}
use Rattle.received_symbols.specs.Received.{cost_of, width, symbols_in, Valid}
use Rattle.received_symbols.specs.Pass.{TakesBytes, BytesTaken}
use Rattle.reader_program.specs.Lines.{refusal_line, closing_lines, too_long_text}
use Rattle.received_symbols.specs.declared.SymbolPass.{SymbolPass}
use Rattle.reader_program.specs.declared.Turn.{Turn}
use Rattle.program_io.specs.declared.calls.Ended.{Ended}

-- ---- a turn

-- the most bytes that one read is asked for: 32,768 symbols
abbrev pub most_of : Bool → ℕ
most_of soft = pick soft 262144 32768

-- One read into a buffer from byte 8 on, with the bytes that were held right before those that came.
pub record ReadsBehind (i : Input) (held : List ℕ) (most : ℕ) (buffer : List ℕ) (r : Filled) : Type 0 where
  pub read : Reads i most (drop 8 buffer) r
  pub joined : take (length held + r.length) (drop (8 - length held) buffer) ≡ held ++ take r.length (drop 8 buffer)

-- Room for a piece behind the bytes that are held, for the pairs of its symbols, for the bits of a run, and for the bytes that the bits of a piece fill at most.
pub record Buffers (soft : Bool) (p : SymbolPass) (buffer pairs bits output : List ℕ) : Type 0 where
  pub ready : ReaderReady p.stream
  pub few : p.held < width soft
  pub size : length p.tail ≡ 8
  pub piece : length buffer ≡ 262152
  pub numbers : length pairs ≡ 32768
  pub run : length bits ≡ 1632
  pub bytes : length output ≡ 8600

-- One read, and what is taken of the bytes that were held and of those that came. The bytes to be written stand at the front of the output.
pub record Turns (soft : Bool) (i : Input) (p : SymbolPass) (output : List ℕ) (t : Turn) (exit : List ℕ) : Type 0 where
  pub piece : List ℕ
  pub piece_length : length piece ≡ t.length
  pub origin : input_origin t.input ≡ input_origin i
  pub trace : input_trace t.input ≡ traced (input_trace i) piece
  pub none : t.length ≡ 0 → input_over t.input ≡ true
  pub short : t.length ≤ 262144
  pub takes : TakesBytes soft p.stream (take p.held p.tail ++ piece) output t.taken exit
  pub fits : t.taken.count ≤ length exit

-- ---- turns one after the other

-- nothing was told
pub record Untold (errors : Output) : Type 0 where
  pub trace : output_trace errors ≡ no_bytes
  pub unfailed : output_failed errors ≡ false

-- All bytes that were read were taken, and what the reader gave was written.
pub record Going (soft : Bool) (rate : ℕ) (input : Input) (output : Output) (p : SymbolPass) (came : ℕ) : Type 0 where
  pub bytes : List ℕ
  pub written : List ℕ
  pub taken : BytesTaken soft rate bytes written p
  pub counted : came ≡ length bytes
  pub read : input_trace input ≡ traced no_bytes bytes
  pub written_is : output_trace output ≡ traced no_bytes written
  pub unfailed : output_failed output ≡ false

-- ---- the end

-- Status 0: the last read answered 0. All bytes are symbols; the bytes of the bits of all of them were written, the output was closed, and the lines were told
-- to the last.
pub record Whole (soft : Bool) (rate : ℕ) (r : Ended) : Type 0 where
  pub bytes : List ℕ
  pub read : input_trace r.input ≡ traced no_bytes bytes
  pub ended : input_ended r.input ≡ true
  pub valid : Valid soft bytes
  pub written : List ℕ
  pub rest : ℕ
  pub left_bits : ℕ
  pub symbols : SymbolsEnded (cost_of soft) rate (symbols_in soft bytes) written rest left_bits
  pub written_is : output_trace r.output ≡ traced no_bytes written
  pub written_whole : output_failed r.output ≡ false
  pub closed : output_closed r.output ≡ true
  pub told : output_trace r.errors ≡ traced no_bytes (closing_lines soft rest left_bits (length bytes % width soft))
  pub told_whole : output_failed r.errors ≡ false

-- The byte at a place is the first that is no symbol. The symbols before it were taken, and what the reader gave of them was written.
pub record SymbolRefused (soft : Bool) (rate : ℕ) (input : Input) (output : Output) (place : ℕ) : Type 0 where
  pub hard : soft ≡ false
  pub bytes : List ℕ
  pub read : input_trace input ≡ traced no_bytes bytes
  pub within : place < length bytes
  pub no_symbol : 4 ≤ get_or bytes place 0
  pub written : List ℕ
  pub pass : SymbolPass
  pub taken : BytesTaken soft rate (take place bytes) written pass
  pub written_is : output_trace output ≡ traced no_bytes written

-- Status 1: what failed or was refused. The closing lines are not told.
pub data Failed (soft : Bool) (rate : ℕ) (r : Ended) : Type 0 where
  input_failed_lem : (p : SymbolPass) (came : ℕ) → Going soft rate r.input r.output p came → input_failed r.input ≡ true → output_trace r.errors ≡ no_bytes → Failed soft rate r
  output_failed_lem : output_failed r.output ≡ true → output_trace r.errors ≡ no_bytes → Failed soft rate r
  errors_failed : output_failed r.errors ≡ true → Failed soft rate r
  refused : (place : ℕ) → SymbolRefused soft rate r.input r.output place → output_trace r.errors ≡ traced no_bytes (refusal_line place) → Failed soft rate r
  too_long : (p : SymbolPass) (came : ℕ) → Going soft rate r.input r.output p came → 9223372036854775808 ≤ came → output_trace r.errors ≡ traced no_bytes too_long_text
      → Failed soft rate r

pub data Status (soft : Bool) (rate : ℕ) (r : Ended) : Type 0 where
  whole : r.status ≡ pos 0 → Whole soft rate r → Status soft rate r
  part : r.status ≡ pos 1 → Failed soft rate r → Status soft rate r

pub record Ends (soft : Bool) (rate : ℕ) (r : Ended) : Type 0 where
  pub files : StandardFiles r.input r.output r.errors
  pub status : Status soft rate r

-- ---- the words of the command line

-- the rate that the only argument names; 6, which is none, where there is not exactly one
abbrev pub rate_asked : ℕ → List ℕ → ℕ
rate_asked count word = pick (eqb count 1) (mode_named word) 6

-- The status of a program of this name and usage: of a text that was asked for, of a wrong call, or of its run.
pub data Exits (soft : Bool) (name usage : List ℕ) (status : ℤ) : Type 0 where
  answered : AnswersCall name usage (λ a w. qpsk_count ≤ rate_asked (argument_count a) (word_bytes w)) status → Exits soft name usage status
  ran : (a : Arguments) (w : Word) (r : Ended) → word_argument w ≡ 1 → asked_of (argument_count a) (word_bytes w) ≡ Work → rate_asked (argument_count a) (word_bytes w) < qpsk_count
      → Ends soft (rate_asked (argument_count a) (word_bytes w)) r → status ≡ r.status → Exits soft name usage status
