-- How a run of dvbs_send may end, and what its status then says. The files are values of program_io, which its reads and writes alone make.
-- Clauses: document 01, "Sending chain"; document 02, P2.
-- Assumes nothing.
use Rattle.std.specs.Prelude.{◌≡◌, Bool, true, false, List, [], ◌∷◌, ◌++◌, ℕ, ◌≤◌, eqb, ℤ, pos, length, replicate}
use Rattle.common.specs.Choice.{pick}
use Rattle.common.specs.Lists.{chunks_of}
use Rattle.puncturing.specs.Mode.{mode_of}
use Rattle.sender.specs.Standard.{on_air}
use Rattle.sender.specs.Input.{null_packet, packets_for}
use Rattle.sender_stream.specs.History.{Transmitted}
use Rattle.program_io.specs.Checksum.{no_bytes, traced}
use Rattle.program_io.specs.Words.{argument_count, word_argument, word_bytes, same_bytes}
use Rattle.program_io.specs.Files.{input_origin, origin_file, input_trace, input_ended, input_failed, output_file, output_trace, output_failed, output_closed}
use Rattle.program_io.specs.Calls.{asked_of, AnswersCall}
use Rattle.program_io.specs.declared.words.Arguments.{Arguments}
use Rattle.program_io.specs.declared.words.Word.{Word}
use Rattle.program_io.specs.declared.input.Input.{Input}
use Rattle.program_io.specs.declared.output.Output.{Output}
use Rattle.program_io.specs.declared.calls.Asked.TheVariants.{Work}
use Rattle.rate_words.specs.Words.{mode_named}
use Rattle.dvbs_send.specs.Lines.{replaced_count, answers_of, told_of, counts_of}
use Rattle.dvbs_send.specs.declared.SendRequest.{SendRequest}
use Rattle.dvbs_send.specs.declared.Sending.{Sending}
use Rattle.program_io.specs.declared.calls.Ended.{Ended}

-- ---- what is sent

-- The packets of some bytes, with null packets for those that are none; and where the delays are flushed, eleven null packets after them. Bytes after the
-- last whole packet are not sent.
abbrev pub packets_sent : Bool → List ℕ → List (List ℕ)
packets_sent flush bytes = pick flush (packets_for (chunks_of 188 bytes) ++ replicate 11 null_packet) (packets_for (chunks_of 188 bytes))

abbrev pub symbols_of : ℕ → Bool → List ℕ → List ℕ
symbols_of mode flush bytes = on_air (mode_of mode) (packets_sent flush bytes)

-- ---- sending in progress

-- These bytes were sent in a mode, and all that was to be told of them was told, unless standard error failed.
pub record Sent (mode : ℕ) (bytes : List ℕ) (s : Sending) : Type 0 where
  pub is_sent_lem : (mode_of mode).sent ≡ true
  pub transmitted : Transmitted mode bytes (symbols_of mode false bytes) (answers_of bytes) s.stream
  pub counted : s.came ≡ length bytes
  pub replaced_are : s.replaced ≡ replaced_count (answers_of bytes)
  pub output_is : output_file s.output ≡ pos 1
  pub unfailed : output_failed s.output ≡ false
  pub written : output_trace s.output ≡ traced no_bytes (symbols_of mode false bytes)
  pub errors_is : output_file s.errors ≡ pos 2
  pub told : output_failed s.errors ≡ false → output_trace s.errors ≡ traced no_bytes (told_of bytes)

-- some bytes were
pub record SentSome (mode : ℕ) (s : Sending) : Type 0 where
  pub bytes : List ℕ
  pub is : Sent mode bytes s

-- What sending a piece promises, of any bytes that were sent before it. Where the output failed, nothing is told of the piece.
pub record SendsPiece (mode : ℕ) (s : Sending) (piece : List ℕ) (r : Sending) : Type 0 where
  pub file : output_file r.output ≡ output_file s.output
  pub whole : output_failed r.output ≡ false → (bytes : List ℕ) → Sent mode bytes s → Sent mode (bytes ++ piece) r
  pub part : output_failed r.output ≡ true → r.errors ≡ s.errors

-- What is written at the end: nothing, or the symbols of eleven null packets.
pub record SendsLast (mode : ℕ) (flush : Bool) (s : Sending) (r : Output) : Type 0 where
  pub file : output_file r ≡ output_file s.output
  pub written : output_failed r ≡ false → (bytes : List ℕ) → Sent mode bytes s → output_trace r ≡ traced no_bytes (symbols_of mode flush bytes)

-- The output is closed then.
pub record SendsEnd (mode : ℕ) (flush : Bool) (s : Sending) (r : Output) : Type 0 where
  pub last : SendsLast mode flush s r
  pub closed : output_failed r ≡ false → output_closed r ≡ true

-- standard input, all bytes that were read of it, and what sending them came to
pub record Going (mode : ℕ) (input : Input) (s : Sending) : Type 0 where
  pub input_is : origin_file (input_origin input) ≡ pos 0
  pub bytes : List ℕ
  pub read : input_trace input ≡ traced no_bytes bytes
  pub sent : Sent mode bytes s

-- ---- the end

-- Status 0: the last read answered 0, the symbols of all packets were written, the output was closed, and the lines were told to the last.
pub record Whole (mode : ℕ) (flush : Bool) (r : Ended) : Type 0 where
  pub bytes : List ℕ
  pub read : input_trace r.input ≡ traced no_bytes bytes
  pub ended : input_ended r.input ≡ true
  pub written : output_trace r.output ≡ traced no_bytes (symbols_of mode flush bytes)
  pub written_whole : output_failed r.output ≡ false
  pub closed : output_closed r.output ≡ true
  pub told : output_trace r.errors ≡ traced no_bytes (told_of bytes ++ counts_of bytes)
  pub told_whole : output_failed r.errors ≡ false

-- standard input: more than 9223372036854775807 bytes
abbrev pub too_long_text : List ℕ
too_long_text =
    0x73 ∷ 0x74 ∷ 0x61 ∷ 0x6E ∷ 0x64 ∷ 0x61 ∷ 0x72 ∷ 0x64 ∷ 0x20 ∷ 0x69 ∷ 0x6E ∷ 0x70 ∷ 0x75 ∷ 0x74 ∷ 0x3A ∷ 0x20 ∷ 0x6D ∷ 0x6F ∷ 0x72 ∷ 0x65 ∷ 0x20 ∷ 0x74
    ∷ 0x68 ∷ 0x61 ∷ 0x6E ∷ 0x20 ∷ 0x39 ∷ 0x32 ∷ 0x32 ∷ 0x33 ∷ 0x33 ∷ 0x37 ∷ 0x32 ∷ 0x30 ∷ 0x33 ∷ 0x36 ∷ 0x38 ∷ 0x35 ∷ 0x34 ∷ 0x37 ∷ 0x37 ∷ 0x35 ∷ 0x38 ∷ 0x30
    ∷ 0x37 ∷ 0x20 ∷ 0x62 ∷ 0x79 ∷ 0x74 ∷ 0x65 ∷ 0x73 ∷ 0x0A ∷ []

-- Status 1: what failed; and what was told after the lines of packets that were replaced.
pub data Reason (bytes : List ℕ) (r : Ended) : List ℕ → Type 0 where
  input_failed_lem : input_failed r.input ≡ true → Reason bytes r []
  output_failed_lem : output_failed r.output ≡ true → Reason bytes r []
  errors_failed : output_failed r.errors ≡ true → Reason bytes r []
  too_long : 9223372036854775808 ≤ length bytes → Reason bytes r too_long_text

-- The line with the counts is not told: these bytes were sent, with the null packets or without, and then the last piece that was read was not, where the
-- output failed.
pub record Failed (mode : ℕ) (r : Ended) : Type 0 where
  pub bytes : List ℕ
  pub piece : List ℕ
  pub message : List ℕ
  pub read : input_trace r.input ≡ traced no_bytes (bytes ++ piece)
  pub written : output_failed r.output ≡ false → (flushed : Bool) × (output_trace r.output ≡ traced no_bytes (symbols_of mode flushed bytes))
  pub told : output_failed r.errors ≡ false → output_trace r.errors ≡ traced no_bytes (told_of bytes ++ message)
  pub reason : Reason bytes r message

pub data Status (mode : ℕ) (flush : Bool) (r : Ended) : Type 0 where
  whole : r.status ≡ pos 0 → Whole mode flush r → Status mode flush r
  part : r.status ≡ pos 1 → Failed mode r → Status mode flush r

pub record Ends (mode : ℕ) (flush : Bool) (r : Ended) : Type 0 where
  pub input_is : origin_file (input_origin r.input) ≡ pos 0
  pub output_is : output_file r.output ≡ pos 1
  pub errors_is : output_file r.errors ≡ pos 2
  pub status : Status mode flush r

-- ---- the words of the command line

-- --flush
abbrev pub flush_word : List ℕ
flush_word = 0x2D ∷ 0x2D ∷ 0x66 ∷ 0x6C ∷ 0x75 ∷ 0x73 ∷ 0x68 ∷ []

-- a request for no mode
abbrev pub no_request : SendRequest
no_request = record { mode = 6; flush = false }

-- MODE, or --flush MODE
abbrev pub request_of : ℕ → List ℕ → List ℕ → SendRequest
request_of count first second =
    pick (eqb count 1) (record { mode = mode_named first; flush = false })
    (pick (eqb count 2) (pick (same_bytes first flush_word) (record { mode = mode_named second; flush = true }) no_request) no_request)

-- usage: dvbs_send [--flush] MODE < packets > symbols, MODE 0 to 3 or 1/2, 2/3, 3/4, 5/6 for QPSK, 5 for 16QAM 3/4; --flush sends eleven null packets at the end
abbrev pub usage : List ℕ
usage =
    0x75 ∷ 0x73 ∷ 0x61 ∷ 0x67 ∷ 0x65 ∷ 0x3A ∷ 0x20 ∷ 0x64 ∷ 0x76 ∷ 0x62 ∷ 0x73 ∷ 0x5F ∷ 0x73 ∷ 0x65 ∷ 0x6E ∷ 0x64 ∷ 0x20 ∷ 0x5B ∷ 0x2D ∷ 0x2D ∷ 0x66 ∷ 0x6C
    ∷ 0x75 ∷ 0x73 ∷ 0x68 ∷ 0x5D ∷ 0x20 ∷ 0x4D ∷ 0x4F ∷ 0x44 ∷ 0x45 ∷ 0x20 ∷ 0x3C ∷ 0x20 ∷ 0x70 ∷ 0x61 ∷ 0x63 ∷ 0x6B ∷ 0x65 ∷ 0x74 ∷ 0x73 ∷ 0x20 ∷ 0x3E ∷ 0x20
    ∷ 0x73 ∷ 0x79 ∷ 0x6D ∷ 0x62 ∷ 0x6F ∷ 0x6C ∷ 0x73 ∷ 0x2C ∷ 0x20 ∷ 0x4D ∷ 0x4F ∷ 0x44 ∷ 0x45 ∷ 0x20 ∷ 0x30 ∷ 0x20 ∷ 0x74 ∷ 0x6F ∷ 0x20 ∷ 0x33 ∷ 0x20 ∷ 0x6F
    ∷ 0x72 ∷ 0x20 ∷ 0x31 ∷ 0x2F ∷ 0x32 ∷ 0x2C ∷ 0x20 ∷ 0x32 ∷ 0x2F ∷ 0x33 ∷ 0x2C ∷ 0x20 ∷ 0x33 ∷ 0x2F ∷ 0x34 ∷ 0x2C ∷ 0x20 ∷ 0x35 ∷ 0x2F ∷ 0x36 ∷ 0x20 ∷ 0x66
    ∷ 0x6F ∷ 0x72 ∷ 0x20 ∷ 0x51 ∷ 0x50 ∷ 0x53 ∷ 0x4B ∷ 0x2C ∷ 0x20 ∷ 0x35 ∷ 0x20 ∷ 0x66 ∷ 0x6F ∷ 0x72 ∷ 0x20 ∷ 0x31 ∷ 0x36 ∷ 0x51 ∷ 0x41 ∷ 0x4D ∷ 0x20 ∷ 0x33
    ∷ 0x2F ∷ 0x34 ∷ 0x3B ∷ 0x20 ∷ 0x2D ∷ 0x2D ∷ 0x66 ∷ 0x6C ∷ 0x75 ∷ 0x73 ∷ 0x68 ∷ 0x20 ∷ 0x73 ∷ 0x65 ∷ 0x6E ∷ 0x64 ∷ 0x73 ∷ 0x20 ∷ 0x65 ∷ 0x6C ∷ 0x65 ∷ 0x76
    ∷ 0x65 ∷ 0x6E ∷ 0x20 ∷ 0x6E ∷ 0x75 ∷ 0x6C ∷ 0x6C ∷ 0x20 ∷ 0x70 ∷ 0x61 ∷ 0x63 ∷ 0x6B ∷ 0x65 ∷ 0x74 ∷ 0x73 ∷ 0x20 ∷ 0x61 ∷ 0x74 ∷ 0x20 ∷ 0x74 ∷ 0x68 ∷ 0x65
    ∷ 0x20 ∷ 0x65 ∷ 0x6E ∷ 0x64 ∷ 0x0A ∷ []

-- dvbs_send
abbrev pub name : List ℕ
name = 0x64 ∷ 0x76 ∷ 0x62 ∷ 0x73 ∷ 0x5F ∷ 0x73 ∷ 0x65 ∷ 0x6E ∷ 0x64 ∷ []

-- the arguments of a call, and its first two words
pub record Called (a : Arguments) (first second : Word) : Type 0 where
  pub first_is : word_argument first ≡ 1
  pub second_is : word_argument second ≡ 2
  pub work : asked_of (argument_count a) (word_bytes first) ≡ Work

abbrev pub requested : Arguments → Word → Word → SendRequest
requested a first second = request_of (argument_count a) (word_bytes first) (word_bytes second)

-- The status of the program: that of giving the usage or the version, where these are asked for; 2 and the usage on standard error where the words name no
-- mode that is sent; else how the run in that mode ended.
pub data Exits (status : ℤ) : Type 0 where
  answered : AnswersCall name usage (λ a first. (second : Word) × Called a first second × ((mode_of (requested a first second).mode).sent ≡ false)) status → Exits status
  ran : (a : Arguments) (first second : Word) (r : Ended) → Called a first second → (mode_of (requested a first second).mode).sent ≡ true
      → Ends (requested a first second).mode (requested a first second).flush r → status ≡ r.status → Exits status
