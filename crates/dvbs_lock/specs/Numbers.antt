-- The numbers of an input's bytes: the decisions on points of two f32 each, or bits.
-- Clauses: document 02, P8; docs/ACQUISITION.md.
-- Assumes nothing.
use Rattle.std.specs.Prelude.{◌≡◌, Bool, true, List, ℕ, ◌%◌, ◌≤◌, ◌<◌, length, take}
use Rattle.common.specs.Choice.{pick}
use Rattle.convolutional_code.specs.Bits.{bits_of}
use Rattle.program_io.specs.Checksum.{traced}
use Rattle.program_io.specs.Files.{input_origin, input_trace, input_over}
use Rattle.program_io.specs.declared.input.Input.{Input}
use Rattle.received_symbols.specs.Received.{pairs_of}
use Rattle.dvbs_lock.specs.declared.numbers.NumbersRead.{NumbersRead}

abbrev pub numbers_of : Bool → List ℕ → List ℕ
numbers_of bits bytes = pick bits (bits_of bytes) (pairs_of bytes)

-- the bytes behind the last whole point
abbrev pub rest_bytes : Bool → ℕ → ℕ
rest_bytes bits n = pick bits 0 (n % 8)

-- the numbers of bytes stand at the front of an output
pub record NumbersAt (bits : Bool) (bytes : List ℕ) (count : ℕ) (output : List ℕ) : Type 0 where
  pub numbers_are : take count output ≡ numbers_of bits bytes
  pub counted : count ≡ length (numbers_of bits bytes)
  pub few : count ≤ 13056

-- how many bytes are read at once: those of 13,056 points, or of as many bits
abbrev pub read_size : Bool → ℕ
read_size bits = pick bits 1632 104448

-- The next bytes of an input are read, and their numbers written. Fewer came only where the input is over.
pub record ReadsNumbers (bits : Bool) (i : Input) (r : NumbersRead) (output : List ℕ) : Type 0 where
  pub bytes : List ℕ
  pub size : length bytes ≡ r.length
  pub origin : input_origin r.input ≡ input_origin i
  pub trace : input_trace r.input ≡ traced (input_trace i) bytes
  pub within : r.length ≤ read_size bits
  pub short : r.length < read_size bits → input_over r.input ≡ true
  pub numbers : NumbersAt bits bytes r.count output
