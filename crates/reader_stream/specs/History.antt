-- Feeding after feeding, and what all the symbols come to, whatever pieces they came in.
-- Clause: document 02, P1.
-- Assumes nothing.
use Rattle.std.specs.Prelude.{◌≡◌, List, [], ◌++◌, ℕ, ◌%◌, length, take}
use Rattle.common.specs.Lists.{rest_of}
use Rattle.reader.specs.Cost.{Costed}
use Rattle.bit_packing.specs.Packing.{packed_bytes}
use Rattle.reader_stream.specs.Runs.{Decided, ReadToEnd, DecidedPairs}
use Rattle.reader_stream.specs.Stream.{held_pairs, held_bits, ReaderReady, FreshReader, FeedsReader}
use Rattle.reader_stream.specs.declared.ReaderStream.{ReaderStream}

-- A history of calls from a fresh stream on, each with the stream that the one before it left: the pairs of the pieces, and the
-- bytes that the calls gave, one after the other.
pub data ReaderFeedings (rate : ℕ) : List ℕ → List ℕ → ReaderStream → Type 0 where
  none : {s : ReaderStream} → FreshReader rate s → ReaderFeedings rate [] [] s
  feeding : {pairs bytes : List ℕ} {s next : ReaderStream} (piece output exit : List ℕ) (count : ℕ) → ReaderFeedings rate pairs bytes s
      → FeedsReader s piece output next count exit → ReaderFeedings rate (pairs ++ piece) (bytes ++ take count exit) next

-- What pairs come to, from a fresh stream: the bits that overlapping runs decide of all of them, packed. The pairs behind these bits are held, and the bits
-- that fill no byte.
pub record PairsRead (rate : ℕ) (pairs bytes : List ℕ) (s : ReaderStream) : Type 0 where
  pub ready : ReaderReady s
  pub rate_is : s.runs.rate ≡ rate
  pub bits : List ℕ
  pub decided : DecidedPairs rate 0 pairs bits s.runs.memory (held_pairs s)
  pub bytes_are : bytes ≡ packed_bytes bits
  pub bits_left : held_bits s ≡ rest_of 8 bits

-- What received symbols come to, where `cost r` says what a received symbol makes each sent one cost.
pub record SymbolsRead {R : Type 0} (cost : R → ℕ → ℕ) (rate : ℕ) (rs : List R) (bytes : List ℕ) (s : ReaderStream) : Type 0 where
  pub bits : List ℕ
  pub left : List R
  pub decided : Decided cost rate 0 rs bits s.runs.memory left
  pub held : Costed cost left (held_pairs s)
  pub bytes_are : bytes ≡ packed_bytes bits
  pub bits_left : held_bits s ≡ rest_of 8 bits

-- What they come to with the end: the bytes of all their bits. So many symbols are in no pattern, and so many bits in no byte.
pub record SymbolsEnded {R : Type 0} (cost : R → ℕ → ℕ) (rate : ℕ) (rs : List R) (bytes : List ℕ) (rest left_bits : ℕ) : Type 0 where
  pub bits : List ℕ
  pub read : ReadToEnd cost rate rs bits rest
  pub bytes_are : bytes ≡ packed_bytes bits
  pub bits_left : left_bits ≡ length bits % 8
