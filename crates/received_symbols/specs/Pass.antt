-- A pass over the bytes of received symbols: what is taken of some bytes, and what all of them come to.
-- Clauses: document 02, P1 and P8.
-- Assumes nothing.
use Rattle.std.specs.Prelude.{◌≡◌, Bool, true, false, List, ℕ, ◌%◌, ◌≤◌, ◌<◌, length, get_or, take}
use Rattle.common.specs.Lists.{All, rest_of}
use Rattle.reader.specs.Cost.{Costed}
use Rattle.reader_stream.specs.Stream.{FeedsReader}
use Rattle.reader_stream.specs.History.{ReaderFeedings}
use Rattle.reader_stream.specs.declared.ReaderStream.{ReaderStream}
use Rattle.received_symbols.specs.Received.{cost_of, width, symbols_in, Valid}
use Rattle.received_symbols.specs.declared.SymbolPass.{SymbolPass}
use Rattle.received_symbols.specs.declared.SymbolsTaken.{SymbolsTaken}

-- the bytes that make no whole symbol are held
pub record Held (soft : Bool) (p : SymbolPass) (bytes : List ℕ) : Type 0 where
  pub size : length p.tail ≡ 8
  pub count : p.held ≡ length bytes % width soft
  pub bytes_are : take p.held p.tail ≡ rest_of (width soft) bytes

-- So many bytes at the front of some are symbols: all of them, or all up to the first byte that is none.
pub record SymbolsAtFront (bytes : List ℕ) (count : ℕ) : Type 0 where
  pub most : count ≤ length bytes
  pub symbols : All (λ x. x < 4) (take count bytes)
  pub ends : count < length bytes → 4 ≤ get_or bytes count 0

-- What is taken of bytes that are all fit: the reader is fed with their whole symbols, and the bytes that are left are held.
pub record TakesAll (soft : Bool) (s : ReaderStream) (bytes output : List ℕ) (next : SymbolPass) (count : ℕ) (exit : List ℕ) : Type 0 where
  pub valid : Valid soft bytes
  pub pairs : List ℕ
  pub costed : Costed (cost_of soft) (symbols_in soft bytes) pairs
  pub fed : FeedsReader s pairs output next.stream count exit
  pub holds : Held soft next bytes

-- What is taken of some bytes: all of them, or all up to the first that is no symbol.
pub record TakesBytes (soft : Bool) (s : ReaderStream) (bytes output : List ℕ) (t : SymbolsTaken) (exit : List ℕ) : Type 0 where
  pub most : t.taken ≤ length bytes
  pub takes : TakesAll soft s (take t.taken bytes) output t.pass t.count exit
  pub all : t.stopped ≡ false → t.taken ≡ length bytes
  pub stops : t.stopped ≡ true → (soft ≡ false) × (t.taken < length bytes) × (4 ≤ get_or bytes t.taken 0)

-- What all bytes come to: a fresh reader was fed with the pairs of their symbols, and gave these bytes.
pub record BytesTaken (soft : Bool) (rate : ℕ) (bytes written : List ℕ) (p : SymbolPass) : Type 0 where
  pub valid : Valid soft bytes
  pub pairs : List ℕ
  pub costed : Costed (cost_of soft) (symbols_in soft bytes) pairs
  pub fed : ReaderFeedings rate pairs written p.stream
  pub holds : Held soft p bytes
