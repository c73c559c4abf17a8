-- A whole link, from packets to packets: sent, read, put together to blocks, received; read run after run, or as a stream. Each step is one by the
-- promises of its calls. And what an unharmed link brings back.
-- Clauses: document 01, "What the board carries"; document 02, P1 and P2.
-- Assumes nothing.
use Rattle.std.specs.Prelude.{◌≡◌, ℕ, ◌+◌, ◌-◌, ◌*◌, ◌/◌, ◌%◌, ◌≤◌, ◌<◌, length, take, replicate}
use mathlib.Core.List.{List, ◌++◌, map, flatten}
use Rattle.common.specs.Lists.{All, chunks_of}
use Rattle.bit_packing.specs.Packing.{packed_bytes}
use Rattle.puncturing.specs.Mode.{mode_of}
use Rattle.puncturing.specs.Step.{pattern_length}
use Rattle.reader.specs.Clear.{AllClear}
use Rattle.reader.specs.Cost.{Costed}
use Rattle.reader.specs.Read.{symbols_per_pattern}
use Rattle.reader.specs.Runs.{Run, Readings}
use Rattle.symbol_turns.specs.Turn.{turned}
use Rattle.reader_stream.specs.Stream.{FinishesReader}
use Rattle.reader_stream.specs.History.{ReaderFeedings}
use Rattle.reader_stream.specs.declared.ReaderStream.{ReaderStream}
use Rattle.reader_stream.specs.declared.Finished.{Finished}
use Rattle.sender.specs.Input.{packets_for}
use Rattle.sender.specs.Send.{fresh_sender}
use Rattle.sender.specs.Calls.{SendCalls}
use Rattle.sender.specs.declared.Sender.{Sender}
use Rattle.receiver.specs.Receive.{fresh_receiver}
use Rattle.receiver.specs.Kept.{Kept}
use Rattle.receiver.specs.declared.Receiver.{Receiver}
use Rattle.sent_blocks.specs.Blocks.{interleaved_blocks}

pub record Link (rate : ℕ) (inputs : List (List ℕ)) : Type 0 where
  -- a fresh sender is given the inputs, call after call, and these are its symbols
  pub symbols : List ℕ
  pub sender : Sender
  pub sent : SendCalls mode_of (fresh_sender rate) inputs symbols sender
  -- they are cut into runs of whole patterns, in any way; any number of them may be left unread at the end
  pub runs : List (List ℕ)
  pub unread : List ℕ
  pub whole : All (Run rate) runs
  pub cut : flatten runs ++ unread ≡ symbols
  -- the runs are read one after the other, each with the memory that the one before gave, the first with a fresh coder's
  pub bits : List ℕ
  pub cost : ℕ
  pub memory : ℕ
  pub read : Readings rate 0 runs bits cost memory
  -- a fresh receiver is given the whole blocks of those bits, call after call: the numbers of its answers, and its packets
  pub numbers : List ℕ
  pub given : List (List ℕ)
  pub receiver : Receiver
  pub received : Kept fresh_receiver (chunks_of 204 (packed_bytes bits)) numbers given receiver

-- The same where the symbols are read as a stream, as the programs do. `cost r` says what a received symbol, of whatever kind, makes each sent one cost;
-- `Came` is what is assumed of those that came.
pub record StreamLink {R : Type 0} (cost : R → ℕ → ℕ) (Came : List R → List ℕ → Type 0) (rate : ℕ) (inputs : List (List ℕ)) : Type 0 where
  -- a fresh sender is given the inputs, call after call, and these are its symbols
  pub symbols : List ℕ
  pub sender : Sender
  pub sent : SendCalls mode_of (fresh_sender rate) inputs symbols sender
  -- so far they came; any number of them may be left unread at the end
  pub came : List ℕ
  pub unread : List ℕ
  pub cut : came ++ unread ≡ symbols
  pub points : List R
  pub as_long : length points ≡ length came
  pub assumed : Came points came
  -- a fresh reader is fed with their costs, in any pieces, and finished: it gives bytes while it is fed, and the last ones at the end
  pub costs : List ℕ
  pub costed : Costed cost points costs
  pub first : List ℕ
  pub stream : ReaderStream
  pub fed : ReaderFeedings rate costs first stream
  pub output : List ℕ
  pub exit : List ℕ
  pub finished : Finished
  pub ended : FinishesReader stream output finished exit
  -- a fresh receiver is given the whole blocks of those bytes, call after call: the numbers of its answers, and its packets
  pub numbers : List ℕ
  pub given : List (List ℕ)
  pub receiver : Receiver
  pub received : Kept fresh_receiver (chunks_of 204 (first ++ take finished.count exit)) numbers given receiver

-- What may be assumed of symbols that came turned: those that were received are clear about the turned ones.
abbrev pub TurnedClear : {R : Type 0} → (R → ℕ → ℕ) → ℕ → List R → List ℕ → Type 0
TurnedClear cost turn points came = AllClear cost points (map (turned turn) came)

-- the bytes that were read, and how many bits, with those that fill no byte
abbrev pub read_bytes : {R : Type 0} {cost : R → ℕ → ℕ} {Came : List R → List ℕ → Type 0} {rate : ℕ} {inputs : List (List ℕ)} → StreamLink cost Came rate inputs → List ℕ
read_bytes l = l.first ++ take l.finished.count l.exit

abbrev pub bit_count : {R : Type 0} {cost : R → ℕ → ℕ} {Came : List R → List ℕ → Type 0} {rate : ℕ} {inputs : List (List ℕ)} → StreamLink cost Came rate inputs → ℕ
bit_count l = 8 * length (read_bytes l) + l.finished.bits

-- the whole blocks in so many bits
abbrev pub blocks_in_bits : ℕ → ℕ
blocks_in_bits bits = bits / 1632

-- What comes back by so many bits, of the packets with null packets put in. Every block that is whole is the one that was sent, and the packets of all
-- but the last eleven of these blocks are given, in order.
pub record BroughtBack (inputs : List (List ℕ)) (bits : ℕ) (blocks : List (List ℕ)) (numbers : List ℕ) (given : List (List ℕ)) : Type 0 where
  pub blocks_sent : blocks ≡ take (blocks_in_bits bits) (interleaved_blocks (packets_for inputs))
  pub within : blocks_in_bits bits ≤ length inputs
  pub answered : numbers ≡ take (blocks_in_bits bits) (replicate 11 9 ++ replicate (blocks_in_bits bits) 0)
  pub packets : given ≡ take (blocks_in_bits bits - 11) (packets_for inputs)

-- so many bits are those of all the inputs up to the last whole pattern
abbrev pub ToTheLast : ℕ → List (List ℕ) → ℕ → Type 0
ToTheLast rate inputs bits = bits ≡ pattern_length rate * (1632 * length inputs / pattern_length rate)

-- Read run after run. Where less than a pattern is left unread, the blocks are those up to the last whole pattern.
pub record Arrived (rate : ℕ) (inputs : List (List ℕ)) (l : Link rate inputs) : Type 0 where
  pub no_cost : l.cost ≡ 0
  pub back : BroughtBack inputs (length l.bits) (chunks_of 204 (packed_bytes l.bits)) l.numbers l.given
  pub to_the_last : length l.unread < symbols_per_pattern rate → ToTheLast rate inputs (length l.bits)

-- Read as a stream. The symbols behind the last whole pattern that came are told as the rest; where all of them came, the blocks are those up to the last
-- whole pattern.
pub record StreamArrived {R : Type 0} {cost : R → ℕ → ℕ} {Came : List R → List ℕ → Type 0} {rate : ℕ} {inputs : List (List ℕ)} (l : StreamLink cost Came rate inputs) : Type 0 where
  pub back : BroughtBack inputs (bit_count l) (chunks_of 204 (read_bytes l)) l.numbers l.given
  pub behind : l.finished.rest ≡ length l.came % symbols_per_pattern rate
  pub to_the_last : length l.unread ≡ 0 → ToTheLast rate inputs (bit_count l)
