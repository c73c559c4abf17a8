-- Reading in progress: what feeding it with the pairs of symbols gives, and what its end does. Bits are decided in runs that overlap, and packed into bytes.
-- Clause: document 02, P1.
-- Assumes nothing.
use Rattle.std.specs.Prelude.{◌≡◌, List, [], ◌++◌, ℕ, ◌<◌, take}
use Rattle.bit_packing.specs.Packing.{carried_bits, Packs}
use Rattle.reader_stream.specs.Runs.{DecidedPairs, held_of, RunsReady, RunsHold, ClosesRuns}
use Rattle.reader_stream.specs.declared.ReaderStream.{ReaderStream}
use Rattle.reader_stream.specs.declared.Finished.{Finished}

-- the pairs of the symbols that are not decided yet, and the bits that fill no byte yet
abbrev pub held_pairs : ReaderStream → List ℕ
held_pairs s = held_of s.runs

abbrev pub held_bits : ReaderStream → List ℕ
held_bits s = carried_bits s.carry s.held

-- each number is in its range
pub record ReaderReady (s : ReaderStream) : Type 0 where
  pub runs_ready : RunsReady s.runs
  pub few : s.held < 8

-- nothing has come
pub record FreshReader (rate : ℕ) (s : ReaderStream) : Type 0 where
  pub ready : ReaderReady s
  pub empty : RunsHold s.runs rate 0 []
  pub none_held : s.held ≡ 0

-- What feeding pairs does: all of them are taken. Behind those that were held they are decided in runs that overlap; the bits, behind those that were
-- held, are packed. The bytes stand at the front of the output, with all behind them as it was.
pub record FeedsReader (s : ReaderStream) (pairs output : List ℕ) (next : ReaderStream) (count : ℕ) (exit : List ℕ) : Type 0 where
  pub ready : ReaderReady next
  pub rate_is : next.runs.rate ≡ s.runs.rate
  pub bits : List ℕ
  pub decided : DecidedPairs s.runs.rate s.runs.memory (held_pairs s ++ pairs) bits next.runs.memory (held_pairs next)
  pub packed : Packs (held_bits s) bits output next.carry next.held count exit

-- What the end does: the bits of the whole patterns that are held, behind the bits that were held, are packed. It says how many symbols are in no pattern,
-- and how many bits in no byte. The bits are read into a buffer, which was lent.
pub record FinishesReader (s : ReaderStream) (output : List ℕ) (f : Finished) (exit : List ℕ) : Type 0 where
  pub lent : List ℕ
  pub buffer : List ℕ
  pub decided : ℕ
  pub closed : ClosesRuns s.runs lent decided f.rest buffer
  pub carry : ℕ
  pub packed : Packs (held_bits s) (take decided buffer) output carry f.bits f.count exit
