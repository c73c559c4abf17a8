-- A stream of received symbols read in runs that overlap: of each longest run all bits are kept but those of its last patterns, a hundred bits or so,
-- and the next run begins behind the kept ones, with the memory that they leave.
-- Clause: document 02, P1.
-- Assumes nothing.
use Rattle.std.specs.Prelude.{◌≡◌, List, [], ◌++◌, map, ℕ, ◌+◌, ◌-◌, ◌*◌, ◌/◌, ◌<◌, ◌≤◌, length, take, drop}
use Rattle.common.specs.Lists.{All}
use Rattle.convolutional_code.specs.Code.{memory_after}
use Rattle.viterbi_decoder.specs.Best.{Decoded}
use Rattle.puncturing.specs.Mode.{qpsk_count}
use Rattle.puncturing.specs.Step.{pattern_length}
use Rattle.reader.specs.Cost.{run_cost, costs_of}
use Rattle.reader.specs.Read.{symbols_per_pattern, run_bits, BestRead}
use Rattle.reader_stream.specs.declared.symbol_runs.SymbolRuns.{SymbolRuns}

-- the patterns of a longest run, and those that are kept
unfoldable pub run_patterns : ℕ → ℕ
run_patterns rate = 1632 / pattern_length rate

unfoldable pub kept_patterns : ℕ → ℕ
kept_patterns rate = 1632 / pattern_length rate - (100 / pattern_length rate + 1)

unfoldable pub full_symbols : ℕ → ℕ
full_symbols rate = symbols_per_pattern rate * run_patterns rate

unfoldable pub kept_symbols : ℕ → ℕ
kept_symbols rate = symbols_per_pattern rate * kept_patterns rate

unfoldable pub kept_bits : ℕ → ℕ
kept_bits rate = pattern_length rate * kept_patterns rate

-- What all the symbols of a stream come to, from a memory on, where `cost r` says what a received symbol makes each sent one cost: the bits that are
-- decided, the memory after them, and the symbols behind them, which are fewer than a longest run.
pub data Decided {R : Type 0} (cost : R → ℕ → ℕ) (rate : ℕ) : ℕ → List R → List ℕ → ℕ → List R → Type 0 where
  few : {m : ℕ} {rs : List R} → length rs < full_symbols rate → Decided cost rate m rs [] m rs
  run : {m last : ℕ} {rs left : List R} {out : List ℕ} (bits : List ℕ) (total after : ℕ) → full_symbols rate ≤ length rs
      → Decoded (run_cost (map cost (take (full_symbols rate) rs)) rate m) (run_bits rate (full_symbols rate)) m bits total after
      → Decided cost rate (memory_after m (take (kept_bits rate) bits)) (drop (kept_symbols rate) rs) out last left
      → Decided cost rate m rs (take (kept_bits rate) bits ++ out) last left

-- What the end of a stream gives of the symbols that are left: the best sequence for their whole patterns, and how many symbols are behind these.
pub record EndDecided {R : Type 0} (cost : R → ℕ → ℕ) (rate memory : ℕ) (left : List R) (output : List ℕ) (count rest : ℕ) (exit : List ℕ) : Type 0 where
  pub whole : ℕ
  pub split : rest + symbols_per_pattern rate * whole ≡ length left
  pub few : rest < symbols_per_pattern rate
  pub total : ℕ
  pub after : ℕ
  pub bits :
      BestRead (run_cost (map cost (take (symbols_per_pattern rate * whole) left)) rate memory) (run_bits rate (length (take (symbols_per_pattern rate * whole) left))) memory output after total count exit

-- What a stream comes to that is read to its end, from the memory of a fresh coder: the bits that overlapping runs decide of all the symbols, and behind
-- these the bits of the end. So many symbols are in no bit.
pub record ReadToEnd {R : Type 0} (cost : R → ℕ → ℕ) (rate : ℕ) (rs : List R) (bits : List ℕ) (rest : ℕ) : Type 0 where
  pub known : rate < qpsk_count
  pub decided : List ℕ
  pub memory : ℕ
  pub left : List R
  pub runs : Decided cost rate 0 rs decided memory left
  pub output : List ℕ
  pub exit : List ℕ
  pub count : ℕ
  pub end : EndDecided cost rate memory left output count rest exit
  pub bits_are : bits ≡ decided ++ take count exit

-- ---- in pairs: one number for each symbol, the decisions on its I and Q

-- What the pairs of all the symbols come to: the bits that are decided, the memory after them, and the pairs behind them.
pub data DecidedPairs (rate : ℕ) : ℕ → List ℕ → List ℕ → ℕ → List ℕ → Type 0 where
  few_pairs : {m : ℕ} {pairs : List ℕ} → length pairs < full_symbols rate → DecidedPairs rate m pairs [] m pairs
  run_pairs : {m last : ℕ} {pairs left out : List ℕ} (bits : List ℕ) (total after : ℕ) → full_symbols rate ≤ length pairs
      → Decoded (run_cost (costs_of (take (full_symbols rate) pairs)) rate m) (run_bits rate (full_symbols rate)) m bits total after
      → DecidedPairs rate (memory_after m (take (kept_bits rate) bits)) (drop (kept_symbols rate) pairs) out last left
      → DecidedPairs rate m pairs (take (kept_bits rate) bits ++ out) last left

-- a longest run that is read, and the memory after the bits of it that are kept
pub record FullRead (rate memory : ℕ) (pairs output : List ℕ) (after : ℕ) (exit : List ℕ) : Type 0 where
  pub total : ℕ
  pub last : ℕ
  pub count : ℕ
  pub out : BestRead (run_cost (costs_of pairs) rate memory) (run_bits rate (length pairs)) memory output last total count exit
  pub leaves : after ≡ memory_after memory (take (kept_bits rate) out.bits)

-- runs in progress, and what they hold
abbrev pub held_of : SymbolRuns → List ℕ
held_of s = take s.count s.held

pub record RunsReady (s : SymbolRuns) : Type 0 where
  pub known : s.rate < qpsk_count
  pub in_range_lem : s.memory < 64
  pub size : length s.held ≡ 1632
  pub below : s.count < full_symbols s.rate
  pub small : All (λ c. c < 81) (held_of s)

pub record RunsHold (s : SymbolRuns) (rate memory : ℕ) (pairs : List ℕ) : Type 0 where
  pub rate_is : s.rate ≡ rate
  pub memory_is : s.memory ≡ memory
  pub held_is : held_of s ≡ pairs

-- What feeding a piece does: where there are not enough symbols for a run, they are held. Else so many are taken as make one, and it is read; the output
-- has its bits, of which those that count says are decided.
pub data FeedsSymbols (s : SymbolRuns) (piece output : List ℕ) (next : SymbolRuns) (taken count : ℕ) (exit : List ℕ) : Type 0 where
  gathered : length (held_of s ++ piece) < full_symbols s.rate → taken ≡ length piece → count ≡ 0 → exit ≡ output
      → RunsHold next s.rate s.memory (held_of s ++ piece) → FeedsSymbols s piece output next taken count exit
  read : (pairs : List ℕ) → pairs ≡ held_of s ++ take taken piece → taken ≤ length piece → length pairs ≡ full_symbols s.rate → count ≡ kept_bits s.rate
      → (after : ℕ) → FullRead s.rate s.memory pairs output after exit → RunsHold next s.rate after (drop (kept_symbols s.rate) pairs)
      → FeedsSymbols s piece output next taken count exit

-- What closing the runs gives: the bits of the whole patterns that are held, and how many symbols are behind them.
pub record ClosesRuns (s : SymbolRuns) (output : List ℕ) (count rest : ℕ) (exit : List ℕ) : Type 0 where
  pub whole : ℕ
  pub split : rest + symbols_per_pattern s.rate * whole ≡ s.count
  pub few : rest < symbols_per_pattern s.rate
  pub total : ℕ
  pub after : ℕ
  pub bits :
      BestRead (run_cost (costs_of (take (symbols_per_pattern s.rate * whole) (held_of s))) s.rate s.memory) (run_bits s.rate (symbols_per_pattern s.rate * whole)) s.memory output after total count exit
