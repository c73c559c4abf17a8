-- Noise that is sparse: of the symbols that came, so many in a row leave little doubt about those that were sent.
-- Assumes nothing.
use Rattle.std.specs.Prelude.{◌≡◌, List, ◌++◌, map, ℕ, ◌+◌, ◌-◌, ◌*◌, ◌/◌, ◌%◌, ◌≤◌, ◌<◌, length, take, drop}
use Rattle.convolutional_code.specs.Bits.{Bits}
use Rattle.puncturing.specs.Mode.{qpsk_count}
use Rattle.puncturing.specs.Step.{pattern_length}
use Rattle.inner_code.specs.Step.{symbols_of}
use Rattle.inner_code.specs.Encode.{coder_at}
use Rattle.branch_metrics.specs.Cost.{BitCosts, symbol_costs, decided_as, ReceivedSymbol}
use Rattle.reader.specs.Cost.{total_cost}
use Rattle.reader.specs.Read.{symbols_per_pattern, run_bits}
use Rattle.noise_tolerance.specs.Table.{Limits}

-- Any n symbols in a row that were sent are doubted by at most t, where `doubts` says of each received symbol how much it doubts each sent one. With
-- `map differing received` the doubt is the number of I and Q bits that came wrong.
unfoldable pub SparseSymbols : ℕ → ℕ → List (ℕ → ℕ) → List ℕ → Type 0
SparseSymbols n t doubts sent = (i : ℕ) → total_cost (take n (drop i doubts)) (take n (drop i sent)) ≤ t

-- The last n symbols are not doubted. With `map differing received` they came as they were sent.
unfoldable pub QuietEnd : ℕ → List (ℕ → ℕ) → List ℕ → Type 0
QuietEnd n doubts sent = total_cost (drop (length sent - n) doubts) (drop (length sent - n) sent) ≡ 0

-- ---- soft decisions

-- The doubt about a bit that was sent is twice what deciding for it costs, and 7 where neither value costs anything: its number is a NaN, or its symbol lost.
-- A wrong bit of full level is doubted by 14.
abbrev pub bit_doubt : BitCosts → ℕ → ℕ
bit_doubt c b = 2 * decided_as c b + (7 - (c.zero + c.one))

abbrev pub soft_doubt : ReceivedSymbol → ℕ → ℕ
soft_doubt r sent = bit_doubt (symbol_costs r).i (sent / 2) + bit_doubt (symbol_costs r).q (sent % 2)

-- ---- what came of what was sent

-- a run: bits that were coded from a memory on, in whole patterns, and as many symbols that came, sparsely doubted
pub record NoisyRun {R : Type 0} (doubt : R → ℕ → ℕ) (l : Limits) (rate m : ℕ) (bits : List ℕ) (received : List R) : Type 0 where
  pub known : rate < qpsk_count
  pub in_range_lem : m < 64
  pub binary : Bits bits
  pub whole : length bits % pattern_length rate ≡ 0
  pub as_long : length received ≡ length (symbols_of (coder_at rate m) bits)
  pub sparse : SparseSymbols l.window l.tolerated (map doubt received) (symbols_of (coder_at rate m) bits)

-- a stream: the symbols of a fresh coder, of which so many came, sparsely doubted; any number may be left unread at the end
pub record NoisyStream {R : Type 0} (doubt : R → ℕ → ℕ) (l : Limits) (rate : ℕ) (bits : List ℕ) (received : List R) (came unread : List ℕ) : Type 0 where
  pub binary : Bits bits
  pub coded : came ++ unread ≡ symbols_of (coder_at rate 0) bits
  pub as_long : length received ≡ length came
  pub sparse : SparseSymbols l.window l.tolerated (map doubt received) came

-- What is read of a stream of which so many symbols came: as many bits as their whole patterns have, and all of these but the last ones are those that
-- were sent. The symbols behind the patterns are counted, and in no bit.
pub record StreamBack (rate unsure : ℕ) (bits : List ℕ) (came : ℕ) (out : List ℕ) (rest : ℕ) : Type 0 where
  pub given : take (run_bits rate came - unsure) out ≡ take (run_bits rate came - unsure) bits
  pub size : length out ≡ run_bits rate came
  pub within : run_bits rate came ≤ length bits
  pub behind : rest ≡ came % symbols_per_pattern rate
