-- A window of symbols that a coder sent, cut anywhere in its stream, turned on their way, each of which is decided
-- rightly; and the hypothesis that is true of it.
-- Assumes nothing.
use Rattle.std.specs.Prelude.{◌≡◌, List, [], ◌∷◌, ◌++◌, map, ℕ, ◌-◌, ◌%◌, ◌<◌, length}
use Rattle.common.specs.Lists.{All}
use Rattle.convolutional_code.specs.Bits.{Bits}
use Rattle.inner_code.specs.Encode.{coder_at}
use Rattle.inner_code.specs.Step.{symbols_of}
use Rattle.reader.specs.Read.{symbols_per_pattern}
use Rattle.symbol_turns.specs.Turn.{turned, turn_class, by_pair}
use Rattle.node_search.specs.Hypotheses.{hypothesis}
use Rattle.node_search.specs.Search.{window_length}
use Rattle.node_search.specs.declared.Hypothesis.{Hypothesis}

-- what was received prefers the symbol that was sent: every other one costs more
abbrev pub Prefers : {R : Type 0} → (R → ℕ → ℕ) → R → ℕ → Type 0
Prefers cost r sent = (other : ℕ) → other < 4 → (other ≡ sent → ⊥) → cost r sent < cost r other

-- all that was received does so, symbol by symbol
pub data AllPrefer {R : Type 0} (cost : R → ℕ → ℕ) : List R → List ℕ → Type 0 where
  none : AllPrefer cost [] []
  more : {r : R} {s : ℕ} {rs : List R} {ss : List ℕ} → Prefers cost r s → AllPrefer cost rs ss → AllPrefer cost (r ∷ rs) (s ∷ ss)

pub record SentWindow (rate turn passed : ℕ) (window : List ℕ) : Type 0 where
  -- a coder at the start of a pattern, with any memory, is given bits
  pub memory : ℕ
  pub in_range_lem : memory < 64
  pub bits : List ℕ
  pub binary : Bits bits
  -- so many of its symbols passed before the window, and these are in it
  pub before : List ℕ
  pub came : List ℕ
  pub later : List ℕ
  pub stream : before ++ came ++ later ≡ symbols_of (coder_at rate memory) bits
  pub cut : length before ≡ passed
  -- they came turned, and their decisions, hard or soft, prefer the turned ones
  pub size : length window ≡ window_length
  pub small : All (λ p. p < 81) window
  pub preferred : AllPrefer by_pair window (map (turned turn) came)

-- how many symbols stand before the first whole pattern, where so many passed
abbrev pub start_offset : ℕ → ℕ → ℕ
start_offset rate passed = (symbols_per_pattern rate - passed % symbols_per_pattern rate) % symbols_per_pattern rate

abbrev pub true_hypothesis : ℕ → ℕ → ℕ → Hypothesis
true_hypothesis rate turn passed = hypothesis rate (start_offset rate passed) (turn_class rate turn)
