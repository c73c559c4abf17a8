-- Received symbols that a coder sent from the start of a pattern on, turned on their way, and the turn that a reading has to turn back for them.
-- Clauses: EN 300 421, 4.4.3, note 1 (source document 002).
-- Assumes nothing.
use Rattle.std.specs.Prelude.{◌≡◌, Bool, List, ◌++◌, map, ℕ, ◌+◌, ◌*◌, ◌/◌, ◌%◌, ◌<◌, eqb}
use Rattle.common.specs.Lists.{All}
use Rattle.convolutional_code.specs.Bits.{Bits}
use Rattle.inner_code.specs.Encode.{coder_at}
use Rattle.inner_code.specs.Step.{symbols_of}
use Rattle.symbol_turns.specs.Turn.{turned, by_pair}
use Rattle.node_search.specs.Sent.{AllPrefer}

-- A coder at the start of a pattern, with any memory, is given bits; some of its symbols came, turned, and their decisions, hard or soft, prefer the turned ones.
pub record SentSymbols (rate turn : ℕ) (bits symbols : List ℕ) : Type 0 where
  pub memory : ℕ
  pub in_range_lem : memory < 64
  pub binary : Bits bits
  pub came : List ℕ
  pub later : List ℕ
  pub stream : came ++ later ≡ symbols_of (coder_at rate memory) bits
  pub small : All (λ p. p < 81) symbols
  pub preferred : AllPrefer by_pair symbols (map (turned turn) came)

-- a turn without the half turn, which the sync bytes alone tell: 0, 1, 4 or 5
unfoldable pub less_half : ℕ → ℕ
less_half turn = 4 * (turn / 4) + turn % 2

-- whether there is half a turn in it, which inverts every bit
unfoldable pub has_half : ℕ → Bool
has_half turn = eqb (turn / 2 % 2) 1
