-- What a run of received symbols costs a sequence of bits, by the inner coder's own definition.
-- Clauses: document 02, P1 and P8.
-- Assumes nothing.
use Rattle.std.specs.Prelude.{◌≡◌, List, [], ◌∷◌, map, ℕ, ◌+◌, ◌/◌, ◌%◌, ◌<◌, length, get_or}
use Rattle.common.specs.Choice.{unequal}
use Rattle.common.specs.Lists.{list_of}
use Rattle.convolutional_code.specs.Costs.{pair_cost}
use Rattle.inner_code.specs.Encode.{coder_at}
use Rattle.inner_code.specs.Step.{symbols_of}
use Rattle.branch_metrics.specs.Cost.{softly, ReceivedSymbol}

-- in how many of I and Q a received symbol differs from one that is sent
abbrev pub differing : ℕ → ℕ → ℕ
differing received sent = unequal (received / 2) (sent / 2) + unequal (received % 2) (sent % 2)

-- the sum of what the symbols cost, where each received one says what each sent one would cost; the lists are of one length
unfoldable pub total_cost : List (ℕ → ℕ) → List ℕ → ℕ
total_cost [] ss = 0
total_cost (c ∷ cs) [] = 0
total_cost (c ∷ cs) (s ∷ ss) = c s + total_cost cs ss

-- what a run costs a sequence of bits: of the symbols that the coder makes of them
abbrev pub run_cost : List (ℕ → ℕ) → ℕ → ℕ → List ℕ → ℕ
run_cost costs rate memory bits = total_cost costs (symbols_of (coder_at rate memory) bits)

-- hard decisions: the number of I and Q bits in which the coding of the bits differs from what was received
abbrev pub hard_cost : List ℕ → ℕ → ℕ → List ℕ → ℕ
hard_cost received = run_cost (map differing received)

-- soft decisions: the sum of what the decisions on I and Q cost
abbrev pub soft_cost : List ReceivedSymbol → ℕ → ℕ → List ℕ → ℕ
soft_cost received = run_cost (map softly received)

-- what each symbol costs by a list that has the decisions on its I and Q as one number
abbrev pub symbol_cost : List ℕ → ℕ → ℕ → ℕ
symbol_cost l i sent = pair_cost (get_or l i 0) (sent / 2) (sent % 2)

unfoldable pub costs_of : List ℕ → List (ℕ → ℕ)
costs_of l = list_of (length l) (symbol_cost l)

-- A list that has so the decisions on received symbols, where `cost r` says what each sent symbol would cost. By the list it may cost more, by a number that
-- depends on the place alone and not on what was sent: that changes what all sequences cost, and not which one is the best.
pub record Costed {R : Type 0} (cost : R → ℕ → ℕ) (rs : List R) (l : List ℕ) : Type 0 where
  pub size : length l ≡ length rs
  pub extra : ℕ → ℕ
  pub each : (i sent : ℕ) → i < length rs → sent < 4 → get_or (map cost rs) i (λ s. 0) sent + extra i ≡ symbol_cost l i sent
