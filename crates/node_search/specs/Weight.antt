-- How well a hypothesis fits a window of received symbols: what reading it as the hypothesis says costs beyond what its decisions cost in any case, as a
-- fraction of how far their costs lie apart. The gain of the receiver does not matter.
-- The thresholds are numbers that were measured; no standard names them.
-- Assumes nothing.
use Rattle.std.specs.Prelude.{◌≡◌, Bool, List, [], ◌∷◌, ◌++◌, map, ℕ, ◌+◌, ◌-◌, ◌*◌, ◌/◌, ◌%◌, min, max, ltb, length, get_or, take, drop, replicate}
use Rattle.common.specs.Lists.{total}
use Rattle.convolutional_code.specs.Costs.{zero_cost, one_cost}
use Rattle.viterbi_decoder.specs.Best.{Decoded}
use Rattle.reader.specs.Cost.{run_cost, costs_of}
use Rattle.reader.specs.Read.{symbols_per_pattern, run_bits}
use Rattle.reader_stream.specs.Runs.{run_patterns}
use Rattle.free_start.specs.Lead.{lead_patterns, lead_symbols}
use Rattle.symbol_turns.specs.Turn.{undoing, turned_pair}
use Rattle.node_search.specs.declared.Hypothesis.{Hypothesis}

-- what the cheaper value of a decided bit costs, and how much more the other does
abbrev pub cheaper : ℕ → ℕ
cheaper d = min (zero_cost d) (one_cost d)

abbrev pub apart : ℕ → ℕ
apart d = max (zero_cost d) (one_cost d) - min (zero_cost d) (one_cost d)

-- both decisions of a pair, and all pairs
abbrev pub of_pair : (ℕ → ℕ) → ℕ → ℕ
of_pair f p = f (p / 9) + f (p % 9)

abbrev pub floor_of : List ℕ → ℕ
floor_of pairs = total (of_pair cheaper) pairs

abbrev pub weight_of : List ℕ → ℕ
weight_of pairs = total (of_pair apart) pairs

-- the symbols of a longest run, less its lead
unfoldable pub tried_symbols : ℕ → ℕ
tried_symbols rate = symbols_per_pattern rate * (run_patterns rate - lead_patterns rate)

-- those of a window, from an offset on
abbrev pub tried_pairs : ℕ → ℕ → List ℕ → List ℕ
tried_pairs rate offset window = take (tried_symbols rate) (drop offset window)

-- the run that is read: unknown symbols, so that any memory may come before, and then the symbols turned back
abbrev pub led_run : ℕ → ℕ → List ℕ → List ℕ
led_run rate turn pairs = replicate (lead_symbols rate) 80 ++ map (turned_pair (undoing turn)) pairs

-- the least cost of a run, by the reader's own promise
pub record LeastCost (rate : ℕ) (run : List ℕ) (cost : ℕ) : Type 0 where
  pub bits : List ℕ
  pub after : ℕ
  pub decoded : Decoded (run_cost (costs_of run) rate 0) (run_bits rate (length run)) 0 bits cost after

-- the thresholds of the rates, in ten-thousandths
unfoldable pub threshold : ℕ → ℕ
threshold rate = get_or (760 ∷ 400 ∷ 255 ∷ 120 ∷ 72 ∷ []) rate 0

-- (cost - floor) / weight is below the threshold, with no division
abbrev pub fits : ℕ → List ℕ → ℕ → Bool
fits rate pairs cost = ltb (10000 * cost) (10000 * floor_of pairs + threshold rate * weight_of pairs)

-- whether symbols, turned back, are below the threshold of a rate
pub record Measured (rate turn : ℕ) (pairs : List ℕ) (below : Bool) : Type 0 where
  pub cost : ℕ
  pub least : LeastCost rate (led_run rate turn pairs) cost
  pub below_is : below ≡ fits rate pairs cost

-- whether a hypothesis about a window is below its threshold
abbrev pub Weighed : List ℕ → Hypothesis → Bool → Type 0
Weighed window h below = Measured h.rate h.turn (tried_pairs h.rate h.offset window) below
