-- The hypotheses about symbols that begin anywhere and came turned: the rate, how many symbols stand before the first whole pattern, and of the turn what an
-- inner decoder can tell.
-- Clauses: EN 300 421, 4.4.3, note 1 (source document 002).
-- Assumes nothing.
use mathlib.Core.List.{List, [], ◌∷◌, flatten}
use Rattle.std.specs.Prelude.{ℕ, ◌*◌, ◌/◌, ◌%◌, eqb, ltb, length, get_or}
use Rattle.common.specs.Choice.{pick}
use Rattle.common.specs.Lists.{list_of}
use Rattle.reader.specs.Read.{symbols_per_pattern}
use Rattle.node_search.specs.declared.Hypothesis.{Hypothesis}

abbrev pub hypothesis : ℕ → ℕ → ℕ → Hypothesis
hypothesis rate offset turn = record { rate = rate; offset = offset; turn = turn }

-- the classes of turns that can be told: the half turn at no rate, and at 5/6, number 3, not the mirror
abbrev pub turns_told : ℕ → List ℕ
turns_told rate = pick (eqb rate 3) (0 ∷ 1 ∷ []) (0 ∷ 1 ∷ 4 ∷ 5 ∷ [])

-- hypothesis k of a rate: each offset in a pattern with each class
abbrev pub hypothesis_at : ℕ → ℕ → Hypothesis
hypothesis_at rate k = hypothesis rate (k / length (turns_told rate)) (get_or (turns_told rate) (k % length (turns_told rate)) 0)

abbrev pub hypothesis_count : ℕ → ℕ
hypothesis_count rate = symbols_per_pattern rate * length (turns_told rate)

unfoldable pub hypotheses_of : ℕ → List Hypothesis
hypotheses_of rate = list_of (hypothesis_count rate) (hypothesis_at rate)

-- those of the first n rates
unfoldable pub hypotheses_below : ℕ → List Hypothesis
hypotheses_below n = flatten (list_of n hypotheses_of)

-- the number that asks for any rate
abbrev pub any_rate : ℕ
any_rate = 5

-- those that are searched where a rate is asked for, or any
abbrev pub searched : ℕ → List Hypothesis
searched rate = pick (ltb rate 5) (hypotheses_of rate) (hypotheses_below 5)
