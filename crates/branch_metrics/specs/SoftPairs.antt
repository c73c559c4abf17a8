-- Soft decisions as the decoder takes them, and as the state of a reader holds them: those on I and Q of a symbol as one number.
-- Assumes nothing.
use Rattle.std.specs.Prelude.{cond, List, ℕ, ◌+◌, ◌*◌, eqb, Float, get_or, Some, None}
use Rattle.std.specs.Float.{nan}
use Rattle.std.specs.Float.Ieee.{is_nan}
use Rattle.common.specs.Choice.{pick}
use Rattle.branch_metrics.specs.Level.{level_of}
use Rattle.branch_metrics.specs.Cost.{received, ReceivedSymbol}
use Rattle.branch_metrics.specs.declared.soft_decision.Point.{Point}

-- the decision on a number: its level, or 8 for a NaN, of which nothing is known
unfoldable pub number_decision : Float → ℕ
number_decision x = cond (is_nan x) 8 (level_of x)

-- the decision on a number of a symbol that has a mark
abbrev pub marked : ℕ → ℕ → ℕ
marked mark d = pick (eqb mark 0) d 8

-- those on I and Q of a point as one number
abbrev pub point_levels : Point → ℕ
point_levels p = 9 * number_decision p.i + number_decision p.q

unfoldable pub symbol_pair : ReceivedSymbol → ℕ
symbol_pair (Some p) = point_levels p
symbol_pair None = 80

-- the symbol at a place of three lists
abbrev pub symbol_at : List Float → List Float → List ℕ → ℕ → ReceivedSymbol
symbol_at is qs lost k = received (get_or is k nan) (get_or qs k nan) (get_or lost k 0)
