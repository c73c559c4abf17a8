-- What a received symbol makes each decision cost.
-- Clause: document 02, P8.
-- Assumes nothing.
use Rattle.std.specs.Prelude.{cond, List, [], ◌∷◌, ℕ, zero, suc, ◌+◌, ◌-◌, ◌/◌, ◌%◌, eqb, Float, Some, None, Option}
use Rattle.std.specs.Float.Ieee.{is_nan}
use Rattle.branch_metrics.specs.declared.soft_decision.Point.{Point}
use Rattle.common.specs.Choice.{pick}
use Rattle.branch_metrics.specs.Level.{level_of}

-- a symbol as the demodulator hands it over: the point that was received, or none where the symbol was lost
abbrev pub ReceivedSymbol : Type 0
ReceivedSymbol = Option Point

-- what deciding a bit as 0, and as 1, costs; and the costs of I and of Q
pub record BitCosts : Type 0 where
  pub zero : ℕ
  pub one : ℕ

pub record SymbolCosts : Type 0 where
  pub i : BitCosts
  pub q : BitCosts

abbrev pub free : BitCosts
free = record { zero = 0; one = 0 }

abbrev pub by_level : ℕ → BitCosts
by_level l = record { zero = 7 - l; one = l }

-- a number's bit: deciding 0 costs 7 less its level, and 1 its level; a NaN costs nothing either way
unfoldable pub number_costs : Float → BitCosts
number_costs x = cond (is_nan x) free (by_level (level_of x))

-- a lost symbol costs nothing either way
unfoldable pub symbol_costs : ReceivedSymbol → SymbolCosts
symbol_costs (Some p) = record { i = number_costs p.i; q = number_costs p.q }
symbol_costs None = record { i = free; q = free }

-- deciding a bit as 0 or as 1
abbrev pub decided_as : BitCosts → ℕ → ℕ
decided_as c b = pick (eqb b 0) c.zero c.one

-- what the received symbol costs where 2 I + Q was sent
abbrev pub softly : ReceivedSymbol → ℕ → ℕ
softly r sent = decided_as (symbol_costs r).i (sent / 2) + decided_as (symbol_costs r).q (sent % 2)

-- ---- the symbols of three lists

-- a mark of 0 is for a point, and any other for a lost symbol
abbrev pub received : Float → Float → ℕ → ReceivedSymbol
received i q zero = Some (record { i = i; q = q })
received i q (suc mark) = None

unfoldable pub received_of : List Float → List Float → List ℕ → List ReceivedSymbol
received_of [] qs lost = []
received_of (i ∷ is) [] lost = []
received_of (i ∷ is) (q ∷ qs) [] = []
received_of (i ∷ is) (q ∷ qs) (mark ∷ lost) = received i q mark ∷ received_of is qs lost
