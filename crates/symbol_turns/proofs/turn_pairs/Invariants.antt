-- `symbol_turns::turn_pairs` meets its contract.
-- Assumes nothing.
use mathlib.Core.List.{map}
use Rattle.common.proofs.Written.{Written}
use Rattle.symbol_turns.specs.Turn.{turned_pair}
use Rattle.symbol_turns.proofs.turn_pairs.Given as goal

abbrev pub invariant-loop-k : goal.invariant-loop-k
invariant-loop-k l = Written 0 l.initial.output (map (turned_pair l.turn) l.pairs) l.output l.k
