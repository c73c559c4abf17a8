-- `node_search::hypothesis_at` meets its contract.
-- Assumes nothing.
use native.Mathlib.Omega.{arith}
use Rattle.node_search.proofs.Verdicts.{hypothesis_is}
use Rattle.node_search.proofs.hypothesis_at.Goals as goal

pub overflow_cast-result : goal.overflow_cast-result
overflow_cast-result c = omega (arith, (hypothesis_is c.args.rate c.args.k c.requires.0 c.requires.1 c.turn_count-turns.ensures).1)

pub returns : goal.returns
returns c = hypothesis_is c.args.rate c.args.k c.requires.0 c.requires.1 c.turn_count-turns.ensures
