-- `node_search::is_candidate` meets its contract.
-- Assumes nothing.
use native.Mathlib.Omega.{arith}
use Rattle.node_search.proofs.Numbers.{numbers}
use Rattle.node_search.proofs.is_candidate.Goals as goal

pub overflow_add-end : goal.overflow_add-end
overflow_add-end c = omega (arith, c.tried_symbols.ensures, (numbers c.args.h.rate c.requires.0).tried_most, c.requires.1)

pub slice_bounds-is_below-end : goal.slice_bounds-is_below-end
slice_bounds-is_below-end c = omega (arith, c.tried_symbols.ensures, (numbers c.args.h.rate c.requires.0).tried_most, c.requires.1)
