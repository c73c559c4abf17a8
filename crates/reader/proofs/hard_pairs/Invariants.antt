-- `reader::hard_pairs` meets its contract.
-- Assumes nothing.
use mathlib.Core.Path.{◌≡◌}
use Prim.Native.Nat.{ℕ, ◌<◌}
use lib.ListN.{get_or}
use Rattle.reader.specs.Decisions.{hard_pair}
use Rattle.reader.proofs.hard_pairs.Given as goal

abbrev pub invariant-loop-i : goal.invariant-loop-i
invariant-loop-i l = (t : ℕ) → t < l.i → get_or l.output t 0 ≡ hard_pair (get_or l.symbols t 0)
