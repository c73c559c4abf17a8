-- `common::largest_of` meets its contract: the largest of the bytes before the one that comes.
-- Assumes nothing.
use mathlib.Core.Path.{◌≡◌}
use lib.ListN.{take}
use Rattle.common.specs.Lists.{largest}
use Rattle.common.proofs.largest_of.Given as goal

abbrev pub invariant-loop-byte : goal.invariant-loop-byte
invariant-loop-byte l = l.most ≡ largest (take l.byte-index l.bytes)
