-- `bit_packing::pack_bytes` meets its contract.
-- Assumes nothing.
use mathlib.Core.Path.{◌≡◌}
use mathlib.Core.List.{◌++◌}
use Prim.Native.Nat.{◌*◌}
use lib.ListN.{take, drop}
use Rattle.bit_packing.specs.Packing.{packed_bytes}
use Rattle.bit_packing.proofs.pack_bytes.Given as goal

abbrev pub invariant-loop-k : goal.invariant-loop-k
invariant-loop-k l = (l.output ≡ packed_bytes (take (8 * l.k) l.bits) ++ drop l.k l.initial.output)
