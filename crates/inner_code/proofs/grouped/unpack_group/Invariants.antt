-- `inner_code::grouped::unpack_group` meets its contract.
-- Assumes nothing.
use mathlib.Core.Path.{◌≡◌}
use lib.ListN.{length, get_or}
use Rattle.inner_code.specs.Groups.{digit_list}
use Rattle.inner_code.proofs.Groups.{Filled}
use Rattle.inner_code.proofs.grouped.unpack_group.Given as goal

abbrev pub invariant-loop-j : goal.invariant-loop-j
invariant-loop-j l = (length l.output ≡ 8) × Filled l.per (λ j'. digit_list l.base l.per (get_or l.bytes j' 0)) l.output l.j
