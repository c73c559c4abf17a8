-- `inner_code::grouped::uncoded_digits` meets its contract.
-- Assumes nothing.
use mathlib.Core.Path.{◌≡◌}
use mathlib.Core.List.{List}
use Prim.Native.Nat.{ℕ, suc, ◌+◌, ◌*◌}
use lib.ListN.{length, get_or}
use Rattle.inner_code.specs.Groups.{joined, digit_list}
use Rattle.inner_code.proofs.Groups.{Filled}
use Rattle.inner_code.proofs.grouped.uncoded_digits.Given as goal

-- the digits of a group
abbrev pub group : List ℕ → ℕ → ℕ → ℕ → ℕ → List ℕ
group block others base per i = joined others (λ j. digit_list base per (get_or block ((others + 1) * i + suc j) 0))

abbrev pub invariant-loop-i : goal.invariant-loop-i
invariant-loop-i l = (length l.uncoded ≡ 8 * l.groups) × Filled 8 (group l.block l.others l.base l.per) l.uncoded l.i
