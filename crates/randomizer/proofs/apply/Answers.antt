-- `randomizer::apply` meets its contract.
-- Assumes nothing.
use mathlib.Core.Path.{◌≡◌, ap₂, ◌∙◌}
use mathlib.Core.List.{List, ◌++◌}
use Prim.Native.Nat.{ℕ}
use native.Mathlib.Nat.{zero-add}
use native.Mathlib.Omega.{arith}
use lib.ListN.{drop}
use Rattle.randomizer.specs.Packet.{randomized}
use Rattle.randomizer.proofs.apply.Goals as goal
use Rattle.randomizer.proofs.apply.Goals.{in-0, in-1, in-2, in-3, in-4, in-5, in-6, in_default}

pub returns : goal.returns
returns c =
    let a = c.args in
    let m = c.match-place in
    let is : m.sent ≡ randomized a.place a.packet.now
    = elim m.branch [ in-0 w ↦ cc | in-1 w ↦ cc | in-2 w ↦ cc | in-3 w ↦ cc | in-4 w ↦ cc | in-5 w ↦ cc | in-6 w ↦ cc | in_default w ↦ (let seven : a.place ≡ 7 = omega arith in cc) ]
    in
    c.put.ensures ∙ ap₂ (λ (u : List ℕ) (k : ℕ). u ++ drop k a.output.now) is (zero-add _ ∙ m.array_long)
