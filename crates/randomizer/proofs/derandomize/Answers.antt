-- `randomizer::derandomize` meets its contract.
-- Assumes nothing.
use mathlib.Core.Path.{◌≡◌, refl, ap, ◌∙◌}
use mathlib.Core.List.{List}
use Prim.Native.Nat.{ℕ}
use native.Mathlib.Omega.{arith}
use borrow.Author.Tests.{lt-ltb, le-ltb, eq-eqb, ne_eqb}
use lib.ListN.{length, set}
use Rattle.randomizer.specs.Packet.{randomized, derandomized}
use Rattle.randomizer.proofs.Laws.{length_randomized, first_set}
use Rattle.randomizer.proofs.derandomize.Goals as goal

pub returns-then-place-gt7 : goal.returns-then-place-gt7
returns-then-place-gt7 c = simp (lt-ltb _ _ c.if-place-gt7.true) (refl, refl)

pub returns-then-packet-ne188 : goal.returns-then-packet-ne188
returns-then-packet-ne188 c = simp (le-ltb _ _ c.if-place-gt7.false, ne_eqb _ _ c.if-packet-ne188.true) (refl, refl)

pub returns-then-output-lt188 : goal.returns-then-output-lt188
returns-then-output-lt188 c =
    simp (le-ltb _ _ c.if-place-gt7.false, eq-eqb _ _ c.if-packet-ne188.false, lt-ltb _ _ c.if-output-lt188.true) (refl, refl)

pub returns : goal.returns
unfolding derandomized
returns c =
    let a = c.args in
    let sent = randomized a.place a.packet.now in
    let n : length sent ≡ 188 = length_randomized a.place a.packet.now c.if-place-gt7.false c.if-packet-ne188.false in
    simp (le-ltb _ _ c.if-place-gt7.false, eq-eqb _ _ c.if-packet-ne188.false, le-ltb _ _ c.if-output-lt188.false) (
      refl,
      ap (λ (l : List ℕ). set l 0 0x47) c.apply.ensures ∙ first_set sent _ 0x47 (rw n (omega arith)),
    )
