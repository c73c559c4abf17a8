-- `randomizer::randomize` meets its contract.
-- Assumes nothing.
use mathlib.Core.Path.{refl}
use borrow.Author.Tests.{lt-ltb, le-ltb, eq-eqb, ne_eqb}
use Rattle.randomizer.proofs.randomize.Goals as goal

pub returns-then-place-gt7 : goal.returns-then-place-gt7
returns-then-place-gt7 c = simp (lt-ltb _ _ c.if-place-gt7.true) (refl, refl)

pub returns-then-packet-ne188 : goal.returns-then-packet-ne188
returns-then-packet-ne188 c = simp (le-ltb _ _ c.if-place-gt7.false, ne_eqb _ _ c.if-packet-ne188.true) (refl, refl)

pub returns-then-packet-ne71 : goal.returns-then-packet-ne71
returns-then-packet-ne71 c =
    simp (le-ltb _ _ c.if-place-gt7.false, eq-eqb _ _ c.if-packet-ne188.false, ne_eqb _ _ c.if-packet-ne71.true) (refl, refl)

pub returns-then-output-lt188 : goal.returns-then-output-lt188
returns-then-output-lt188 c =
    simp (le-ltb _ _ c.if-place-gt7.false, eq-eqb _ _ c.if-packet-ne188.false, eq-eqb _ _ c.if-packet-ne71.false, lt-ltb _ _ c.if-output-lt188.true) (refl, refl)

pub returns : goal.returns
returns c =
    simp (le-ltb _ _ c.if-place-gt7.false, eq-eqb _ _ c.if-packet-ne188.false, eq-eqb _ _ c.if-packet-ne71.false, le-ltb _ _ c.if-output-lt188.false)
    (refl, c.apply.ensures)
