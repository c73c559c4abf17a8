-- `interleaver::pass` meets its contract.
-- Assumes nothing.
use mathlib.Core.Path.{◌≡◌, refl, sym, ◌∙◌}
use mathlib.Core.Bool.{true}
use borrow.Author.Tests.{eq-eqb, ne_eqb, lt-ltb, le-ltb}
use Rattle.interleaver.specs.Branch.{branches_in_range}
use Rattle.interleaver.proofs.pass.Goals as goal

pub returns-then-not-positions_within : goal.returns-then-not-positions_within
returns-then-not-positions_within c = simp (sym c.positions_within.ensures ∙ c.if-not-positions_within.true) (refl, refl, refl)

pub returns-then-block-ne204 : goal.returns-then-block-ne204
returns-then-block-ne204 c =
    let good : let a = c.args in branches_in_range a.side a.branches ≡ true = sym c.positions_within.ensures ∙ c.if-not-positions_within.false in
    simp (good, ne_eqb _ _ c.if-block-ne204.true) (refl, refl, refl)

pub returns-then-output-lt204 : goal.returns-then-output-lt204
returns-then-output-lt204 c =
    let good : let a = c.args in branches_in_range a.side a.branches ≡ true = sym c.positions_within.ensures ∙ c.if-not-positions_within.false in
    simp (good, eq-eqb _ _ c.if-block-ne204.false, lt-ltb _ _ c.if-output-lt204.true) (refl, refl, refl)

pub pass_block-requires : goal.pass_block-requires
pass_block-requires c =
    let good : let a = c.args in branches_in_range a.side a.branches ≡ true = sym c.positions_within.ensures ∙ c.if-not-positions_within.false in
    (good, c.if-block-ne204.false, c.if-output-lt204.false)

pub returns : goal.returns
returns c =
    let good : let a = c.args in branches_in_range a.side a.branches ≡ true = sym c.positions_within.ensures ∙ c.if-not-positions_within.false in
    let r = c.pass_block.ensures in
    simp (good, eq-eqb _ _ c.if-block-ne204.false, le-ltb _ _ c.if-output-lt204.false) (refl, r.0, r.1)
