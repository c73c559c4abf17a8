-- `losses::decide` meets its contract.
-- Assumes nothing.
use mathlib.Core.Path.{◌≡◌, sym, ◌∙◌}
use mathlib.Core.Bool.{true, false}
use native.Mathlib.Omega.{arith}
use borrow.Author.Tests.{eq-eqb, ne_eqb}
use Rattle.losses.specs.List.{line}
use Rattle.losses.specs.Watch.{waiting_lines}
use Rattle.losses.proofs.Decisions.{writes_none, writes_waiting, writes_behind}
use Rattle.losses.proofs.decide.Goals as goal

pub returns-then-number-ne0 : goal.returns-then-number-ne0
returns-then-number-ne0 c =
    let w = c.waiting-count.ensures in
    let z = ne_eqb _ _ c.if-number-ne0.true in (
      simp z,
      simp (z, c.line.ensures)
          (writes_behind (waiting_lines c.args.certainty c.args.block) c.args.lines.now _ _ (line c.args.block c.args.number)
          (writes_waiting c.args.certainty c.args.block _ c.args.lines.now _ w c.put_doubts.ensures) (omega (arith, w, c.requires.3))),
    )

pub returns-then-not-start : goal.returns-then-not-start
returns-then-not-start c =
    let a = c.args in
    let z = eq-eqb _ _ c.if-number-ne0.false in
    let t : a.start ≡ false = c.if-not-start.true in
    (c.one_more.ensures ∙ sym (simp (z, t)), simp (z, t) (writes_none a.lines.now))

pub returns-then-due : goal.returns-then-due
returns-then-due c =
    let a = c.args in
    let z = eq-eqb _ _ c.if-number-ne0.false in
    let t : a.start ≡ true = c.if-not-start.false in
    (simp (z, t), simp (z, t, c.if-due.true) (writes_none a.lines.now))

pub returns : goal.returns
returns c =
    let z = eq-eqb _ _ c.if-number-ne0.false in
    let t : c.args.start ≡ true = c.if-not-start.false in (
      simp (z, t),
      simp (z, t, c.if-due.false)
          (writes_waiting c.args.certainty c.args.block _ c.args.lines.now _ c.waiting-count.ensures c.put_doubts-2.ensures),
    )
